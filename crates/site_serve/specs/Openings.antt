-- The invariant of a ledger from the opening of its site on: its keeper has what it had at first, then exactly what the
-- site has published since, and all of it survives a crash.
use Rattle.std.specs.Prelude.{◌≡◌, ◌<◌, ◌∷◌, ◌++◌, IfOk, List, Result, length}
use Rattle.logbook.specs.Pages.{Book}
use Rattle.replica_core.specs.Journal.{all_arrived}
use Rattle.review_ops.specs.Operation.{Operation}
use Rattle.site_ledger.specs.Keeping.{Entries, IsFaithful}
use Rattle.site_serve.specs.declared.setup.ServeFault.{ServeFault}
use Rattle.site_serve.specs.declared.setup.Served.{Served}

-- the ledger of an opening with this record, whose keeper had such operations at first
pub record IsOfOpening {K : Type 0} (held_by survives_by : K → List Operation → Type 0) (book : Book) (journal : List Operation) (had : List Operation → Type 0) (entries : Entries K) : Type 0 where
  pub ours : entries.account.book ≡ book
  pub opened : 0 < length entries.account.published
  pub begins : (later : List (List Operation)) × (entries.account.published ≡ journal ∷ later)
  pub faithful : (first : List Operation) → had first → IsFaithful held_by survives_by first entries

-- whatever the keeper had at first survives, with some operations after it; where the site was served, what it had in
-- the end is the record that it was opened with and these, and nothing else
abbrev pub HasKept : {K : Type 0} → (K → List Operation → Type 0) → (List Operation → Type 0) → List Operation → K
    → Result Served ServeFault → Type 0
HasKept survives_by had journal keeper served =
    (first : List Operation) → had first
    → (more : List Operation) × survives_by keeper (first ++ more)
    × IfOk served (λ served. served.replica ≡ all_arrived journal more)

-- the same of the record that was shown last
abbrev pub HasShown : {K : Type 0} → (K → List Operation → Type 0) → (List Operation → Type 0) → List Operation → K
    → List Operation → Type 0
HasShown survives_by had journal keeper shown =
    (first : List Operation) → had first
    → (more : List Operation) × survives_by keeper (first ++ more) × (shown ≡ all_arrived journal more)
