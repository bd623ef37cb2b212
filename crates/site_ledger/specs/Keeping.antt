-- What is published was kept: the write-ahead rule, by which what a change is recorded in is on disk before the change
-- is shown (Mohan et al., ACM Transactions on Database Systems 17, 1992, 1.1).
use Rattle.std.specs.Prelude.{◌≡◌, ◌<◌, ◌≤◌, ℕ, Bool, true, false, List, ◌++◌, IfSome, IsSome}
use Rattle.std.specs.Prelude.{drop, flat_map, length, take}
use Rattle.review_ops.specs.Operation.{Operation}
use Rattle.site_shared.specs.Accounts.{Account}
use Rattle.site_journal.specs.Book.{Book}
use Rattle.site_journal.specs.Tape.{IsLeftBy}
use Rattle.site_journal.specs.Text.{SaysJournal}
use Rattle.site_ledger.specs.declared.ledger.LedgerFault.{LedgerFault}
use Rattle.site_ledger.specs.declared.ledger.LedgerFault.TheVariants.{NoMemory, NotKept}

-- whatever a crash leaves of the journal says these operations, in this order, and perhaps more after them
abbrev pub Survive : Book → List Operation → Type 0
Survive book ops = IfSome book.image
    (λ i. (left : List ℕ) → IsLeftBy i left → (more : List Operation) × (rest : List ℕ) × SaysJournal left (ops ++ more) rest)

-- it is known what the tape of the journal has: only of such a one `Survive` says something
abbrev pub IsKnown : Book → Type 0
IsKnown book = IsSome book.image

-- what a ledger has: the account of its desk, what keeps its operations, how many of those that are held are kept, and
-- whether no more can be kept
pub record Entries (K : Type 0) : Type 0 where
  pub account : Account
  pub keeper : K
  pub kept : ℕ
  pub is_over : Bool

-- all that was published since the opening, in its order
abbrev pub published_ops : Account → List Operation
published_ops account = flat_map (λ ops. ops) (drop 1 account.published)

-- all that was published since the opening, and then those of what is held that are kept
abbrev pub kept_ops : {K : Type 0} → Entries K → List Operation
kept_ops entries = published_ops entries.account ++ take entries.kept entries.account.held

-- after these operations the keeper has just what was published since the opening and what of the held is kept, as long
-- as it goes on; and that survives, also where it doesn't
pub record IsFaithful {K : Type 0} (held_by survives_by : K → List Operation → Type 0) (first : List Operation) (entries : Entries K) : Type 0 where
  pub survives : survives_by entries.keeper (first ++ kept_ops entries)
  pub holds : entries.is_over ≡ false → held_by entries.keeper (first ++ kept_ops entries)

-- a site was opened with what its keeper had at first, and all that it published since is kept
pub record IsKeeping {K : Type 0} (held_by survives_by : K → List Operation → Type 0) (entries : Entries K) : Type 0 where
  pub first : List Operation
  pub opened : 0 < length entries.account.published
  pub within : entries.kept ≤ length entries.account.held
  pub faithful : IsFaithful held_by survives_by first entries

-- what was published stays so, in its order; and whatever the keeper had at first, after it still comes just what was
-- published since, and what of the held is kept
pub record KeepsOn {K : Type 0} (held_by survives_by : K → List Operation → Type 0) (old new : Entries K) : Type 0 where
  pub published : (later : List (List Operation)) × (new.account.published ≡ old.account.published ++ later)
  pub faithful : (first : List Operation) → IsFaithful held_by survives_by first old
      → IsFaithful held_by survives_by first new

-- why nothing was published; unless memory was refused, nothing more is kept from now on
abbrev pub is_over_after : LedgerFault → Bool
is_over_after NoMemory = false
is_over_after NotKept = true

-- all but the account is as before
pub record IsSameKeeping {K : Type 0} (old new : Entries K) : Type 0 where
  pub keeper : new.keeper ≡ old.keeper
  pub kept : new.kept ≡ old.kept
  pub is_over : new.is_over ≡ old.is_over
