-- What a ledger has published is kept, while it goes on and once it has ended.
use Rattle.std.proofs.Common.{◌≡◌, ◌∙◌, ◌∷◌, ◌++◌, [], true, List, Option, Result, Ok, Err, inl, inr, refl, ap, sym, subst}
use Rattle.std.proofs.Common.{append_assoc, drop, take}
use Rattle.std.specs.Prelude.{IfOk, flat_map}
use Rattle.logbook.specs.Pages.{Book}
use Rattle.replica_core.specs.Journal.{all_arrived, has}
use Rattle.replica_core.specs.JournalLaws.{IsPartOf, all_arrived-append, has-all_arrived, has-append_cases}
use Rattle.replica_core.specs.JournalLaws.{has-append_left, has-append_right}
use Rattle.review_ops.specs.Operation.{Operation}
use Rattle.review_ops.specs.Timestamp.{Timestamp}
use Rattle.site_ledger.specs.Keeping.{Entries, kept_ops, published_ops}
use Rattle.site_serve.specs.Acknowledged.{IsSaidBy, has_stamped}
use Rattle.site_serve.specs.Openings.{HasKept, HasShown, IsOfOpening}
use Rattle.site_serve.specs.declared.setup.ServeFault.{ServeFault}
use Rattle.site_serve.specs.declared.setup.Served.{Served}
use Rattle.site_shared.specs.Publishes.{arrive}
use Rattle.site_serve.proofs.Held.{taken_on}

-- publishes arrive as their operations do, one after the other
pub arrived_in_turn : (journal : List Operation) (later : List (List Operation))
    → arrive (journal ∷ later) ≡ all_arrived journal (flat_map (λ ops. ops) later)
arrived_in_turn journal [] = refl
arrived_in_turn journal (ops ∷ later) =
    arrived_in_turn (all_arrived journal ops) later ∙ sym (all_arrived-append journal ops (flat_map (λ ops. ops) later))

-- what was published is among what is kept, where the keeper had the record of the opening
published_kept : {K : Type 0} (entries : Entries K) (journal first : List Operation) (later : List (List Operation))
    → entries.account.published ≡ journal ∷ later → IsPartOf journal first
    → IsPartOf (arrive entries.account.published) (first ++ kept_ops entries)
published_kept entries journal first later is part op h =
    let ops = flat_map (λ (ops : List Operation). ops) later in
    let come : has (all_arrived journal ops) op ≡ true =
    ap (λ l. has l op) (sym (ap arrive is ∙ arrived_in_turn journal later)) ∙ h in
    elim (has-append_cases journal ops op (sym (has-all_arrived journal ops op) ∙ come)) [
      | inl had ↦ has-append_left first (kept_ops entries) op (part op had)
      | inr new ↦ has-append_right first (kept_ops entries) op
          (has-append_left (published_ops entries.account) (take entries.kept entries.account.held) op
          (ap (λ (p : List (List Operation)). has (flat_map (λ (ops : List Operation). ops) (drop 1 p)) op) is ∙ new))
    ]

pub answered_survives : {K : Type 0} (H S : K → List Operation → Type 0) (book : Book) (journal first : List Operation)
    (had : List Operation → Type 0) (entries : Entries K) (stamp : Option Timestamp)
    → IsOfOpening H S book journal had entries → had first → IsPartOf journal first
    → has_stamped (arrive entries.account.published) stamp ≡ true → IsSaidBy (S entries.keeper) stamp
answered_survives H S book journal first had entries stamp own has_first part answered = (
  first ++ kept_ops entries,
  (own.faithful first has_first).survives,
  taken_on (arrive entries.account.published) (first ++ kept_ops entries)
      (published_kept entries journal first own.begins.0 own.begins.1 part) (Ok stamp) answered,
)

-- what was published survives, and was shown
pub shown_kept : {K : Type 0} (H S : K → List Operation → Type 0) (book : Book) (journal : List Operation)
    (had : List Operation → Type 0) (entries : Entries K) (keeper : K) (shown : List Operation)
    → IsOfOpening H S book journal had entries → keeper ≡ entries.keeper → shown ≡ arrive entries.account.published
    → ((ops more : List Operation) → S keeper (ops ++ more) → S keeper ops) → HasShown S had journal keeper shown
shown_kept {K = K} H S book journal had entries keeper shown own same is front = λ first h.
    let later = own.begins.0 in
    let ops = flat_map (λ (ops : List Operation). ops) later in
    let held = take entries.kept entries.account.held in
    let apart : first ++ (flat_map (λ (ops : List Operation). ops) (drop 1 entries.account.published) ++ held) ≡ (first ++ ops) ++ held =
    ap (λ (p : List (List Operation)). first ++ (flat_map (λ (ops : List Operation). ops) (drop 1 p) ++ held)) own.begins.1
    ∙ sym (append_assoc first ops held) in (
      ops,
      front (first ++ ops) held (subst (λ (k : K). S k ((first ++ ops) ++ held)) (sym same)
          (subst (S entries.keeper) apart (own.faithful first h).survives)),
      is ∙ ap arrive own.begins.1 ∙ arrived_in_turn journal later,
    )

-- where the site was served, its record is the one that was shown
pub kept_served : {K : Type 0} (S : K → List Operation → Type 0) (had : List Operation → Type 0) (journal : List Operation)
    (keeper : K) (shown : List Operation) (served : Result Served ServeFault) → HasShown S had journal keeper shown
    → IfOk served (λ s. s.replica ≡ shown) → HasKept S had journal keeper served
kept_served S had journal keeper shown (Ok s) kept is = λ first h. let k = kept first h in (k.0, k.1, is ∙ k.2)
kept_served S had journal keeper shown (Err fault) kept is = λ first h. let k = kept first h in (k.0, k.1, tt)
