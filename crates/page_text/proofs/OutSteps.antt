-- Items that are left out.
use Rattle.std.proofs.Common.{◌≡◌, ℕ, ◌+◌, zero, suc, List, [], ◌∷◌, Contains, None, Some, map}
use Rattle.std.proofs.Common.{subst, arith, inl, inr}
use Rattle.std.specs.Prelude.{slice_get}
use Rattle.std.proofs.lemmas.List.Elements.{Contains-append_cases, Contains-append_left, Contains-append_right}
use Rattle.lattice_core.specs.MemberLaws.{Contains-cons_cases, Contains-first, Contains-later, Contains-none}
use Rattle.lattice_core.specs.MemberLaws.{Contains-of_map, Contains-to_map}
use Rattle.state_core.specs.declared.item.Item.{Item}
use Rattle.ready_core.specs.declared.verdicts.Left.{Left}
use Rattle.ready_core.specs.Verdicts.{Judged, items_out}
use Rattle.page_text.specs.declared.rows.Row.TheVariants.{Enters, Waits}
use Rattle.page_text.specs.Rows.{all_rows, entering}

pub none_left : (out : List Left) (item : Item) → ((left : Left) → Contains out left → ¬ (left.item ≡ item))
    → ¬ Contains (items_out out) item
none_left out item none has =
    let there = Contains-of_map (λ (left : Left). left.item) out item has in
    none there.0 there.1 there.2

nothing_there : (item : Item) → None ≡ Some item → ⊥
nothing_there item e = cc

some_same : (a b : Item) → Some a ≡ Some b → a ≡ b
some_same a b e = cc

entering_has : (first : ℕ) (items : List Item) (place : ℕ) (item : Item) → slice_get items place ≡ Some item
    → Contains (entering first items) (Enters item (first + place))
entering_has first [] place item e = absurd (nothing_there item e)
entering_has first (x ∷ items) zero item e =
    let same : x ≡ item = some_same x item e in
    let here : first ≡ first + 0 = omega arith in
    subst (λ i. Contains (entering first (x ∷ items)) (Enters i (first + 0))) same
    (subst (λ n. Contains (entering first (x ∷ items)) (Enters x n)) here
    (Contains-first (Enters x first) (entering (suc first) items)))
entering_has first (x ∷ items) (suc place) item e =
    let next : suc first + place ≡ first + suc place = omega arith in
    Contains-later (Enters x first) (entering (suc first) items) _
    (subst (λ n. Contains (entering (suc first) items) (Enters item n)) next
    (entering_has (suc first) items place item e))

pub ready_has : (verdicts : Judged) (place : ℕ) (item : Item) → slice_get verdicts.ready place ≡ Some item
    → Contains (all_rows verdicts) (Enters item (place + 1))
ready_has verdicts place item e =
    let same : 1 + place ≡ place + 1 = omega arith in
    Contains-append_left (entering 1 verdicts.ready) (map Waits verdicts.out) _
    (subst (λ n. Contains (entering 1 verdicts.ready) (Enters item n)) same (entering_has 1 verdicts.ready place item e))

pub out_has : (verdicts : Judged) (left : Left) → Contains verdicts.out left → Contains (all_rows verdicts) (Waits left)
out_has verdicts left there =
    Contains-append_right (entering 1 verdicts.ready) (map Waits verdicts.out) _
    (Contains-to_map Waits verdicts.out left there)

none_waits : (first : ℕ) (items : List Item) (left : Left) → Contains (entering first items) (Waits left) → ⊥
none_waits first [] left has = Contains-none (Waits left) has
none_waits first (x ∷ items) left has = elim (Contains-cons_cases (Enters x first) (entering (suc first) items) (Waits left) has) [
  | inl same ↦ cc
  | inr later ↦ none_waits (suc first) items left later
]

same_left : (a b : Left) → Waits a ≡ Waits b → a ≡ b
same_left a b e = cc

-- the item of a row that waits is left out
pub waits_out : (verdicts : Judged) (left : Left) → Contains (all_rows verdicts) (Waits left)
    → Contains (items_out verdicts.out) left.item
waits_out verdicts left has = elim (Contains-append_cases (entering 1 verdicts.ready) (map Waits verdicts.out) (Waits left) has) [
  | inl ready ↦ absurd (none_waits 1 verdicts.ready left ready)
  | inr out ↦
      let found = Contains-of_map Waits verdicts.out (Waits left) out in
      subst (λ (l : Left). Contains (items_out verdicts.out) l.item) (same_left found.0 left found.2)
      (Contains-to_map (λ (l : Left). l.item) verdicts.out found.0 found.1)
]
