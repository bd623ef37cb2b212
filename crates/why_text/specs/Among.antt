-- Whether an item is among others, from what a test of each says.
use Rattle.std.proofs.Common.{◌≡◌, ◌<◌, ◌≤◌, ◌∙◌, ℕ, Bool, true, false, List, length, get_or, refl, sym, ap, subst, arith}
use Rattle.std.specs.Prelude.{◌==◌, ◌&&◌, Contains}
use Rattle.std.specs.List.{list_any}
use Rattle.std.proofs.lemmas.Bool.{eq-eqb, eqb-true, false≢true}
use Rattle.std.proofs.lemmas.List.Folds.{Any-from_list_any}
use Rattle.state_core.specs.declared.item.Item.{Item}

both_hold : (p q : Bool) → p ≡ true → q ≡ true → (p && q) ≡ true
both_hold true q p r = r
both_hold false q p r = p

both_true : (p q : Bool) → (p && q) ≡ true → (p ≡ true) × (q ≡ true)
both_true true q e = (refl, e)
both_true false q e = absurd (false≢true e)

module _ (items : List Item) (item : Item) where
  pub not_among : ((k : ℕ) (d : Item) → 0 ≤ k → k < length items
      → ((get_or items k d).change == item.change) && ((get_or items k d).set == item.set) ≡ false) → ¬ Contains items item
  not_among none has =
      let test : Item → Bool = λ other. (other.change == item.change) && (other.set == item.set) in
      let itself : test item ≡ true = both_hold (item.change == item.change) (item.set == item.set) (eq-eqb item.change item.change refl) (eq-eqb item.set item.set refl) in
      false≢true (sym (subst (λ (i : Item). test i ≡ false) has.2 (none has.0 item (omega arith) has.1)) ∙ itself)

  pub among : list_any (λ other. (other.change == item.change) && (other.set == item.set)) items ≡ true
      → Contains items item
  among any =
      let test : Item → Bool = λ other. (other.change == item.change) && (other.set == item.set) in
      let there = Any-from_list_any test items any in
      let both = both_true (there.1.change == item.change) (there.1.set == item.set) there.4 in
      let change : there.1.change ≡ item.change = eqb-true there.1.change item.change both.0 in
      let set : there.1.set ≡ item.set = eqb-true there.1.set item.set both.1 in
      let same : there.1 ≡ item = ap (λ n. record { change = n; set = there.1.set }) change ∙ ap (λ n. record { change = item.change; set = n }) set in
      subst (Contains items) same (there.0, there.2, there.3)
