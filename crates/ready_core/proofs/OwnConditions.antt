-- Items of one change that aren't its current one compare alike with every condition of a gate.
use Rattle.std.proofs.Common.{◌≡◌, ◌<◌, ℕ, suc, Bool, List, Option, false, Some, arith, refl, ◌∙◌, sym, subst}
use Rattle.std.specs.Prelude.{◌==◌, MatchOption}
use Rattle.std.specs.declared.cmp.Ordering.{Ordering}
use Rattle.std.specs.declared.cmp.Ordering.TheVariants.{Less, Equal, Greater}
use Rattle.std.specs.Ordering.{nat_cmp, ordering_then, MatchOrdering}
use Rattle.std.specs.FinMap as finite
use Rattle.std.proofs.lemmas.Bool.{ne_eqb}
use Rattle.std.proofs.lemmas.Cmp.{ranked}
use Rattle.lattice_core.specs.PlaceLaws.{Contains-at, one_item, sorted_at}
use Rattle.change_core.specs.Change.{Change}
use Rattle.change_core.specs.Status.{status_name}
use Rattle.change_core.specs.Views.{status_of, IsGreatestKnown, IsKnownSet}
use Rattle.change_core.specs.Votes.{approvals_of}
use Rattle.state_core.specs.State.{State}
use Rattle.state_core.specs.declared.item.Item.{Item}
use Rattle.state_core.specs.Items.{item_cmp}
use Rattle.gate_rules.specs.Rules.{GateRules}
use Rattle.gate_rules.specs.declared.condition.Condition.{Condition}
use Rattle.gate_rules.specs.Own.{ItemStanding, IsBroken, IsFirstBroken, IsOwn, is_new}
use Rattle.graph_core.specs.ItemGraph.{ArePart, IsAt}
use Rattle.ready_core.specs.Causes.{IsAmongItsOwn, IsOwnBefore}

set_below : (r s : Ordering) (m n a b : ℕ) → MatchOrdering r (m < n) (m ≡ n) (n < m)
    → MatchOrdering s (a < b) (a ≡ b) (b < a) → m ≡ n → ordering_then r s ≡ Less → a < b
set_below Less s m n a b changes sets same e = absurd (omega (arith, changes, same))
set_below Equal Less m n a b changes sets same e = sets
set_below Equal Equal m n a b changes sets same e = cc
set_below Equal Greater m n a b changes sets same e = cc
set_below Greater s m n a b changes sets same e = cc

one_change : (o : Option Change) (a b : Change) → o ≡ Some a → o ≡ Some b → a ≡ b
one_change o a b p q = cc

-- of two items of one change the earlier one has the lower patch set
below : (a b : Item) → a.change ≡ b.change → item_cmp a b ≡ Less → a.set < b.set
below a b = set_below (nat_cmp a.change b.change) (nat_cmp a.set b.set) a.change b.change a.set b.set
    (ranked a.change b.change (nat_cmp a.change b.change) refl) (ranked a.set b.set (nat_cmp a.set b.set) refl)

abbrev standing_with : Change → ℕ → Bool → ItemStanding
standing_with change current is_current = record {
  status = status_name (status_of change);
  is_open = is_new (status_of change);
  is_current = is_current;
  approvals = approvals_of change current;
}

-- what an item's own condition is depends on its change, and on whether it is the current one
own_alike : (gate : GateRules) (state : State) (a b : Item) (own : Option Condition) → a.change ≡ b.change
    → ((change : Change) (current : ℕ) → finite.get state b.change ≡ Some change → IsGreatestKnown change current → (a.set == current) ≡ (b.set == current))
    → IsOwn gate state a own → IsOwn gate state b own
own_alike gate state a b own same alike is change current there greatest =
    subst (λ flag. MatchOption own ((condition : Condition) → ¬ IsBroken gate (standing_with change current flag) condition) (IsFirstBroken gate (standing_with change current flag)))
    (alike change current there greatest)
    (is change current (subst (λ number. finite.get state number ≡ Some change) (sym same) there) greatest)

module _ (gate : GateRules) (state : State) (items : List Item) (are : ArePart gate state items) (place : ℕ)
    (among : IsAmongItsOwn items place) where
  -- neither the item nor the one before it is the current one
  not_current : (item : Item) → item.change ≡ among.here.change → item.set < among.after.set
      → (change : Change) (current : ℕ) → finite.get state among.here.change ≡ Some change
      → IsGreatestKnown change current → (item.set == current) ≡ false
  not_current item same low change current there greatest =
      let known = are.each among.after (Contains-at items (suc place) among.after among.after_at) in
      let one : known.0 ≡ change = one_change (finite.get state among.after.change) known.0 change known.1 (subst (λ number. finite.get state number ≡ Some change) (sym among.of_after) there) in
      let most = greatest.greatest among.after.set (subst (λ c. IsKnownSet c among.after.set) one known.2) in
      ne_eqb item.set current (λ is. absurd (omega (arith, most, low, is)))

  pub own_as_before : (own : Option Condition) → IsOwnBefore gate state items place own → (item : Item)
      → IsAt items place item → IsOwn gate state item own
  own_as_before own before item here =
      let is = one_item items place item among.here here among.here_at in
      let lower = below among.before among.here among.of_before (sorted_at item_cmp items are.in_order among.earlier place among.before among.here (omega (arith, among.follows)) among.before_at among.here_at) in
      let higher = below among.here among.after (sym among.of_after) (sorted_at item_cmp items are.in_order place (suc place) among.here among.after (omega arith) among.here_at among.after_at) in
      subst (λ i. IsOwn gate state i own) (sym is)
      (own_alike gate state among.before among.here own among.of_before
      (λ change current there greatest.
      not_current among.before among.of_before (omega (arith, lower, higher)) change current there greatest
      ∙ sym (not_current among.here refl higher change current there greatest))
      (before among.earlier among.before among.follows among.before_at))
