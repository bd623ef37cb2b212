-- The verdicts on items that are left out, each item once.
use Rattle.std.proofs.Common.{◌≡◌, ℕ, List, Contains, Option, None, Some, refl, sym, ap, ◌∙◌, subst}
use Rattle.std.specs.Prelude.{slice_get, option_map, IsSome, MatchOption}
use Rattle.std.specs.List.Sorted.{IsStrictlySortedBy}
use Rattle.std.proofs.lemmas.Option.{slice_get-map}
use Rattle.lattice_core.specs.MemberLaws.{Contains-of_map}
use Rattle.lattice_core.specs.PlaceLaws.{at_Contains, one_item, one_place}
use Rattle.state_core.specs.declared.item.Item.{Item}
use Rattle.state_core.specs.Items.{item_cmp}
use Rattle.state_core.specs.ItemLaws.{items_total}
use Rattle.ready_core.specs.declared.verdicts.Left.{Left}
use Rattle.ready_core.specs.Verdicts.{IsOutAt, items_out}

abbrev of_left : Left → Item
of_left left = left.item

module _ (out : List Left) (sorted : IsStrictlySortedBy item_cmp (items_out out)) where
  -- an item is left out once
  pub one_left : (a b : Left) → Contains out a → Contains out b → a.item ≡ b.item → a ≡ b
  one_left a b has_a has_b same =
      let at_a = at_Contains out a has_a in
      let at_b = at_Contains out b has_b in
      let item_a : slice_get (items_out out) at_a.0 ≡ Some a.item = slice_get-map of_left out at_a.0 ∙ ap (option_map of_left) at_a.1 in
      let item_b : slice_get (items_out out) at_b.0 ≡ Some a.item = slice_get-map of_left out at_b.0 ∙ ap (option_map of_left) at_b.1 ∙ ap Some (sym same) in
      let places = one_place items_total (items_out out) sorted at_a.0 at_b.0 a.item item_a item_b in
      one_item out at_b.0 a b (subst (λ p. slice_get out p ≡ Some a) places at_a.1) at_b.1

-- what a search for an item that is left out finds
module _ (out : List Left) (item : Item) where
  abbrev IsFound : Option ℕ → Type 0
  IsFound found =
      MatchOption found ((left : Left) → Contains out left → ¬ (left.item ≡ item)) (IsOutAt out item)

  pub some_found : (found : Option ℕ) → Contains (items_out out) item → IsFound found → IsSome found
  some_found None there none = let left = Contains-of_map of_left out item there in
      absurd (none left.0 left.1 left.2)
  some_found (Some place) there at = refl

  pub found_at : (found : Option ℕ) (place : ℕ) → found ≡ Some place → IsFound found → IsOutAt out item place
  found_at found place is at = subst IsFound is at
