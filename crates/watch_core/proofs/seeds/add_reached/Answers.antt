use Rattle.std.proofs.Common.{◌≡◌, true, Contains, ap, inl, inr, rules, subst, sym}
use Rattle.std.proofs.lemmas.Map.Lookups.{exact_pairs, exact_unsigned}
use Rattle.std.proofs.lemmas.Map.Views.{btree_set_contains_iff}
use Rattle.std.specs.Ordering.{nat_cmp}
use Rattle.lattice_core.specs.MemberLaws.{Contains-cons_cases}
use Rattle.state_core.specs.declared.item.Item.{Item}
use Rattle.watch_core.specs.Namers.{has_item}
use Rattle.watch_core.proofs.Seeding.{adds_next, adds_none, item_at, pairs_total}
use Rattle.watch_core.proofs.seeds.add_reached.Goals as goal

pub loop-change-init : goal.loop-change-init
loop-change-init c =
    let all : c.into_iter-change-iterator.result ≡ c.args.items.now.keys = search rules in
    adds_none c.args.state.now (λ item. has_item c.args.items.now item ≡ true)
    (λ item. Contains c.into_iter-change-iterator.result (item.change, item.set)) c.args.seeds.now.items
    (λ item is want. subst (λ l. Contains l (item.change, item.set)) (sym all)
    ((btree_set_contains_iff pairs_total (exact_pairs nat_cmp nat_cmp exact_unsigned exact_unsigned) c.args.items.now (item.change, item.set)).0 want))

pub loop-change-preserved : goal.loop-change-preserved
loop-change-preserved c =
    adds_next c.args.state.now (λ item. has_item c.args.items.now item ≡ true)
    (λ item. Contains c.loop-change.change-iterator (item.change, item.set))
    (λ item. item ≡ item_at c.in-Some.field-0.now) _
    c.args.seeds.now.items c.loop-change.seeds.items c.add_item.new.seeds.items
    (λ (item : Item) has. elim (Contains-cons_cases c.in-Some.field-0.now _ (item.change, item.set) (subst (λ l. Contains l (item.change, item.set)) c.in-Some.ensures.steps has)) [
      | inl same ↦ inl (ap item_at (sym same))
      | inr later ↦ inr later
    ])
    c.loop-change.invariant c.in_ok-add_item.ensures
