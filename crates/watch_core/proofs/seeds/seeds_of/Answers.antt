use Rattle.std.proofs.Common.{◌≡◌, true, List, get_or, subst}
use Rattle.std.proofs.lemmas.List.Elements.{Contains-get_or}
use Rattle.std.proofs.lemmas.Result.{IfOk-weaker}
use Rattle.std.specs.Ordering.{nat_cmp}
use Rattle.std.specs.BTreeSet.{contains}
use Rattle.watch_core.specs.Namers.{has_item}
use Rattle.state_core.specs.declared.item.Item.{Item}
use Rattle.watch_core.specs.Seeds.{AddsItems}
use Rattle.watch_core.proofs.Seeding.{seeds_items}
use Rattle.watch_core.proofs.seeds.seeds_of.Goals as goal

pub returns-then-reach-clause-items : goal.returns-then-reach-clause-items
returns-then-reach-clause-items c = IfOk-weaker c.items_of.result _ _ (λ seeds are k d within. (are.each (get_or seeds.items k d)).0 (Contains-get_or seeds.items k d within)) c.items_of.ensures

pub returns-then-reach-clause-holds : goal.returns-then-reach-clause-holds
returns-then-reach-clause-holds c =
    IfOk-weaker c.items_of.result _ _ (λ seeds are item is again. (are.each item).1 is) c.items_of.ensures

pub returns-clause-items : goal.returns-clause-items
returns-clause-items c = λ k d within.
    let seeds = c.add_reached.new.seeds.items in
    seeds_items c.args.state.now (λ item. contains nat_cmp c.args.touched.now item.change ≡ true) (λ item. has_item c.args.reach.now.items item ≡ true) c.add_touched.new.seeds.items seeds (subst (λ (l : List Item). AddsItems c.args.state.now (λ item. contains nat_cmp c.args.touched.now item.change ≡ true) l c.add_touched.new.seeds.items) c.new-seeds.ensures.items c.in_ok-add_touched.ensures)
    c.in_ok-add_reached.ensures (get_or seeds k d) (Contains-get_or seeds k d within)
