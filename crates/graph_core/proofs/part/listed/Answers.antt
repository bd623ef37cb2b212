use Rattle.std.proofs.Common.{sym, subst}
use Rattle.std.specs.List.Sorted.{IsStrictlySortedBy}
use Rattle.state_core.specs.Items.{item_cmp}
use Rattle.graph_core.proofs.Closing.{all_listed, found_items, items_sorted}
use Rattle.graph_core.proofs.part.listed.Goals as goal

pub returns-clause-in_order : goal.returns-clause-in_order
returns-clause-in_order c =
    subst (IsStrictlySortedBy item_cmp) (sym (all_listed c.loop-change.items.items c.loop-change.change-iterator c.args.found.now.keys c.in-None.ensures.steps.0 c.loop-change.invariant))
    (items_sorted c.args.found.now.keys c.len.ensures.ordered)

pub returns-clause-each : goal.returns-clause-each
returns-clause-each c = λ item.
    rw (all_listed c.loop-change.items.items c.loop-change.change-iterator c.args.found.now.keys c.in-None.ensures.steps.0 c.loop-change.invariant) (found_items c.args.found.now item)
