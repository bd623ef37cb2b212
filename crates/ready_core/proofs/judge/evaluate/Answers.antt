use Rattle.std.proofs.Common.{subst, sym}
use Rattle.graph_core.specs.ItemGraph.{ArePart}
use Rattle.ready_core.specs.Causes.{AreOwns}
use Rattle.ready_core.specs.WholeLaws.{on_all_items}
use Rattle.ready_core.proofs.judge.evaluate.Goals as goal

pub own_conditions-requires : goal.own_conditions-requires
own_conditions-requires c =
    subst (ArePart c.args.gate.now c.args.state.now) (sym c.items.ensures) c.in_ok-graph.ensures.graph.items

pub verdicts_on-requires-clause-owns : goal.verdicts_on-requires-clause-owns
verdicts_on-requires-clause-owns c =
    subst (AreOwns c.args.gate.now c.args.state.now c.in_ok-graph.graph.items) (sym c.as_slice.ensures.value)
    (subst (λ items. AreOwns c.args.gate.now c.args.state.now items c.in_ok-owns.owns.items) c.items.ensures c.in_ok-owns.ensures)

pub returns : goal.returns
returns c =
    on_all_items c.args.gate.now c.args.state.now c.in_ok-graph.graph.items c.in_ok-verdicts.verdicts c.in_ok-graph.ensures.whole c.in_ok-verdicts.ensures
