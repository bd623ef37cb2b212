use Rattle.std.proofs.Common.{subst, sym}
use Rattle.graph_core.specs.ItemGraph.{AreItems}
use Rattle.graph_core.proofs.Building.{whole_is_part}
use Rattle.graph_core.proofs.graph.Graph.build.Goals as goal

pub of_part-requires : goal.of_part-requires
of_part-requires c = whole_is_part c.args.gate.now c.args.state.now c.in_ok-items.items.items c.in_ok-items.ensures

pub returns-clause-whole : goal.returns-clause-whole
returns-clause-whole c = subst (AreItems c.args.state.now) (sym c.in_ok-graph.ensures.items) c.in_ok-items.ensures
