use Rattle.walk_core.specs.EdgeLaws.{AddsEdges-pushed}
use Rattle.walk_core.proofs.edges.add_edge.Goals as goal

pub returns : goal.returns
returns g c = AddsEdges-pushed (λ row. row.items) c.args.rows.now.items c.args.from c.args.to c.index_mut.result.now c.push.new.self c.requires c.index_mut.ensures.value c.in_ok-push.ensures.items
