use Rattle.std.proofs.Common.{◌<◌, ℕ, Vec, map, length, arith}
use Rattle.std.proofs.lemmas.List.{length-map}
use Rattle.walk_core.specs.EdgeLaws.{AddsEdges-within}
use Rattle.walk_tests.proofs.digraphs.add_if_within.Goals as goal

pub returns : goal.returns
returns g c =
    let items = λ (row : Vec ℕ g.row.A.Denot). row.items in
    let rows = c.args.rows.now.items in
    let after = c.add_edge.new.rows.items in
    let adds = c.in_ok-add_edge.ensures in
    let same = length-map rows items in
    let below : c.args.to < length (map items rows) = omega (arith, same) in (
      omega (arith, adds.nodes, same, length-map after items),
      AddsEdges-within (map items rows) (map items after) c.args.from c.args.to c.requires below adds,
    )
