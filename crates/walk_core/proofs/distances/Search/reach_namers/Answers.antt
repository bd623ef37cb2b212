use Rattle.std.proofs.Common.{◌+◌, take}
use Rattle.std.specs.List.{Contains}
use Rattle.std.specs.Prelude.{slice_index}
use Rattle.std.proofs.lemmas.List.{get_or_default}
use Rattle.walk_core.specs.Levels.{LeadsInto}
use Rattle.walk_core.proofs.LevelLemmas.{Discovers-then, LeadsInto-more}
use Rattle.walk_core.proofs.distances.Search.reach_namers.Goals as goal

pub loop-node-preserved : goal.loop-node-preserved
loop-node-preserved g c =
    let graph = c.args.graph.now in
    let nodes = c.args.nodes.now in
    let i = c.loop-node.node-index in
    Discovers-then (LeadsInto graph (take i nodes)) (Contains c.namers.result.now)
    (LeadsInto graph (take (i + 1) nodes)) c.args.distance _ _ _ _ _ _
    (LeadsInto-more graph nodes c.namers.result.now i (slice_index nodes i) c.loop-node-test.true (get_or_default nodes i 0 _ c.loop-node-test.true) c.namers.ensures.row)
    c.loop-node.invariant c.in_ok-reach_all.ensures
