use Rattle.std.proofs.Common.{◌≡◌, ◌+◌, take}
use Rattle.std.specs.List.{Contains}
use Rattle.std.specs.Prelude.{slice_index}
use Rattle.std.proofs.lemmas.List.{get_or_default}
use Rattle.walk_core.specs.EdgeLaws.{Contains-more}
use Rattle.walk_core.proofs.LevelLemmas.{Discovers-then}
use Rattle.walk_core.proofs.distances.Search.reach_all.Goals as goal

pub loop-node-preserved : goal.loop-node-preserved
loop-node-preserved g c =
    let nodes = c.args.nodes.now in
    let i = c.loop-node.node-index in
    Discovers-then (Contains (take i nodes)) (λ x. x ≡ slice_index nodes i)
    (Contains (take (i + 1) nodes)) c.args.distance _ _ _ _ _ _
    (λ x. Contains-more nodes i x (slice_index nodes i) c.loop-node-test.true (get_or_default nodes i 0 _ c.loop-node-test.true))
    c.loop-node.invariant c.in_ok-reach.ensures
