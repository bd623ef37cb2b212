use Rattle.std.proofs.Common.{◌≡◌, ◌+◌, false, Some, ap, ◌∙◌}
use Rattle.std.proofs.lemmas.Option.{slice_get-get_or}
use Rattle.walk_core.specs.Digraphs.{IsMarked}
use Rattle.walk_core.proofs.LevelLemmas.{MarkedBelow, MarkedBelow-more, MarkedBelow-all, Discovers-then}
use Rattle.walk_core.proofs.LevelLemmas.{Discovers-alike}
use Rattle.walk_core.proofs.distances.Search.reach_marked.Goals as goal

pub loop-node-preserved : goal.loop-node-preserved
loop-node-preserved g c =
    let marked = c.args.marked.now in
    let i = c.loop-node.node in
    let is_marked : IsMarked marked i = slice_get-get_or marked i false c.loop-node-test.true ∙ ap Some c.if-not-is_marked.false in
    Discovers-then (MarkedBelow marked i) (λ x. x ≡ i) (MarkedBelow marked (i + 1)) 0 _ _ _ _ _ _
    (MarkedBelow-more marked i is_marked) c.loop-node.invariant c.in_ok-reach.ensures

pub returns : goal.returns
returns g c =
    let marked = c.args.marked.now in
    Discovers-alike (MarkedBelow marked c.loop-node.node) (IsMarked marked) 0 _ _ _ _
    (MarkedBelow-all marked c.loop-node.node c.loop-node-test.false) c.loop-node.invariant
