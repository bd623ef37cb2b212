use Rattle.std.proofs.Common.{arith}
use Rattle.std.proofs.lemmas.List.Elements.{Contains-get_or}
use Rattle.walk_core.proofs.leads.have_sums.Goals as goal

pub bounds-firsts-node : goal.bounds-firsts-node
bounds-firsts-node c =
    c.requires.nodes _ (Contains-get_or c.args.nodes.now c.loop-node.node-index 0 c.loop-node-test.true)

pub offset_bounds-firsts-node : goal.offset_bounds-firsts-node
offset_bounds-firsts-node c =
    let inside = c.requires.nodes _ (Contains-get_or c.args.nodes.now c.loop-node.node-index 0 c.loop-node-test.true) in
    omega (arith, inside)
