use Rattle.std.proofs.Common.{◌≡◌, flat_map, take}
use Rattle.graph_text.proofs.text.unknown_of.Given as goal

-- the unknown changes of the nodes so far
abbrev pub invariant-loop-node : goal.invariant-loop-node
invariant-loop-node l = l.unknown.items ≡ flat_map (λ node. node.unknown.items) (take l.node-index l.nodes)
