use Rattle.graph_text.specs.Places.{AreNodesTo}
use Rattle.graph_text.proofs.nodes.nodes_of.Given as goal

-- the nodes of the places so far
abbrev pub invariant-loop-place : goal.invariant-loop-place
invariant-loop-place l =
    AreNodesTo l.state l.graph l.verdicts.out l.near.ahead.items l.near.behind.items l.firsts l.place l.nodes.items
