use Rattle.std.proofs.Common.{◌≡◌, ◌++◌, flat_map, string_bytes, take}
use Rattle.graph_text.specs.Lines.{edge_lines}
use Rattle.graph_text.proofs.text.add_edges.Given as goal

abbrev pub invariant-loop-node : goal.invariant-loop-node
invariant-loop-node l =
    string_bytes l.text ≡ string_bytes l.initial.text ++ flat_map edge_lines (take l.node-index l.nodes)
