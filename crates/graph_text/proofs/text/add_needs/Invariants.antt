use Rattle.std.proofs.Common.{◌≡◌, ◌++◌, flat_map, string_bytes, take}
use Rattle.graph_text.specs.Lines.{edge_line}
use Rattle.graph_text.proofs.text.add_needs.Given as goal

abbrev pub invariant-loop-need : goal.invariant-loop-need
invariant-loop-need l =
    string_bytes l.text ≡ string_bytes l.initial.text ++ flat_map (edge_line l.item) (take l.need-index l.needs)
