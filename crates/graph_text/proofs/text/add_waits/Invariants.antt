use Rattle.std.proofs.Common.{◌≡◌, ◌++◌, flat_map, string_bytes, take}
use Rattle.graph_text.specs.Lines.{wait_line}
use Rattle.graph_text.proofs.text.add_waits.Given as goal

abbrev pub invariant-loop-change : goal.invariant-loop-change
invariant-loop-change l =
    string_bytes l.text ≡ string_bytes l.initial.text ++ flat_map (wait_line l.item) (take l.change-index l.unknown)
