use Rattle.std.proofs.Common.{◌≡◌, ◌++◌, take, not, flat_map, map, ◌||◌}
use Rattle.std.specs.Prelude.{filter}
use Rattle.enqueue_lines.specs.Template.{filled, values_given, template_part}
use Rattle.enqueue_lines.proofs.template.add_pieces.Given as goal

-- the text of the pieces so far is added
abbrev pub invariant-loop-piece : goal.invariant-loop-piece
invariant-loop-piece l = l.text.items ≡ l.initial.text.items ++ filled (map template_part (take l.piece-index l.pieces)) (values_given l.values)
