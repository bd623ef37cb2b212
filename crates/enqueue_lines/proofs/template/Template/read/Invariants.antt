use Rattle.std.proofs.Common.{◌≡◌, ◌++◌, All, IsUtf8, length, map}
use Rattle.enqueue_lines.specs.Shell.{after_bytes}
use Rattle.enqueue_lines.specs.Template.{AreBareFrom, IsPlainPart, template_part, spells}
use Rattle.enqueue_lines.specs.declared.shell.ShellState.TheVariants.{Bare}
use Rattle.enqueue_lines.proofs.template.Template.read.Given as goal

-- the pieces so far, and what is left, are the whole text; a shell reads the fields so far, and what is left, from
-- outside quotes on
abbrev pub invariant-loop-plain : goal.invariant-loop-plain
invariant-loop-plain l = record {
  whole : l.text ≡ spells (map template_part l.pieces.items) ++ l.rest;
  plain : All IsPlainPart (map template_part l.pieces.items);
  bare : AreBareFrom Bare (map template_part l.pieces.items);
  behind : after_bytes Bare (spells (map template_part l.pieces.items)) ≡ Bare;
  text : IsUtf8 l.rest;
}

abbrev pub decreases-loop-plain : goal.decreases-loop-plain
decreases-loop-plain l = length l.rest
