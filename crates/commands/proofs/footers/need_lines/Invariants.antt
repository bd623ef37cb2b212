use Rattle.std.proofs.Common.{◌≡◌, flat_map, take}
use Rattle.commands.specs.Answers.{need_line}
use Rattle.commands.proofs.footers.need_lines.Given as goal

abbrev pub invariant-loop-change : goal.invariant-loop-change
invariant-loop-change l = l.text.items ≡ flat_map need_line (take l.change-index l.needs)
