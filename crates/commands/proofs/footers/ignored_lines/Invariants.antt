use Rattle.std.proofs.Common.{◌≡◌, flat_map, take, map}
use Rattle.commands.specs.Answers.{ignored_line}
use Rattle.commands.proofs.footers.ignored_lines.Given as goal

abbrev pub invariant-loop-value : goal.invariant-loop-value
invariant-loop-value l = l.text.items ≡ flat_map ignored_line (map (λ value. value.now) (take l.value-index l.ignored))
