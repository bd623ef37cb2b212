use Rattle.std.proofs.Common.{◌≡◌, ◌++◌}
use Rattle.json.specs.Print.{escape}
use Rattle.op_text.proofs.parts.unescaped.Given as goal

-- what was read, and what is left
abbrev pub invariant-loop : goal.invariant-loop
invariant-loop l = l.text ≡ escape l.read.items ++ l.left
