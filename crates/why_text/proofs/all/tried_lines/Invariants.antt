use Rattle.std.proofs.Common.{take, string_bytes}
use Rattle.why_text.specs.All.{WritesEach, WritesTried}
use Rattle.why_text.proofs.all.tried_lines.Given as goal

abbrev pub invariant-loop-one : goal.invariant-loop-one
invariant-loop-one l = WritesEach (WritesTried l.file l.state l.item) (take l.one-index l.tried) (string_bytes l.text)
