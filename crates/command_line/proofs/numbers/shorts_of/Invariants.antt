use Rattle.std.proofs.Common.{take}
use Rattle.std.specs.List.{AllZip}
use Rattle.command_line.specs.Values.{Writes}
use Rattle.command_line.proofs.numbers.shorts_of.Given as goal

abbrev pub invariant-loop-text : goal.invariant-loop-text
invariant-loop-text l =
    AllZip (λ text short. Writes l.number.least l.number.most text.now short) (take l.text-index l.texts) l.shorts.items
