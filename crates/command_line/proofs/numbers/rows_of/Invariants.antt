use Rattle.std.proofs.Common.{take}
use Rattle.std.specs.List.{AllZip}
use Rattle.command_line.specs.Values.{NamesRow}
use Rattle.command_line.proofs.numbers.rows_of.Given as goal

abbrev pub invariant-loop-text : goal.invariant-loop-text
invariant-loop-text l = AllZip (λ text row. NamesRow text.now row) (take l.text-index l.texts) l.rows.items
