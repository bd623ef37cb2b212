use Rattle.byte_ends.specs.Lines.{lines_of}
use Rattle.key_file.proofs.Lists.{reading_bad, reading_next}
use Rattle.key_file.proofs.keys.read_keys.Goals as goal

pub loop-line-preserved : goal.loop-line-preserved
loop-line-preserved c =
    reading_next (lines_of c.args.text.now) c.loop-line.lines c.next_line.new.self c.loop-line.keys.items c.read_line.new.keys.items
    c.loop-line.number c.in-Some.line.now c.loop-line.invariant c.in-Some.ensures (rw c.in-Ok-true.field-0-test at c.in-Ok-true.ensures)

pub returns-in-Ok-false-clause-err : goal.returns-in-Ok-false-clause-err
returns-in-Ok-false-clause-err c =
    reading_bad (lines_of c.args.text.now) c.loop-line.lines c.next_line.new.self c.loop-line.keys.items
    c.loop-line.number c.in-Some.line.now c.loop-line.invariant c.in-Some.ensures (rw c.in-Ok-false.field-0-test at c.in-Ok-false.ensures)
