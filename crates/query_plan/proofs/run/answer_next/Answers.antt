use Rattle.std.proofs.Common.{Bool, Ok, Result, ap}
use Rattle.std.specs.Io.KnownBytes.{IsAtEnd}
use Rattle.byte_ends.specs.declared.faults.BytesFault.{BytesFault}
use Rattle.query_plan.proofs.Talking.{line_ends, source_ends}
use Rattle.query_plan.proofs.run.answer_next.Goals as goal

pub returns-in-Ok-true-clause-ends : goal.returns-in-Ok-true-clause-ends
returns-in-Ok-true-clause-ends g c =
    line_ends c.args.number _ _ c.args.reader.now c.next_line.new.self _ _ _ _ _ _ _ _ c.in-Ok-true.field-0
    c.line.result.now c.answer_line.result c.in-Ok-true.field-0-test c.in-Ok-true.ensures.hands
    c.in-Ok-true.ensures.counted c.line.ensures c.answer_line.ensures

pub returns-in-Ok-false-clause-ends : goal.returns-in-Ok-false-clause-ends
returns-in-Ok-false-clause-ends g c =
    let whole : Bool → Result Bool BytesFault = λ more. Ok more in
    let ended : IsAtEnd (g.S.Source.left c.next_line.new.source) =
    c.in-Ok-false.ensures.end (ap whole c.in-Ok-false.field-0-test) in
    source_ends c.args.number _ c.args.reader.now c.next_line.new.self _ _ _ _ _ _ c.in-Ok-false.field-0
    c.held.result.now c.end_of.result c.in-Ok-false.field-0-test c.in-Ok-false.ensures.hands ended
    c.in-Ok-false.ensures.counted c.held.ensures c.end_of.ensures.ok c.end_of.ensures.refused
