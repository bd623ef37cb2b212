use Rattle.std.proofs.Common.{◌++◌, ◌<◌, ◌≤◌, ap, ◌∙◌, length, arith}
use Rattle.line_reader.specs.Lines.{line_limit}
use Rattle.site_journal.proofs.Steps.{too_long, read_more}
use Rattle.site_journal.proofs.reading.Reading.hold.Goals as goal

pub returns-then-as_slice-gt-LINE_LIMIT-clause-err : goal.returns-then-as_slice-gt-LINE_LIMIT-clause-err
returns-then-as_slice-gt-LINE_LIMIT-clause-err c = λ came read later.
    let long : line_limit < length (c.args.self.now.held.items ++ c.args.piece.now) = omega (arith, c.if-as_slice-gt-LINE_LIMIT.true, c.as_slice.ensures.len, ap length (c.as_slice.ensures.value ∙ c.in_ok-extend_from_slice.ensures.items)) in
    too_long came c.args.self.now.gathering c.args.self.now.held.items c.args.piece.now c.args.self.now.next c.requires long read later

pub returns-clause-ok : goal.returns-clause-ok
returns-clause-ok c = λ came read.
    let short : length (c.args.self.now.held.items ++ c.args.piece.now) ≤ line_limit = omega (arith, c.if-as_slice-gt-LINE_LIMIT.false, c.as_slice.ensures.len, ap length (c.as_slice.ensures.value ∙ c.in_ok-extend_from_slice.ensures.items)) in
    rw c.in_ok-extend_from_slice.ensures.items (read_more came c.args.self.now.gathering c.args.self.now.held.items c.args.piece.now c.args.self.now.next c.requires short read)
