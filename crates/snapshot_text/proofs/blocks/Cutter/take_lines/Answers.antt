use Rattle.std.proofs.Common.{◌+◌, refl, drop, arith}
use Rattle.std.proofs.lemmas.Result.{err_from_is_err_and, on_ok_weaker}
use Rattle.byte_ends.specs.Lines.{as_line, lines_of}
use Rattle.snapshot_text.specs.Progress.{HasCut, IsFaultIn}
use Rattle.line_reader.specs.Lines.{line_first}
use Rattle.snapshot_text.specs.Going.{goes_start, goes_on, goes_out, goes_wrong}
use Rattle.snapshot_text.proofs.blocks.Cutter.take_lines.Goals as goal

pub loop-at-init : goal.loop-at-init
loop-at-init c = record {
  goes = λ base. goes_start (λ came. HasCut base came c.args.self.now) c.args.block.now;
  few = omega arith;
}

pub returns-in_err-take_piece-clause-err : goal.returns-in_err-take_piece-clause-err
returns-in_err-take_piece-clause-err c =
    let p = err_from_is_err_and c.from_residual.result c.from_residual.ensures.1 in
    let later = drop (c.in-Some.at + 1) c.loop-at.rest.now in
    rw (p.1, p.2) (λ base. goes_wrong
    (λ came. HasCut base came c.args.self.now)
    (λ came. HasCut base came c.loop-at.self)
    (λ t. IsFaultIn (lines_of t) c.in_err-take_piece.field-0.0)
    c.args.block.now c.loop-at.rest.now (as_line c.split_at.result.0.now) later (c.loop-at.invariant.goes base)
    (line_first c.loop-at.rest.now c.split_at.result.0.now later c.in-Some.at c.split_at.ensures.front refl c.in-Some.ensures)
    (c.in_err-take_piece.ensures.err base))

pub loop-at-preserved : goal.loop-at-preserved
loop-at-preserved c = record {
  goes = λ base. goes_on
      (λ came. HasCut base came c.args.self.now)
      (λ came. HasCut base came c.loop-at.self)
      (λ came. HasCut base came c.take_piece.new.self)
      c.args.block.now c.loop-at.rest.now c.split_at.result.0.now c.split_at-in-Some.result.1.now (c.loop-at.invariant.goes base)
      (line_first c.loop-at.rest.now c.split_at.result.0.now c.split_at-in-Some.result.1.now c.in-Some.at c.split_at.ensures.front c.split_at-in-Some.ensures.back c.in-Some.ensures)
      (c.in_ok-take_piece.ensures.ok base);
  few = omega (arith, c.loop-at.invariant.few, c.take_piece.ensures.few, c.split_at-in-Some.ensures.back_len, c.in-Some.ensures.within);
}

pub returns-clause-ok : goal.returns-clause-ok
returns-clause-ok c = on_ok_weaker c.hold.result
    (λ step base. goes_out
    (λ came. HasCut base came c.args.self.now)
    (λ came. HasCut base came c.loop-at.self)
    (λ came. HasCut base came c.hold.new.self)
    c.args.block.now c.loop-at.rest.now (c.loop-at.invariant.goes base) (step base))
    c.hold.ensures.ok
