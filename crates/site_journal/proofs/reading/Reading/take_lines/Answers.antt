use Rattle.std.proofs.Common.{◌++◌, ◌+◌, [], List, ℕ, sym, refl, drop, append-nil}
use Rattle.std.proofs.lemmas.Result.{err_from_is_err_and, on_ok_weaker, IfErr-weaker}
use Rattle.byte_ends.specs.Lines.{as_line}
use Rattle.site_journal.specs.Fault.{IsJournalRefusal}
use Rattle.site_journal.specs.Reading.{HasRead}
use Rattle.line_reader.specs.Lines.{line_first}
use Rattle.snapshot_text.specs.Going.{goes_start, goes_on, goes_out, goes_wrong}
use Rattle.site_journal.proofs.reading.Reading.take_lines.Goals as goal

pub loop-at-init : goal.loop-at-init
loop-at-init c = goes_start
    (λ came. HasRead came c.args.self.now.gathering c.args.self.now.held.items c.args.self.now.next) c.args.block.now

pub returns-in_err-take_piece-clause-err : goal.returns-in_err-take_piece-clause-err
returns-in_err-take_piece-clause-err c =
    let p = err_from_is_err_and c.from_residual.result c.from_residual.ensures.1 in
    rw (p.1, p.2) (goes_wrong
    (λ came. HasRead came c.args.self.now.gathering c.args.self.now.held.items c.args.self.now.next)
    (λ came. HasRead came c.loop-at.self.gathering c.loop-at.self.held.items c.loop-at.self.next)
    (λ t. IsJournalRefusal t c.in_err-take_piece.field-0.0)
    c.args.block.now c.loop-at.rest.now (as_line c.split_at.result.0.now)
    (drop (c.in-Some.at + 1) c.loop-at.rest.now) c.loop-at.invariant
    (line_first c.loop-at.rest.now c.split_at.result.0.now (drop (c.in-Some.at + 1) c.loop-at.rest.now) c.in-Some.at c.split_at.ensures.front refl c.in-Some.ensures)
    c.in_err-take_piece.ensures.err)

pub loop-at-preserved : goal.loop-at-preserved
loop-at-preserved c =
    goes_on
    (λ came. HasRead came c.args.self.now.gathering c.args.self.now.held.items c.args.self.now.next)
    (λ came. HasRead came c.loop-at.self.gathering c.loop-at.self.held.items c.loop-at.self.next)
    (λ came. HasRead came c.take_piece.new.self.gathering c.take_piece.new.self.held.items c.take_piece.new.self.next)
    c.args.block.now c.loop-at.rest.now c.split_at.result.0.now c.split_at-in-Some.result.1.now c.loop-at.invariant
    (line_first c.loop-at.rest.now c.split_at.result.0.now c.split_at-in-Some.result.1.now c.in-Some.at c.split_at.ensures.front c.split_at-in-Some.ensures.back c.in-Some.ensures)
    c.in_ok-take_piece.ensures.ok

pub returns-clause-ok : goal.returns-clause-ok
returns-clause-ok c =
    on_ok_weaker c.hold.result
    (goes_out
    (λ came. HasRead came c.args.self.now.gathering c.args.self.now.held.items c.args.self.now.next)
    (λ came. HasRead came c.loop-at.self.gathering c.loop-at.self.held.items c.loop-at.self.next)
    (λ came. HasRead came c.hold.new.self.gathering c.hold.new.self.held.items c.hold.new.self.next)
    c.args.block.now c.loop-at.rest.now c.loop-at.invariant)
    c.hold.ensures.ok

pub returns-clause-err : goal.returns-clause-err
returns-clause-err c =
    IfErr-weaker c.hold.result
    (λ fault. (came : List ℕ) → HasRead came c.loop-at.self.gathering c.loop-at.self.held.items c.loop-at.self.next → (later : List ℕ) → IsJournalRefusal ((came ++ c.loop-at.rest.now) ++ later) fault)
    (λ fault. (came : List ℕ) → HasRead came c.args.self.now.gathering c.args.self.now.held.items c.args.self.now.next → (later : List ℕ) → IsJournalRefusal ((came ++ c.args.block.now) ++ later) fault)
    (λ fault fails. goes_wrong
    (λ came. HasRead came c.args.self.now.gathering c.args.self.now.held.items c.args.self.now.next)
    (λ came. HasRead came c.loop-at.self.gathering c.loop-at.self.held.items c.loop-at.self.next)
    (λ t. IsJournalRefusal t fault)
    c.args.block.now c.loop-at.rest.now c.loop-at.rest.now [] c.loop-at.invariant
    (sym (append-nil c.loop-at.rest.now)) fails)
    c.hold.ensures.err
