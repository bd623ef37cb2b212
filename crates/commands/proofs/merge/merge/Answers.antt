use Rattle.std.proofs.Common.{inl, inr, [], ◌∷◌}
use Rattle.std.proofs.lemmas.Result.{err_from_is_err_and}
use Rattle.byte_ends.specs.Lines.{lines_of}
use Rattle.snapshot_text.specs.Snapshot.{SaysOperations}
use Rattle.commands.specs.Answers.{IsMergedText}
use Rattle.console.specs.Inputs.{record_input}
use Rattle.commands.proofs.HowItEnds.{both_had, finishes_snapshot, second_refused}
use Rattle.commands.proofs.Merged.{is_merged}
use Rattle.commands.proofs.OfRecord.{record_sound}
use Rattle.commands.proofs.merge.merge.Goals as goal

pub returns-in_err-both : goal.returns-in_err-both
returns-in_err-both g c =
    let p = err_from_is_err_and c.from_residual-in_err-both.result c.from_residual-in_err-both.ensures.1 in
    let first = c.in_ok-gathering.ensures.had in
    rw (p.1, p.2) (inl (second_refused (record_input c.args.command.now.first.now) (record_input c.args.command.now.second.now)
    (λ text. SaysOperations (lines_of text) first.0)
    (λ text says. record_sound c.args.command.now.first.now text first.0 says) _ _ _ _ first.2 c.in_err-both.ensures.refused))

pub returns : goal.returns
returns g c =
    let first = c.in_ok-gathering.ensures.had in
    let second = c.in_ok-both.ensures.had in
    inr (
      first.2.0 ∷ second.2.0 ∷ [],
      g.C.Console.state c.read_record-2.new.console,
      both_had (record_input c.args.command.now.first.now) (record_input c.args.command.now.second.now)
          (λ text. SaysOperations (lines_of text) first.0) (λ text says. record_sound c.args.command.now.first.now text first.0 says)
          (λ text. SaysOperations (lines_of text) second.0) (λ text says. record_sound c.args.command.now.second.now text second.0 says) _ _ _ first.2 second.2,
      finishes_snapshot (IsMergedText first.2.0 second.2.0) c.in_ok-both.both _ _ c.print_snapshot-printed.result
          (is_merged c.operations_arrive_as_a_set.ensures first.2.0 second.2.0 first.0 second.0 c.new.result c.in_ok-gathering.gathering c.in_ok-both.both first.2.2 second.2.2 c.new.ensures first.1 second.1)
          c.print_snapshot-printed.ensures,
    )
