use Rattle.std.proofs.Common.{◌++◌, [], ap, refl, Err}
use Rattle.std.proofs.KnownBytes.{Consumes-nil}
use Rattle.std.proofs.lemmas.Result.{err_from_is_err_and}
use Rattle.gossip_line.proofs.OneAnswer.{awaits_ungreeted, unsent_ungreeted}
use Rattle.gossip_line.proofs.Pulling.{not_sent}
use Rattle.gossip_line.proofs.pull.greet.Goals as goal

pub returns-in_err-send-clause-greets : goal.returns-in_err-send-clause-greets
returns-in_err-send-clause-greets g c =
    let p = err_from_is_err_and c.from_residual.result c.from_residual.ensures.1 in
    let failed = not_sent _ _ _ _ _ c.in_err-send.field-0.0 c.in_err-send.ensures in
    let reader = c.args.reader.now in (
      [],
      Consumes-nil _,
      rw (p.1, p.2) (unsent_ungreeted reader.limit (reader.held ++ []) _ _ _ _ _ _
          c.in_err-send.field-0.0 failed.0 failed.1),
    )

pub returns-in_err-await_line-clause-greets : goal.returns-in_err-await_line-clause-greets
returns-in_err-await_line-clause-greets g c =
    let p = err_from_is_err_and c.from_residual-in_err-await_line.result c.from_residual-in_err-await_line.ensures.1 in
    let now = c.in_err-await_line.ensures.awaits in (
      now.0,
      now.1,
      rw (p.1, p.2) (awaits_ungreeted c.args.reader.now.limit c.args.reader.now c.await_line.new.reader now.0
          _ _ _ _ _ _ _ c.in_err-await_line.field-0.0 refl now.2 (λ e. c.in_err-await_line.ensures.end (ap Err e))
          c.in_err-await_line.ensures.counted c.in_ok-send.ensures.1.none_failed c.in_ok-send.ensures.1.whole),
    )
