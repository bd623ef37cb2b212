use Rattle.std.proofs.lemmas.Result.{IfOk-weaker}
use Rattle.script_play.proofs.Sending.{sends}
use Rattle.script_play.proofs.play.send_to.Goals as goal

pub returns : goal.returns
returns c =
    IfOk-weaker c.play_event.result _ _
    (λ text plays. sends c.args.world.now c.play_event.new.world c.args.site c.args.receiver c.in-Some.replica.now c.in-Ok.front _ c.in-Some.ensures c.in-Ok.ensures plays)
    c.play_event.ensures
