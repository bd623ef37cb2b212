use Rattle.std.proofs.Common.{inr}
use Rattle.std.proofs.lemmas.Result.{err_from_is_err_and}
use Rattle.std.specs.Option.{option_copied}
use Rattle.commands.specs.Answers.{IsPlayed, IsPlayedText}
use Rattle.commands.proofs.Simulated.{finishes_so, unread}
use Rattle.commands.proofs.simulate.play_text.Goals as goal

pub returns-in_err-script : goal.returns-in_err-script
returns-in_err-script g c =
    let p = err_from_is_err_and c.from_residual.result c.from_residual.ensures.1 in
    rw (p.1, p.2)
    (unread (option_copied c.args.gate) c.args.text.now _ c.in_err-script.field-0.0 c.in_err-script.ensures.unread)

pub returns : goal.returns
returns g c =
    let script = c.in_ok-script.script in
    finishes_so (IsPlayed script.sites script.steps.items script.bad_line)
    (IsPlayedText (option_copied c.args.gate) c.args.text.now)
    (λ answer ended is. inr (script.sites, script.steps.items, script.bad_line, c.in_ok-script.ensures.says, is)) _ _ c.play.result c.play.ensures
