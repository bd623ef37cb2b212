use Rattle.std.proofs.Common.{◌≡◌, rules, inl, refl, subst}
use Rattle.std.proofs.lemmas.Result.{err_from_is_err_and}
use Rattle.std.specs.Option.{option_copied}
use Rattle.commands.specs.Answers.{IsPlayedText}
use Rattle.commands.specs.Ending.{Finishes}
use Rattle.commands.proofs.Simulated.{gate_refused, simulated}
use Rattle.commands.proofs.simulate.simulate.Goals as goal

pub returns-in_err-rules : goal.returns-in_err-rules
returns-in_err-rules g c =
    let p = err_from_is_err_and c.from_residual-in_err-rules.result c.from_residual-in_err-rules.ensures.1 in
    rw (p.1, p.2)
    (inl (gate_refused c.args.command.now.script c.args.command.now.gate _ _ _ _ _ c.in_ok-text.ensures.had c.in_err-rules.ensures.refused))

pub returns : goal.returns
returns g c =
    let now = g.C.Console.state c.read_any_gate.new.console in
    let new = g.C.Console.state c.play_text.new.console in
    let under : option_copied c.as_ref.result ≡ c.in_ok-rules.rules = search rules in
    simulated c.args.command.now c.args.command.now.gate refl _ _ now new c.in_ok-text.text.items c.in_ok-rules.rules c.play_text.result c.in_ok-text.ensures.had c.in_ok-rules.ensures.had
    (subst (λ gate. Finishes (IsPlayedText gate c.in_ok-text.text.items) now new c.play_text.result) under
    (subst (λ text. Finishes (IsPlayedText (option_copied c.as_ref.result) text) now new c.play_text.result) c.as_slice.ensures.value c.play_text.ensures))
