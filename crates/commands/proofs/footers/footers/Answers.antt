use Rattle.std.proofs.Common.{◌≡◌, ◌∙◌, rules, inl, inr, refl, subst, sym, string_bytes, [], ◌∷◌}
use Rattle.std.proofs.lemmas.Result.{err_from_is_err_and}
use Rattle.std.specs.Prelude.{IsUtf8}
use Rattle.footer_text.specs.Footers.{AreFooters}
use Rattle.gate_rules.specs.Spelling.{SpellsGate}
use Rattle.commands.specs.Answers.{AreFooterLines, IsPrintedWhole, MissesNone, footers_as}
use Rattle.console.specs.Printing.{Prints}
use Rattle.console.specs.Inputs.{gate_file, input, message_file}
use Rattle.commands.proofs.HowItEnds.{both_had, finishes, second_refused, stops}
use Rattle.commands.proofs.footers.footers.Goals as goal

pub returns-in_err-message : goal.returns-in_err-message
returns-in_err-message g c =
    let p = err_from_is_err_and c.from_residual-in_err-message.result c.from_residual-in_err-message.ensures.1 in
    rw (p.1, p.2) (inl (second_refused (input gate_file c.args.command.now.gate.now) (input message_file c.args.command.now.message.now)
    (λ text. SpellsGate text c.in_ok-rules.rules) (λ text spells. (c.in_ok-rules.rules, spells)) _ _ _ _ c.in_ok-rules.ensures.had c.in_err-message.ensures.refused))

pub returns-in_default : goal.returns-in_default
returns-in_default g c =
    let first = c.in_ok-rules.ensures.had in
    let second = c.in_ok-message.ensures.had in
    let text_is : string_bytes c.in_ok-message.message ≡ c.as_str.result.now = search rules in
    inr (
      first.0 ∷ second.0 ∷ [],
      g.C.Console.state c.read_message.new.console,
      both_had (input gate_file c.args.command.now.gate.now) (input message_file c.args.command.now.message.now)
          (λ text. SpellsGate text c.in_ok-rules.rules) (λ text spells. (c.in_ok-rules.rules, spells))
          (λ text. text ≡ string_bytes c.in_ok-message.message)
          (λ text is. subst IsUtf8 (sym (is ∙ text_is)) c.as_str.utf8) _ _ _ first second,
      stops (AreFooterLines first.0 second.0 c.args.command.now) _,
    )

pub returns : goal.returns
returns g c =
    let first = c.in_ok-rules.ensures.had in
    let second = c.in_ok-message.ensures.had in
    let text_is : string_bytes c.in_ok-message.message ≡ c.as_str.result.now = search rules in
    let found = c.in-Ok.ensures in
    inr (
      first.0 ∷ second.0 ∷ [],
      g.C.Console.state c.read_message.new.console,
      both_had (input gate_file c.args.command.now.gate.now) (input message_file c.args.command.now.message.now)
          (λ text. SpellsGate text c.in_ok-rules.rules) (λ text spells. (c.in_ok-rules.rules, spells))
          (λ text. text ≡ string_bytes c.in_ok-message.message)
          (λ text is. subst IsUtf8 (sym (is ∙ text_is)) c.as_str.utf8) _ _ _ first second,
      finishes (IsPrintedWhole (AreFooterLines first.0 second.0 c.args.command.now) MissesNone)
          (footers_as c.args.command.now.format c.in_ok-rules.rules.bases found.0 found.1) _ _ c.print.result
          (record {
            rules = c.in_ok-rules.rules;
            spelled = first.2;
            needs = found.0;
            ignored = found.1;
            footers = subst (λ text. AreFooters c.in_ok-rules.rules.bases c.args.command.now.change text found.0 found.1)
                (sym (second.2 ∙ text_is)) found.2;
            text = refl;
          })
          (subst (λ text. Prints text (g.C.Console.state c.read_message.new.console) (g.C.Console.state c.print.new.self) c.print.result) (c.as_slice.ensures.value ∙ found.3) c.print.ensures),
    )
