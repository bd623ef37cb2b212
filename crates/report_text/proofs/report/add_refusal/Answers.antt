use Rattle.std.proofs.Common.{◌≡◌, ◌++◌, codes, decimal, sym, ap, ◌∙◌}
use Rattle.ready_core.specs.declared.verdicts.Refusal.TheVariants.{Dependency}
use Rattle.ready_core.specs.Words.{refusal_text}
use Rattle.report_text.proofs.report.add_refusal.Goals as goal

pub returns-in-Dependency-clause-text : goal.returns-in-Dependency-clause-text
returns-in-Dependency-clause-text c =
    let bytes = c.args.page.now.bytes in
    let change = c.in-Dependency.change in
    let text : c.add_named-in-Dependency.new.page.bytes ≡ bytes ++ refusal_text (Dependency change) =
    c.add_named-in-Dependency.ensures.text
    ∙ ap (λ w. bytes ++ (w ++ codes " " ++ decimal c.from-in-Dependency.result)) c.word-in-Dependency.ensures.word
    ∙ ap (λ n. bytes ++ (codes "dependency" ++ codes " " ++ decimal n)) c.from-in-Dependency.ensures in
    text ∙ ap (λ r. bytes ++ refusal_text r) (sym c.in-Dependency.is)
