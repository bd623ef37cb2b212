use Rattle.std.proofs.Common.{◌++◌, codes, decimal, string_bytes, sym, ap, ◌∙◌}
use Rattle.std.proofs.lemmas.Result.{on_ok_weaker}
use Rattle.ready_core.specs.Words.{refusal_text}
use Rattle.why_text.proofs.words.add_refusal.Goals as goal

pub returns-in-Dependency : goal.returns-in-Dependency
returns-in-Dependency c =
    let bytes = string_bytes c.args.text.now in
    on_ok_weaker c.add_named-in-Dependency.result (λ added. added
    ∙ ap (λ w. bytes ++ (w ++ codes " " ++ decimal c.from-in-Dependency.result)) c.word-in-Dependency.ensures.word
    ∙ ap (λ n. bytes ++ (codes "dependency" ++ codes " " ++ decimal n)) c.from-in-Dependency.ensures
    ∙ ap (λ r. bytes ++ refusal_text r) (sym c.in-Dependency.is)) c.add_named-in-Dependency.ensures
