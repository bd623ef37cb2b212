use Rattle.std.proofs.Common.{◌≡◌, ◌++◌, None, ap, ◌∙◌}
use Rattle.std.proofs.lemmas.Result.{on_ok_weaker}
use Rattle.review_ops.specs.Draft.{deed_of}
use Rattle.op_text.specs.Canonical.{written_text}
use Rattle.op_text.specs.Text.{body_text}
use Rattle.op_text.proofs.Lines.{body_text_spells}
use Rattle.op_text.proofs.Written.{body_written}
use Rattle.op_text.proofs.write.append_body.Goals as goal

pub returns-clause-ok : goal.returns-clause-ok
returns-clause-ok c =
    let is : written_text None (deed_of c.draft.result.now) ≡ body_text c.args.body.now =
    ap (written_text None) c.draft.ensures.value ∙ body_written c.args.body.now in
    on_ok_weaker c.append_text.result (λ e. e ∙ ap (λ l. c.args.page.now.items ++ l) is) c.append_text.ensures.ok

pub returns-clause-spells : goal.returns-clause-spells
returns-clause-spells c = body_text_spells c.args.body.now c.draft.ensures.good
