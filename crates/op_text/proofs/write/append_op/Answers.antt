use Rattle.std.proofs.Common.{◌≡◌, ◌++◌, Some, ap, ◌∙◌}
use Rattle.std.proofs.lemmas.Result.{on_ok_weaker}
use Rattle.review_ops.specs.Draft.{deed_of}
use Rattle.op_text.specs.Canonical.{written_text}
use Rattle.op_text.specs.Text.{operation_text}
use Rattle.op_text.proofs.Lines.{operation_text_spells}
use Rattle.op_text.proofs.Written.{operation_written}
use Rattle.op_text.proofs.write.append_op.Goals as goal

pub returns-clause-ok : goal.returns-clause-ok
returns-clause-ok c =
    let op = c.args.op.now in
    let deed = deed_of c.draft.result.now in
    let is : written_text (Some c.stamp.result) deed ≡ operation_text op =
    ap (λ stamp. written_text (Some stamp) deed) c.stamp.ensures.value
    ∙ ap (written_text (Some op.stamp)) (c.draft.ensures.value ∙ c.body.ensures.value) ∙ operation_written op in
    on_ok_weaker c.append_text.result (λ e. e ∙ ap (λ l. c.args.page.now.items ++ l) is) c.append_text.ensures.ok

pub returns-clause-spells : goal.returns-clause-spells
returns-clause-spells c = operation_text_spells c.args.op.now c.stamp.ensures.numbered c.body.ensures.good
