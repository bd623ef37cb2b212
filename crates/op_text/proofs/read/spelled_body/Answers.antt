use Rattle.std.proofs.Common.{ap, ◌∙◌}
use Rattle.review_ops.specs.Draft.{deed_of}
use Rattle.op_text.specs.Canonical.{written_text}
use Rattle.op_text.proofs.Lines.{canonical_body}
use Rattle.op_text.proofs.read.spelled_body.Goals as goal

pub returns-in-Some-None-default-clause-spelled : goal.returns-in-Some-None-default-clause-spelled
returns-in-Some-None-default-clause-spelled c =
    let deed = deed_of c.in-Some-None-default.draft in
    canonical_body c.args.bytes.now deed (c.in-Some-None-default.ensures ∙ ap (λ stamp. written_text stamp deed) c.in-Some-None-default.field-0-0-is) c.drafts_fit.ensures
