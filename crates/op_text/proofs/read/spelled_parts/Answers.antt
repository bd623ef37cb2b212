use Rattle.std.proofs.Common.{ap, ◌∙◌}
use Rattle.review_ops.specs.Draft.{deed_of}
use Rattle.op_text.specs.Canonical.{written_text}
use Rattle.op_text.proofs.Lines.{canonical_parts}
use Rattle.op_text.proofs.read.spelled_parts.Goals as goal

pub returns-in-Some-Some-default-clause-spelled : goal.returns-in-Some-Some-default-clause-spelled
returns-in-Some-Some-default-clause-spelled c =
    let deed = deed_of c.in-Some-Some-default.draft in
    canonical_parts c.args.bytes.now c.in-Some-Some-default.stamp deed (c.in-Some-Some-default.ensures ∙ ap (λ stamp. written_text stamp deed) c.in-Some-Some-default.field-0-0-is) c.seq.ensures.numbered c.drafts_fit.ensures
