use Rattle.std.proofs.Common.{◌∙◌}
use Rattle.script_text.proofs.Saying.{no_intake, intake_unread, intake_read}
use Rattle.script_text.proofs.script.read_intake.Goals as goal

pub returns-in_default-clause-only : goal.returns-in_default-clause-only
returns-in_default-clause-only c gate step said =
    absurd (no_intake gate c.args.fields.now c.in_default.ensures.none step said)

pub returns-in-Ok-clause-only : goal.returns-in-Ok-clause-only
returns-in-Ok-clause-only c gate = intake_read gate c.args.fields.now c.in-Some.body.now c.in-Some.site c.in-Ok.draft c.in-Some.ensures.found c.in-Ok.ensures.only

pub returns-in-Err-clause-only : goal.returns-in-Err-clause-only
returns-in-Err-clause-only c gate step said = c.line_fault.ensures ∙ intake_unread gate c.args.fields.now c.in-Some.body.now c.in-Some.site c.in-Err.fault c.in-Some.ensures.found c.in-Err.ensures.only step said
