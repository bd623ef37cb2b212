use Rattle.script_text.proofs.Saying.{no_restart, restart_unread, restart_read}
use Rattle.script_text.proofs.script.read_restart.Goals as goal

pub returns-in_default-clause-only : goal.returns-in_default-clause-only
returns-in_default-clause-only c gate step said =
    absurd (no_restart gate c.args.fields.now c.in_default.ensures.none step said)

pub returns-in_default-read_number-clause-only : goal.returns-in_default-read_number-clause-only
returns-in_default-read_number-clause-only c gate step said = absurd (restart_unread gate c.args.fields.now c.in-Some.start.now c.in-Some.site c.in-Some.ensures.found c.in_default-read_number.ensures.none step said)

pub returns-clause-only : goal.returns-clause-only
returns-clause-only c gate = restart_read gate c.args.fields.now c.in-Some.start.now c.in-Some.site c.in-Some-read_number.start c.in-Some.ensures.found c.in-Some-read_number.ensures.found
