use Rattle.script_text.proofs.Saying.{no_deliver, deliver_unread, deliver_read}
use Rattle.script_text.proofs.script.read_deliver.Goals as goal

pub returns-in_default-clause-only : goal.returns-in_default-clause-only
returns-in_default-clause-only c gate step said =
    absurd (no_deliver gate c.args.fields.now c.in_default.ensures.none step said)

pub returns-in_err-site-clause-only : goal.returns-in_err-site-clause-only
returns-in_err-site-clause-only c gate step said = absurd (deliver_unread gate c.args.fields.now c.in-Some.site.now c.in-Some.packet c.in-Some.ensures.found c.in_err-site.ensures.none step said)

pub returns-clause-only : goal.returns-clause-only
returns-clause-only c gate = deliver_read gate c.args.fields.now c.in-Some.site.now c.in-Some.packet c.in_ok-site.site c.in-Some.ensures.found c.in_ok-site.ensures.found
