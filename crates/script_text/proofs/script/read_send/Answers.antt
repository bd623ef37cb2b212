use Rattle.std.proofs.Common.{◌∙◌}
use Rattle.script_text.proofs.Saying.{no_send, send_unread, send_read, no_send_to, send_to_read}
use Rattle.script_text.proofs.script.read_send.Goals as goal

pub returns-in_default-clause-only : goal.returns-in_default-clause-only
returns-in_default-clause-only c gate step said =
    absurd (no_send gate c.args.fields.now c.in_default.ensures.none step said)

pub returns-in_err-receiver-clause-only : goal.returns-in_err-receiver-clause-only
returns-in_err-receiver-clause-only c gate step said =
    absurd (no_send_to gate c.args.fields.now c.in-Some.front.now c.in-Some-named_site.field.now c.in-Some.site c.in-Some.ensures.found c.in-Some-named_site.ensures.found c.in_err-receiver.ensures.none step said)

pub returns-in-Some-named_site-clause-only : goal.returns-in-Some-named_site-clause-only
returns-in-Some-named_site-clause-only c gate =
    send_to_read gate c.args.fields.now c.in-Some.front.now c.in-Some-named_site.field.now c.in-Some.site c.in_ok-receiver.receiver c.in-Some.ensures.found c.in-Some-named_site.ensures.found c.in_ok-receiver.ensures.found

pub returns-in-Ok-clause-only : goal.returns-in-Ok-clause-only
returns-in-Ok-clause-only c gate = send_read gate c.args.fields.now c.in-Some.front.now c.in-Some.site c.in-Ok.front c.in-Some.ensures.found c.in_default-named_site.ensures.none c.in-Ok.ensures.only

pub returns-in-Err-clause-only : goal.returns-in-Err-clause-only
returns-in-Err-clause-only c gate step said =
    c.line_fault.ensures ∙ send_unread gate c.args.fields.now c.in-Some.front.now c.in-Some.site c.in-Err.fault c.in-Some.ensures.found c.in_default-named_site.ensures.none c.in-Err.ensures.only step said
