use Rattle.std.proofs.Common.{not, sym, ap, ◌∙◌}
use Rattle.site_address.specs.Address.{has_slash}
use Rattle.site_address.specs.Host.{NamesHostPort}
use Rattle.command_line.proofs.Reading.{kept_more, none_kept}
use Rattle.command_line.proofs.addresses.hosts_of.Goals as goal

pub returns-in_default : goal.returns-in_default
returns-in_default c =
    none_kept NamesHostPort (λ word. not (has_slash word)) c.args.texts.now c.loop-text.text-index _ c.loop-text-test.true
    (ap not (sym c.has_slash.ensures ∙ c.if-has_slash.false)) c.in_default.ensures.named

pub loop-text-preserved : goal.loop-text-preserved
loop-text-preserved c =
    rw c.in_ok-push.ensures.items
    (kept_more NamesHostPort (λ word. not (has_slash word)) c.args.texts.now c.loop-text.text-index _ c.loop-text.hosts.items c.in-Some.at c.loop-text-test.true
    (ap not (sym c.has_slash.ensures ∙ c.if-has_slash.false)) c.loop-text.invariant c.in-Some.ensures.named)
