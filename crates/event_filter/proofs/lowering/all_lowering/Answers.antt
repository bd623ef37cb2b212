use Rattle.std.proofs.Common.{◌+◌, subst, sym, take}
use Rattle.event_filter.specs.Lowering.{AreAllLowering, AreLowering}
use Rattle.event_filter.proofs.Lowered.{lower_more}
use Rattle.event_filter.proofs.lowering.all_lowering.Goals as goal

pub loop-finding-preserved : goal.loop-finding-preserved
loop-finding-preserved c =
    let findings = c.args.findings.now in
    subst (λ bodies. AreAllLowering c.args.state.now (take (c.loop-finding.finding-index + 1) findings) bodies)
    (sym c.in_ok-append.ensures.items)
    (lower_more c.args.state.now findings c.loop-finding.finding-index c.finding-item.result c.loop-finding-test.true
    c.loop-finding.bodies.items c.in_ok-more.more.items c.loop-finding.invariant
    (subst (λ finding. AreLowering c.args.state.now finding c.in_ok-more.more.items) c.finding-item.is c.in_ok-more.ensures))
