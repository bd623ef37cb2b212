use Rattle.std.proofs.Common.{Contains, subst}
use Rattle.watch_core.specs.Namers.{AddsWaiting, IsSpreading}
use Rattle.watch_core.proofs.Spread.{spreading_first, spreading_on}
use Rattle.watch_core.proofs.reach.reach_of.Goals as goal

pub loop-init : goal.loop-init
loop-init c = spreading_first c.args.state.now c.args.namers.now c.args.later c.new-items.result c.in_ok-ahead.ahead.items c.new-items.ensures.empty c.in_ok-ahead.ensures

pub loop-preserved : goal.loop-preserved
loop-preserved c =
    let before = subst (IsSpreading c.args.state.now c.args.namers.now c.args.later c.loop.items) c.in-Some.ensures.items c.loop.invariant in
    let adds = subst (λ l. AddsWaiting c.args.state.now (Contains l) c.loop.items c.pop.new.self.items c.add_all.new.items c.add_all.new.ahead.items) c.namers_at.ensures c.in_ok-add_all.ensures in
    spreading_on c.args.state.now c.args.namers.now c.args.later c.loop.items c.add_all.new.items c.pop.new.self.items c.add_all.new.ahead.items c.in-Some.number adds before
