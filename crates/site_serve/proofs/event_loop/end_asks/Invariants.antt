use Rattle.std.proofs.Common.{◌≡◌, []}
use Rattle.site_serve.proofs.event_loop.end_asks.Given as goal

-- nobody waits
abbrev pub invariant-loop-ask : goal.invariant-loop-ask
invariant-loop-ask g l =
    (goal.iterator-loop-ask g).can_next l.ask-iterator × (goal.iterator-loop-ask g).is_finite l.ask-iterator
    × (l.group.waiters ≡ [])
