use Rattle.std.proofs.Common.{◌≡◌, ◌<◌}
use Rattle.std.specs.Duration.{as_nanos}
use Rattle.site_serve.specs.Acknowledged.{AddsOwn, session_at}
use Rattle.site_serve.specs.Doing.{DoesSteps}
use Rattle.site_serve.proofs.lines.do_lines.Given as goal

-- no other asker was added to those who wait, nothing was answered before what was asked earlier, and this many steps
-- were made
abbrev pub invariant-loop : goal.invariant-loop
invariant-loop g l =
    AddsOwn (session_at l.fn.context.place l.fn.context.number) l.initial.group.waiters l.group.waiters
    × (0 < l.initial.session.waiting → (l.session.outbox ≡ l.initial.session.outbox) × (0 < l.session.waiting))
    × DoesSteps (session_at l.fn.context.place l.fn.context.number) (as_nanos l.fn.context.moment) l.counter
    l.initial.session l.session l.initial.group l.group
