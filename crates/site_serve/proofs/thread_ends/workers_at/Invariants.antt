use Rattle.std.proofs.Common.{◌≡◌, All}
use Rattle.site_serve.proofs.thread_ends.workers_at.Given as goal

-- the windows that are left are of the opening
abbrev pub invariant-loop-worker : goal.invariant-loop-worker
invariant-loop-worker g l = All (λ window. window.book ≡ g.J.Naming.book) l.windows.items
