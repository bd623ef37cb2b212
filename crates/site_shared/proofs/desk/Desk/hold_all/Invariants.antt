use Rattle.std.proofs.Common.{◌≡◌, ◌++◌, length}
use Rattle.site_shared.specs.Accounts.{holding}
use Rattle.site_shared.proofs.desk.Desk.hold_all.Given as goal

-- those that were handed out are held, and the others are left
abbrev pub invariant-loop-op : goal.invariant-loop-op
invariant-loop-op l =
    (l.self ≡ holding l.initial.self l.yielded) × (l.fn.ops.items ≡ l.yielded ++ l.op-iterator.rest.items)
    × (l.held ≡ length l.yielded)
