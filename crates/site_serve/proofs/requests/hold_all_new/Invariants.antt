use Rattle.std.proofs.Common.{◌≡◌, ◌++◌}
use Rattle.replica_core.specs.JournalLaws.{IsPartOf}
use Rattle.site_shared.specs.Accounts.{record_of}
use Rattle.site_serve.proofs.requests.hold_all_new.Given as goal

-- the record has what it had at first and those that were handed out, and the others are left
abbrev pub invariant-loop-op : goal.invariant-loop-op
invariant-loop-op g l =
    (goal.iterator-loop-op g).can_next l.op-iterator × (goal.iterator-loop-op g).is_finite l.op-iterator
    × IsPartOf (record_of l.initial.ledger.account) (record_of l.ledger.account)
    × IsPartOf l.yielded (record_of l.ledger.account)
    × (l.fn.ops.items ≡ l.yielded ++ l.op-iterator.rest.items)
