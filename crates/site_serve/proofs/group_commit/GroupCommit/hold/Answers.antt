use Rattle.std.proofs.Common.{subst, sym}
use Rattle.std.specs.List.{All}
use Rattle.site_serve.specs.Acknowledged.{IsHeldBy}
use Rattle.site_serve.proofs.Held.{one_more}
use Rattle.site_serve.proofs.group_commit.GroupCommit.hold.Goals as goal

pub invariant_of-self : goal.invariant_of-self
invariant_of-self g c =
    let old = c.self.inside.ledger.account in
    let new = c.hold_ask-waiter.new.ledger.account in (
      subst (All (λ w. IsHeldBy new w.held)) (sym c.push_reserved.ensures.items)
          (one_more (λ w. w.held) old new c.hold_ask-waiter.ensures.grows c.self.inside.waiters.items
          c.hold_ask-waiter.result c.self.invariant.0 c.hold_ask-waiter.ensures.held),
      search (c.push_reserved.ensures.capacity, c.self.invariant.1),
    )
