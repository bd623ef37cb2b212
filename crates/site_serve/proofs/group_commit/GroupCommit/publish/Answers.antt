use Rattle.std.proofs.Common.{IfOk, List, subst, sym}
use Rattle.std.specs.Arc.{arc_value}
use Rattle.std.specs.List.{All}
use Rattle.site_serve.specs.Acknowledged.{IsTakenInto}
use Rattle.site_serve.specs.declared.requests.Waiter.{Waiter}
use Rattle.site_serve.proofs.Held.{all_shown}
use Rattle.site_serve.proofs.group_commit.GroupCommit.publish.Goals as goal
use Rattle.site_shared.specs.Publishes.{arrive}

pub reply_all-requires : goal.reply_all-requires
reply_all-requires g c =
    subst (λ (waiters : List Waiter). IfOk c.in-Ok.published (λ receipt. All (λ w. IsTakenInto (arrive (arc_value receipt).published) w.held) waiters))
    (sym c.as_slice.ensures.value)
    (all_shown (λ w. w.held) arc_value c.self.inside.ledger.account c.in-Ok.published c.in-Ok.ensures.shown
    c.self.inside.waiters.items c.self.invariant.0)
