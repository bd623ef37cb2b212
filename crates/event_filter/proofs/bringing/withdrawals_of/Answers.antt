use Rattle.std.proofs.Common.{map, subst, sym}
use Rattle.std.specs.List.{filter}
use Rattle.change_core.specs.VoteShown.{approval_shown}
use Rattle.gerrit_events.specs.Listings.{listing_shown}
use Rattle.event_filter.specs.Bringing.{AreBodies, beyond, is_unlisted, withdrawal}
use Rattle.event_filter.proofs.Bodies.{completed, passed_more}
use Rattle.event_filter.proofs.bringing.withdrawals_of.Goals as goal

pub loop-approval-preserved-in-Continue-1 : goal.loop-approval-preserved-in-Continue-1
loop-approval-preserved-in-Continue-1 c = record {
  can_next = tt;
  is_finite = tt;
  bodies =
      passed_more (is_unlisted (listing_shown c.args.listing.now).ballots)
      (withdrawal c.args.listing.now.change c.args.listing.now.set)
      (beyond c.args.change.now (listing_shown c.args.listing.now)) (approval_shown c.in-Some.approval)
      c.loop-approval.approval-iterator c.next.new.self c.in-Some.ensures.steps c.loop-approval.bodies.items
      c.add_withdrawal.new.bodies.items (cc) c.loop-approval.invariant.bodies
      c.in_ok-add_withdrawal.ensures;
}

pub returns : goal.returns
returns c =
    completed (beyond c.args.change.now (listing_shown c.args.listing.now)) c.loop-approval.bodies.items
    (λ rest none. c.loop-approval.invariant.bodies rest (subst (λ xs. AreBodies (map (withdrawal c.args.listing.now.change c.args.listing.now.set) (filter (is_unlisted (listing_shown c.args.listing.now).ballots) xs)) rest) (sym c.in-None.ensures.steps.0) none))
