use Rattle.std.proofs.Common.{◌++◌, List}
use Rattle.std.specs.List.{filter}
use Rattle.std.specs.Prelude.{map}
use Rattle.review_ops.specs.Deed.{Deed}
use Rattle.gerrit_events.specs.Listings.{listing_shown}
use Rattle.event_filter.specs.Bringing.{AreBodies, beyond, is_unlisted, withdrawal}
use Rattle.event_filter.proofs.bringing.withdrawals_of.Given as goal

-- what the votes that are left add completes the withdrawals
abbrev pub invariant-loop-approval : goal.invariant-loop-approval
invariant-loop-approval l = record {
  can_next : (goal.iterator-loop-approval).can_next l.approval-iterator;
  is_finite : (goal.iterator-loop-approval).is_finite l.approval-iterator;
  bodies : (rest : List Deed)
      → AreBodies (map (withdrawal l.listing.change l.listing.set) (filter (is_unlisted (listing_shown l.listing).ballots) l.approval-iterator)) rest
      → AreBodies (beyond l.change (listing_shown l.listing)) (l.bodies.items ++ rest);
}
