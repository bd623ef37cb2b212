use Rattle.std.proofs.Common.{◌≡◌, ◌++◌, map, take}
use Rattle.gerrit_events.specs.Trees.{data_in}
use Rattle.gerrit_events.specs.Claims.{vote_claim}
use Rattle.gerrit_events.proofs.event.Event.add_votes.Given as goal

-- the votes so far
abbrev pub invariant-loop-approval : goal.invariant-loop-approval
invariant-loop-approval l = l.claims.items ≡ l.initial.claims.items
    ++ map (vote_claim l.self.line.kind (data_in l.self.line.value.now) l.change l.set)
    (map data_in (take l.approval-index l.values))
