use Rattle.std.proofs.Common.{◌≡◌, [], drop}
use Rattle.site_shared.proofs.stage.appended.Given as goal

-- nothing was laid before the writer yet
abbrev pub invariant-loop : goal.invariant-loop
invariant-loop g l =
    (goal.iterator-loop g).can_next l.iterator' × (goal.iterator-loop g).is_finite l.iterator'
    × (l.show.desk ≡ l.fn.show.desk) × (drop l.show.behind l.show.log.items ≡ []) × (l.waiting ≡ l.fn.next)
