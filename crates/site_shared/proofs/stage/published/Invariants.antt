use Rattle.std.proofs.Common.{◌≡◌, drop}
use Rattle.site_shared.proofs.stage.published.Given as goal

-- nothing was shown yet
abbrev pub invariant-loop : goal.invariant-loop
invariant-loop g l =
    (goal.iterator-loop g).can_next l.iterator' × (goal.iterator-loop g).is_finite l.iterator'
    × (l.show.desk.shown.value ≡ l.fn.show.desk.shown.value)
    × (drop l.show.behind l.show.log.items ≡ drop l.fn.show.behind l.fn.show.log.items)
