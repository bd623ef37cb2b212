use Rattle.std.proofs.Common.{◌≡◌, ◌++◌, map, take}
use Rattle.std.specs.Prelude.{flat_map}
use Rattle.gerrit_events.specs.Trees.{data_in}
use Rattle.gerrit_events.specs.Claims.{older_claims}
use Rattle.gerrit_events.proofs.event.Event.add_older_sets.Given as goal

-- what is claimed of the patch sets so far
abbrev pub invariant-loop-older : goal.invariant-loop-older
invariant-loop-older l = l.claims.items ≡ l.initial.claims.items
    ++ flat_map (older_claims (data_in l.self.line.value.now) l.change l.set)
    (map data_in (take l.older-index l.values))
