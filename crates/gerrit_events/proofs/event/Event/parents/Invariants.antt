use Rattle.std.proofs.Common.{◌≡◌, map, take}
use Rattle.std.specs.Prelude.{filter_map}
use Rattle.gerrit_events.specs.Trees.{data_in}
use Rattle.gerrit_events.specs.Patches.{parent_in, project_in}
use Rattle.gerrit_events.proofs.event.Event.parents.Given as goal

-- the parents so far
abbrev pub invariant-loop-value : goal.invariant-loop-value
invariant-loop-value l = l.parents.items ≡ filter_map
    (parent_in l.self.known.now (project_in l.self.line.kind (data_in l.self.line.value.now)) l.self.line.kind)
    (map data_in (take l.value-index l.values))
