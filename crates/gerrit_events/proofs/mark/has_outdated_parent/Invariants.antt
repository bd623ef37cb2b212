use Rattle.std.proofs.Common.{◌≡◌, false, map, take}
use Rattle.std.specs.List.{list_any}
use Rattle.gerrit_events.specs.Marks.{is_outdated_on}
use Rattle.gerrit_events.specs.Trees.{data_in}
use Rattle.gerrit_events.proofs.mark.has_outdated_parent.Given as goal

-- the parents so far are current
abbrev pub invariant-loop-parent : goal.invariant-loop-parent
invariant-loop-parent l = list_any is_outdated_on (map (λ v. data_in v) (take l.parent-index l.parents)) ≡ false
