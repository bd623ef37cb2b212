use Rattle.std.proofs.Common.{◌≡◌, ◌++◌, take, not, flat_map, map, ◌||◌}
use Rattle.std.specs.Prelude.{filter}
use Rattle.enqueue_lines.specs.Groups.{is_among}
use Rattle.enqueue_lines.proofs.handing.without.Given as goal

-- those of the items so far
abbrev pub invariant-loop-item : goal.invariant-loop-item
invariant-loop-item l = l.now.items ≡ filter (λ item. not (is_among l.ordered item)) (take l.item-index l.before)
