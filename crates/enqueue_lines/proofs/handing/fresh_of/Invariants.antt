use Rattle.std.proofs.Common.{◌≡◌, ◌++◌, take, not, flat_map, map, ◌||◌}
use Rattle.std.specs.Prelude.{filter}
use Rattle.enqueue_lines.specs.Groups.{is_among}
use Rattle.enqueue_lines.proofs.handing.fresh_of.Given as goal

-- those of the items so far
abbrev pub invariant-loop-item : goal.invariant-loop-item
invariant-loop-item l = l.items.items ≡ filter (λ item. not (is_among l.ready item || is_among l.earlier item)) (take l.item-index l.now)
