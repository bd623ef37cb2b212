use Rattle.std.proofs.Common.{◌≡◌, ◌++◌, take, not, flat_map, map, ◌||◌}
use Rattle.std.specs.Prelude.{filter}
use Rattle.enqueue_lines.specs.Groups.{added_by}
use Rattle.enqueue_lines.proofs.handing.added_in.Given as goal

-- those of the lines so far
abbrev pub invariant-loop-parsed : goal.invariant-loop-parsed
invariant-loop-parsed l = l.items.items ≡ flat_map added_by (take l.parsed-index l.lines)
