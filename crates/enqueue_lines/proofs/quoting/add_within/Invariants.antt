use Rattle.std.proofs.Common.{◌≡◌, ◌++◌, take, not, flat_map, map, ◌||◌}
use Rattle.std.specs.Prelude.{filter}
use Rattle.enqueue_lines.specs.Quoting.{within_quotes}
use Rattle.enqueue_lines.proofs.quoting.add_within.Given as goal

-- what comes of the bytes so far is added
abbrev pub invariant-loop-byte : goal.invariant-loop-byte
invariant-loop-byte l = l.text.items ≡ l.initial.text.items ++ flat_map within_quotes (take l.byte-index l.word)
