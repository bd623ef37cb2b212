use Rattle.std.proofs.Common.{◌≡◌, map, length}
use Rattle.walk_core.specs.Digraphs.{IsWithin}
use Rattle.walk_tests.proofs.digraphs.graph_of.Given as goal

abbrev pub invariant-loop-from : goal.invariant-loop-from
invariant-loop-from g l = (length l.rows.items ≡ l.nodes) × IsWithin (map (λ row. row.items) l.rows.items)
