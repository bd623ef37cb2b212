use Rattle.std.proofs.Common.{◌≡◌, [], map, replicate}
use Rattle.walk_core.proofs.edges.empty_rows.Given as goal

abbrev pub invariant-loop : goal.invariant-loop
invariant-loop g l = map (λ row. row.items) l.rows.items ≡ replicate l.counter []
