use Rattle.std.proofs.Common.{◌+◌, ◌*◌}
use Rattle.line_batches.proofs.parts.+joins.Given as goal

abbrev pub decreases-join_parts : goal.decreases-join_parts
decreases-join_parts g l = 2 * l.parts

abbrev pub decreases-rest : goal.decreases-rest
decreases-rest g l = 2 * l.fewer + 1
