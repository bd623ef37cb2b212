use Rattle.std.proofs.Common.{◌+◌, ◌*◌}
use Rattle.line_batches.proofs.parts.+consumes.Given as goal

abbrev pub decreases-consume_parts : goal.decreases-consume_parts
decreases-consume_parts g l = 2 * l.parts

abbrev pub decreases-rest : goal.decreases-rest
decreases-rest g l = 2 * l.fewer + 1
