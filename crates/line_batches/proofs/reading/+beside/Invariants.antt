use Rattle.std.proofs.Common.{◌+◌, ◌*◌}
use Rattle.line_batches.proofs.reading.+beside.Given as goal

abbrev pub decreases-read_beside : goal.decreases-read_beside
decreases-read_beside g l = 2 * l.others

abbrev pub decreases-rest : goal.decreases-rest
decreases-rest g l = 2 * l.fewer + 1
