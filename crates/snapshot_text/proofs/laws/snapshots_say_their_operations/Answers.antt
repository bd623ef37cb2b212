use Rattle.snapshot_text.proofs.ReadBack.{read_back}
use Rattle.snapshot_text.proofs.laws.snapshots_say_their_operations.Goals as goal

pub returns : goal.returns
returns c = read_back c.operations_are_spelled.ensures.line c.operations_are_spelled.ensures.spells
