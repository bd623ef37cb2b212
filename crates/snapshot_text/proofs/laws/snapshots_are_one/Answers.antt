use Rattle.review_ops.specs.Order.{operations_exact}
use Rattle.replica_core.specs.InOrder.{IsInOrder-unique}
use Rattle.snapshot_text.proofs.laws.snapshots_are_one.Goals as goal

pub returns : goal.returns
returns c = IsInOrder-unique operations_exact
