use Rattle.review_ops.specs.Order.{operations_exact}
use Rattle.review_ops.proofs.operation.operations_are_ordered.Goals as goal

pub returns : goal.returns
returns c = record { total = operations_exact.total; exact = operations_exact.exact }
