use Rattle.review_ops.specs.Order.{operations_exact}
use Rattle.replica_core.specs.InOrder.{IsInOrder-same, IsInOrder-unique}
use Rattle.replica_core.specs.Sets.{state_of-same, next_of-same}
use Rattle.replica_core.specs.FrontLaws.{IsFront-same, IsFront-unique, IsMissing-same, IsMissing-unique}
use Rattle.replica_core.proofs.laws.equal_journals_agree.Goals as goal

pub returns-clause-state : goal.returns-clause-state
returns-clause-state c = state_of-same

pub returns-clause-next : goal.returns-clause-next
returns-clause-next c = next_of-same

pub returns-clause-front : goal.returns-clause-front
returns-clause-front c = λ xs ys f g same is also. IsFront-unique ys f g (IsFront-same xs ys f same is) also

pub returns-clause-missing : goal.returns-clause-missing
returns-clause-missing c = λ xs ys front ops others same is also. IsMissing-unique ys front ops others
    (IsMissing-same xs ys front ops same is) also

pub returns-clause-order : goal.returns-clause-order
returns-clause-order c = λ xs ys ops others same is also. IsInOrder-unique operations_exact ys ops others
    (IsInOrder-same operations_exact xs ys ops same is) also
