use Rattle.change_core.specs.StateLaws.{state_of_none, state_of_one, state_of_both, state_of_same, state_of_unique}
use Rattle.change_core.proofs.laws.operations_add_up.Goals as goal

pub returns-clause-none : goal.returns-clause-none
returns-clause-none c = state_of_none

pub returns-clause-one : goal.returns-clause-one
returns-clause-one c = state_of_one

pub returns-clause-both : goal.returns-clause-both
returns-clause-both c = state_of_both

pub returns-clause-unique : goal.returns-clause-unique
returns-clause-unique c =
    λ xs ys a b there back is_a is_b. state_of_unique ys a b (state_of_same xs ys a there back is_a) is_b
