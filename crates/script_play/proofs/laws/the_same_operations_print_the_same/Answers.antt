use Rattle.std.proofs.Common.{subst}
use Rattle.std.specs.Prelude.{IfSome}
use Rattle.state_core.specs.State.{state_of}
use Rattle.world_core.specs.Convergence.{Agree}
use Rattle.world_core.specs.Numbered.{numbered}
use Rattle.script_play.proofs.laws.the_same_operations_print_the_same.Goals as goal

pub returns-clause-own : goal.returns-clause-own
returns-clause-own g c = λ sites events answers world run. (c.worlds_converge.ensures sites events answers world run).came

pub returns-clause-same : goal.returns-clause-same
returns-clause-same g c = λ sites events answers world run site another one other is_one is_other same.
    let converges = c.worlds_converge.ensures sites events answers world run in
    let at_one = subst (λ found. IfSome found (λ at. IfSome (numbered world.sites another) (Agree at))) is_one (converges.agree site another same) in
    let agree = subst (λ found. IfSome found (Agree one)) is_other at_one in
    c.equal_states_print_the_same.ensures (state_of one.journal) (state_of other.journal) agree.1
