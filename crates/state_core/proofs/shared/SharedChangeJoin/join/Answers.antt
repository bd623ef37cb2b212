use Rattle.lattice_core.specs.Join.{IsBetween-low, Covers-left}
use Rattle.change_core.specs.Change.{change_joined, changes_join}
use Rattle.state_core.proofs.shared.SharedChangeJoin.join.Goals as goal

pub returns-in-Err-clause-err : goal.returns-in-Err-clause-err
returns-in-Err-clause-err g c =
    let old = c.args.self.now in
    IsBetween-low changes_join old (change_joined old c.args.other) (Covers-left changes_join old c.args.other)
