use Rattle.std.proofs.Common.{◌∙◌, subst, sym}
use Rattle.lattice_core.specs.Join.{IsBetween, IsBetween-low, Covers-left}
use Rattle.change_core.specs.Change.{change_joined, changes_join}
use Rattle.state_core.proofs.shared.SharedChange.join_change.Goals as goal

pub returns-then-is_err-clause-err : goal.returns-then-is_err-clause-err
returns-then-is_err-clause-err g c =
    let old = c.args.self.now in
    let whole = change_joined old c.args.other in
    subst (λ new. IsBetween change_joined old new whole) (sym c.unshare.ensures)
    (IsBetween-low changes_join old whole (Covers-left changes_join old c.args.other))

pub returns-in_default-clause-err : goal.returns-in_default-clause-err
returns-in_default-clause-err g c =
    let old = c.args.self.now in
    let whole = change_joined old c.args.other in
    subst (λ new. IsBetween change_joined old new whole) (sym (c.self.view_is ∙ c.unshare.ensures))
    (IsBetween-low changes_join old whole (Covers-left changes_join old c.args.other))
