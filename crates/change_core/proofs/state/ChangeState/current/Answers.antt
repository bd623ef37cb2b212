use Rattle.std.proofs.Common.{sym, subst}
use Rattle.change_core.specs.Parts.{patch_of, change_of_parts}
use Rattle.change_core.specs.Views.{IsCurrent}
use Rattle.change_core.proofs.LastEntry.{greatest_from_last, none_known, before_last, no_last}
use Rattle.change_core.proofs.state.ChangeState.current.Goals as goal

pub returns-in_err-set : goal.returns-in_err-set
returns-in_err-set g c =
    let inside = c.self.inside in
    subst (IsCurrent c.args.self.now) (sym c.from_residual.ensures)
    (none_known (λ pair. (pair.0, (pair.1.0, patch_of pair.1.1))) c.args.self.now (change_of_parts inside.merged inside.life inside.sets inside.votes) c.self.view_is inside.sets c.last.ensures.entries (no_last inside.sets (sym c.in_err-set.ensures.last)))

pub returns : goal.returns
returns g c =
    let inside = c.self.inside in
    let split = before_last inside.sets _ (sym c.in_ok-set.ensures.last) in
    greatest_from_last (λ pair. (pair.0, (pair.1.0, patch_of pair.1.1))) c.args.self.now (change_of_parts inside.merged inside.life inside.sets inside.votes) c.self.view_is inside.sets c.last.ensures.entries split.0 _ split.1
