use Rattle.std.proofs.Common.{refl}
use Rattle.change_core.specs.Change.{Change}
use Rattle.change_core.specs.Parts.{change_of_parts}
use Rattle.change_core.proofs.Joining.{lives_same, parts_copied}
use Rattle.change_core.proofs.state.ChangeStateJoin.copy.Goals as goal

pub returns : goal.returns
returns g c =
    let inside = c.self.inside in
    let view : Change = change_of_parts inside.merged inside.life inside.sets inside.votes in
    parts_copied _ c.args.self.now view c.self.view_is refl (lives_same c.in_ok-life.life inside.life c.in_ok-life.ensures)
    c.in_ok-sets.ensures c.in_ok-votes.ensures
