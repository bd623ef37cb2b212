use Rattle.std.proofs.Common.{ap, ◌∙◌}
use Rattle.change_core.specs.Change.{change_joined, effect_of}
use Rattle.change_core.specs.StateLaws.{no_change-joined}
use Rattle.change_core.proofs.state.ChangeState.effect.Goals as goal

pub returns : goal.returns
returns g c = c.in_ok-take.ensures.ok ∙ ap (λ s. change_joined s (effect_of c.args.op.now)) c.new-state.ensures
    ∙ no_change-joined (effect_of c.args.op.now)
