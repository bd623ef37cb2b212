use Rattle.std.proofs.Common.{◌∷◌, ◌++◌, [], refl, subst}
use Rattle.world_core.specs.Step.{Step}
use Rattle.world_core.specs.World.{new_world}
use Rattle.world_core.proofs.Coming.{converges}
use Rattle.world_core.proofs.Histories.{goes_on}
use Rattle.world_core.proofs.Passed.{Run-append}
use Rattle.world_core.proofs.world.World.step.Goals as goal

pub invariant_of-self : goal.invariant_of-self
invariant_of-self g c =
    goes_on c.self.inside.machine c.args.event c.step.result c.step.new.self c.step.ensures c.self.invariant

pub returns-clause-converges : goal.returns-clause-converges
returns-clause-converges g c = λ sites earlier before was.
    let stepped : Step c.args.self.now c.args.event c.step.result c.step.new.self = subst (λ w. Step w c.args.event c.step.result c.step.new.self) c.self.view_is c.step.ensures in
    converges sites (earlier ++ c.args.event ∷ []) (before ++ c.step.result ∷ []) c.step.new.self
    (Run-append earlier before (c.args.event ∷ []) (c.step.result ∷ []) (new_world sites) c.args.self.now c.step.new.self was (c.step.new.self, stepped, refl))
