-- Worlds come about by events: an empty one does, and each step goes on.
use Rattle.std.proofs.Common.{◌≡◌, ℕ, [], ◌∷◌, ◌++◌, refl}
use Rattle.std.proofs.Math.Logic.{∥∥₁_map}
use Rattle.world_core.specs.declared.event.Event.{Event}
use Rattle.world_core.specs.Convergence.{CameAbout, HasConverged}
use Rattle.world_core.specs.Step.{Answer, Step}
use Rattle.world_core.specs.World.{WorldState, new_world}
use Rattle.world_core.proofs.Coming.{converges}
use Rattle.world_core.proofs.Passed.{Run-append}

pub begins : (A : Type 0) (sites : ℕ) (world : WorldState) → world ≡ new_world sites → CameAbout A world
begins A sites world is = ∣ record { sites = sites; events = []; answers = []; run = is } ∣₁

pub goes_on : {A : Type 0} (old : WorldState) (event : Event A) (answer : Answer) (new : WorldState)
    → Step old event answer new → CameAbout A old → CameAbout A new
goes_on old event answer new stepped came = ∥∥₁_map came (λ history. record {
  sites = history.sites;
  events = history.events ++ event ∷ [];
  answers = history.answers ++ answer ∷ [];
  run = Run-append history.events history.answers (event ∷ []) (answer ∷ [])
      (new_world history.sites) old new history.run (new, stepped, refl);
})

pub has_converged : (A : Type 0) (world : WorldState) → CameAbout A world → HasConverged A world
has_converged A world came =
    ∥∥₁_map came (λ history. (history, converges history.sites history.events history.answers world history.run))
