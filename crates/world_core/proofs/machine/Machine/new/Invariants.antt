use Rattle.std.proofs.Common.{◌≡◌}
use Rattle.std.specs.Prelude.{replicate}
use Rattle.world_core.specs.World.{new_site}
use Rattle.world_core.proofs.machine.Machine.new.Given as goal

-- so many sites are there
abbrev pub invariant-loop : goal.invariant-loop
invariant-loop g l = l.all.items ≡ replicate l.counter new_site
