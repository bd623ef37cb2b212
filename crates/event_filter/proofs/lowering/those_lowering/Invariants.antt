use Rattle.std.proofs.Common.{◌≡◌, take}
use Rattle.std.specs.Prelude.{filter}
use Rattle.event_filter.specs.Lowering.{lowers}
use Rattle.event_filter.proofs.lowering.those_lowering.Given as goal

-- those of the bodies so far
abbrev pub invariant-loop-body : goal.invariant-loop-body
invariant-loop-body l = l.found.items ≡ filter (lowers l.state) (take l.body-index l.bodies)
