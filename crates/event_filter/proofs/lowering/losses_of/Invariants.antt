use Rattle.std.proofs.Common.{◌≡◌, take}
use Rattle.std.specs.Prelude.{filter}
use Rattle.event_filter.specs.Lowering.{is_loss}
use Rattle.event_filter.proofs.lowering.losses_of.Given as goal

-- those of the findings so far
abbrev pub invariant-loop-finding : goal.invariant-loop-finding
invariant-loop-finding l = l.losses.items ≡ filter is_loss (take l.finding-index l.findings)
