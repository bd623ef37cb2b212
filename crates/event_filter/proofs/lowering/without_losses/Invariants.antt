use Rattle.std.proofs.Common.{◌≡◌, ◌++◌, not}
use Rattle.std.specs.Prelude.{filter}
use Rattle.event_filter.specs.Lowering.{is_loss}
use Rattle.event_filter.proofs.lowering.without_losses.Given as goal

-- what is kept so far, with what is kept of the findings that are left, is all
abbrev pub invariant-loop-finding : goal.invariant-loop-finding
invariant-loop-finding l =
    l.kept.items ++ filter (λ finding. not (is_loss finding)) l.finding-iterator.rest.items
    ≡ filter (λ finding. not (is_loss finding)) l.fn.findings.items
