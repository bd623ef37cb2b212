use Rattle.std.proofs.Common.{◌≡◌, ◌++◌, map}
use Rattle.gerrit_events.specs.declared.finding.Finding.TheVariants.{Brings}
use Rattle.event_filter.proofs.lowering.as_findings.Given as goal

-- the findings so far, with those of the bodies that are left, are all
abbrev pub invariant-loop-body : goal.invariant-loop-body
invariant-loop-body l = l.findings.items ++ map Brings l.body-iterator.rest.items ≡ map Brings l.fn.bodies.items
