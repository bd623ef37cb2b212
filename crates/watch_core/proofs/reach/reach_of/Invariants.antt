use Rattle.watch_core.specs.Namers.{IsSpreading}
use Rattle.watch_core.proofs.reach.reach_of.Given as goal

abbrev pub invariant-loop : goal.invariant-loop
invariant-loop l = IsSpreading l.state l.namers l.fn.later l.items l.ahead.items
