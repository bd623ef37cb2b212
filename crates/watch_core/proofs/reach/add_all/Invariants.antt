use Rattle.std.proofs.Common.{Contains, take}
use Rattle.watch_core.specs.Namers.{AddsWaiting}
use Rattle.watch_core.proofs.reach.add_all.Given as goal

abbrev pub invariant-loop-item : goal.invariant-loop-item
invariant-loop-item l =
    AddsWaiting l.state (Contains (take l.item-index l.row)) l.initial.items l.initial.ahead.items l.items l.ahead.items
