use Rattle.std.proofs.Common.{◌≡◌, true, Contains}
use Rattle.watch_core.specs.Namers.{has_item}
use Rattle.watch_core.specs.Seeds.{AddsBut}
use Rattle.watch_core.proofs.seeds.add_reached.Given as goal

abbrev pub invariant-loop-change : goal.invariant-loop-change
invariant-loop-change l =
    AddsBut l.state (λ item. has_item l.items item ≡ true)
    (λ item. Contains l.change-iterator (item.change, item.set)) l.initial.seeds.items l.seeds.items
