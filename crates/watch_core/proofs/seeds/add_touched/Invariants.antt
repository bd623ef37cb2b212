use Rattle.std.proofs.Common.{◌≡◌, true, Contains}
use Rattle.std.specs.Ordering.{nat_cmp}
use Rattle.std.specs.BTreeSet.{contains}
use Rattle.watch_core.specs.Seeds.{AddsBut}
use Rattle.watch_core.proofs.seeds.add_touched.Given as goal

abbrev pub invariant-loop-number : goal.invariant-loop-number
invariant-loop-number l =
    AddsBut l.state (λ item. contains nat_cmp l.touched item.change ≡ true)
    (λ item. Contains l.number-iterator item.change) l.initial.seeds.items l.seeds.items
