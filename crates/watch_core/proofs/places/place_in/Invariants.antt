use Rattle.std.proofs.Common.{◌≡◌, Contains, take}
use Rattle.state_core.specs.declared.item.Item.{Item}
use Rattle.watch_core.proofs.places.place_in.Given as goal

abbrev pub invariant-loop-place : goal.invariant-loop-place
invariant-loop-place l = (other : Item) → Contains (take l.place l.items) other → ¬ (other ≡ l.item)
