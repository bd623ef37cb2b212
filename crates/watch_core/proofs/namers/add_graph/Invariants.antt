use Rattle.std.proofs.Common.{◌≡◌, ◌<◌, ℕ, List, Some, Contains}
use Rattle.std.specs.Prelude.{slice_get}
use Rattle.state_core.specs.declared.item.Item.{Item}
use Rattle.graph_core.specs.ItemGraph.{IsAt}
use Rattle.watch_core.specs.Namers.{IsNamer, KeepsNamers}
use Rattle.watch_core.proofs.namers.add_graph.Given as goal

abbrev pub invariant-loop-place : goal.invariant-loop-place
invariant-loop-place l = record {
  keeps : KeepsNamers l.initial.namers l.namers;
  names : (place : ℕ) (item : Item) (row : List ℕ) (number : ℕ) → place < l.place → IsAt l.graph.items place item
      → slice_get l.graph.targets place ≡ Some row
      → Contains row number → IsNamer l.namers number item;
}
