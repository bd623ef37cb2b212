-- Which items of a graph are near a change, as flags beside its items.
use Rattle.std.specs.Prelude.{◌≡◌, ◌==◌, ℕ, Bool, true, List, Option, None, Some, length, map, replicate}
use Rattle.state_core.specs.declared.item.Item.{Item}
use Rattle.graph_core.specs.ItemGraph.{ItemGraph}
use Rattle.walk_core.specs.Reach.{AreLeading, AreReached}

abbrev pub is_of : ℕ → Item → Bool
is_of number item = item.change == number

abbrev pub AreAhead : ItemGraph → Option ℕ → List Bool → Type 0
AreAhead graph None flags = flags ≡ replicate (length graph.items) true
AreAhead graph (Some number) flags = AreReached graph.ends (map (is_of number) graph.items) flags

abbrev pub AreBehind : ItemGraph → Option ℕ → List Bool → Type 0
AreBehind graph None flags = flags ≡ replicate (length graph.items) true
AreBehind graph (Some number) flags = AreLeading graph.ends (map (is_of number) graph.items) flags
