-- What is judged again of a journal once operations have come after those that were seen.
use Rattle.std.specs.Prelude.{◌≡◌, ℕ, List, drop}
use Rattle.std.specs.Ordering.{nat_cmp}
use Rattle.std.specs.BTreeSet.{contains}
use Rattle.review_ops.specs.Operation.{Operation}
use Rattle.gate_rules.specs.Rules.{GateRules}
use Rattle.state_core.specs.State.{state_of}
use Rattle.graph_core.specs.ItemGraph.{IsGraphOf}
use Rattle.watch_core.specs.declared.again.Again.{Again}
use Rattle.watch_core.specs.BroughtUp.{HoldsItems}
use Rattle.watch_core.specs.Namers.{Namers, HoldNamers, is_reached}
use Rattle.watch_core.specs.Touched.{touches}

-- the changes are those with a new operation, and the graph is of the journal's state and holds all items that are
-- judged again
pub record IsAgain (gate : GateRules) (journal : List Operation) (seen : ℕ) (again : Again) : Type 0 where
  pub touched : (number : ℕ) → contains nat_cmp again.touched number ≡ touches (drop seen journal) number
  pub graph : IsGraphOf gate (state_of journal) again.graph
  pub holds : HoldsItems (state_of journal)
      (is_reached (drop seen journal) again.reach.all again.reach.items) again.graph.items

-- what waits for an item that is judged again is judged again, too
abbrev pub HasWaiting : List Operation → ℕ → Namers → Again → Type 0
HasWaiting journal seen namers again = HoldNamers (state_of journal) namers (drop seen journal)
    (is_reached (drop seen journal) again.reach.all again.reach.items)
