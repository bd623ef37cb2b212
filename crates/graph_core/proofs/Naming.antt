-- The items that wait for a change, one after the other.
use Rattle.std.proofs.Common.{◌≡◌, ◌∙◌, ℕ, Bool, true, cond, List, ◌∷◌, ap}
use Rattle.state_core.specs.declared.item.Item.{Item}
use Rattle.graph_core.specs.ItemGraph.{has, namers_of}

-- the first of the items waits for the change
pub named_first : (items rest : List Item) (rows more : List (List ℕ)) (item : Item) (row : List ℕ) (number : ℕ)
    → items ≡ item ∷ rest → rows ≡ row ∷ more → has row number ≡ true
    → namers_of items rows number ≡ item ∷ namers_of rest more number
named_first items rest rows more item row number are beside waits =
    ap (λ l. namers_of l rows number) are
    ∙ ap (λ l. namers_of (item ∷ rest) l number) beside
    ∙ ap (λ b. cond b (item ∷ namers_of rest more number) (namers_of rest more number)) waits
