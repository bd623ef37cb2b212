-- Which items wait for a change directly: those whose refusal names it.
use Rattle.std.specs.Prelude.{◌≡◌, ℕ, Bool, false, ◌==◌, List, [], ◌∷◌, ◌++◌, codes, filter, flat_map, map}
use Rattle.json.specs.Print.{print}
use Rattle.json.specs.Token.{Token, begin_array, end_array, end_object, key, string}
use Rattle.state_core.specs.declared.item.Item.{Item}
use Rattle.ready_core.specs.declared.verdicts.Left.{Left}
use Rattle.ready_core.specs.declared.verdicts.Refusal.{Refusal}
use Rattle.ready_core.specs.declared.verdicts.Refusal.TheVariants.{Unknown, Dependency}
use Rattle.report_text.specs.Report.{item_text}

-- the refusal is that a change is unknown, or is left out, too; and the change is this one
abbrev pub names_change : ℕ → Refusal → Bool
names_change change (Unknown number) = number == change
names_change change (Dependency number) = number == change
names_change change _ = false

-- the items that are left out for the change, in item order as all that are
abbrev pub waiting_for : ℕ → List Left → List Item
waiting_for change out = map (λ left. left.item) (filter (λ left. names_change change left.refusal) out)

-- "waiting":["101,2","103,1"]
abbrev pub waiting_tokens : List Item → List Token
waiting_tokens items =
    key (codes "waiting") ∷ begin_array ∷ [] ++ flat_map (λ item. string (item_text item) ∷ []) items
    ++ end_array ∷ []

-- the text of an object whose last member is the list of these items
pub record EndsInWaiting (items : List Item) (text : List ℕ) : Type 0 where
  pub before : List ℕ
  pub members : List Token
  pub is : text ≡ before ++ print (members ++ (waiting_tokens items ++ end_object ∷ []))
