-- Lists of values.
use Rattle.std.proofs.Common.{◌≡◌, ℕ, ◌+◌, ◌<◌, List, [], ◌∷◌, ◌++◌, length, get_or, take, map, Option, Some, None, ap}
use Rattle.std.proofs.Common.{◌∙◌, append-nil}
use Rattle.std.proofs.lemmas.List.{take_more, map-append}
use Rattle.std.proofs.lemmas.List.Elements.{filter_map-append}
use Rattle.std.specs.List.{filter_map, cons_option}
use Rattle.json.specs.declared.value.Value.{Value}
use Rattle.serde_json.specs.Data.{Data}
use Rattle.gerrit_events.specs.Trees.{data_in}

module _ {A B : Type 0} (h : Data → Option B) (vs : List (Value A)) (i : ℕ) (d : Value A) (within : i < length vs) where
  pub filtered_at : (o : Option B) → h (data_in (get_or vs i d)) ≡ o
      → filter_map h (map data_in (take (i + 1) vs)) ≡ filter_map h (map data_in (take i vs)) ++ cons_option o []
  filtered_at o is =
      ap (λ xs. filter_map h (map data_in xs)) (take_more vs i d within)
      ∙ rw map-append (filter_map-append h (map data_in (take i vs)) (map data_in (get_or vs i d ∷ [])))
      ∙ ap (λ given. filter_map h (map data_in (take i vs)) ++ cons_option given []) is

  pub filtered_more : (b : B) → h (data_in (get_or vs i d)) ≡ Some b
      → filter_map h (map data_in (take (i + 1) vs)) ≡ filter_map h (map data_in (take i vs)) ++ b ∷ []
  filtered_more b is = filtered_at (Some b) is

  pub filtered_less : h (data_in (get_or vs i d)) ≡ None → filter_map h (map data_in (take (i + 1) vs)) ≡ filter_map h
      (map data_in (take i vs))
  filtered_less is = filtered_at None is ∙ append-nil (filter_map h (map data_in (take i vs)))
