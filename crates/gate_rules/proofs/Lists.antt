-- Walks over lists of values, and over members.
use Rattle.std.proofs.Common.{◌≡◌, ℕ, ◌+◌, ◌<◌, List, [], ◌∷◌, ◌++◌, length, get_or, take, map, Option, Some, None}
use Rattle.std.proofs.Common.{is_some, refl, sym, ap, ◌∙◌, append-nil}
use Rattle.std.proofs.lemmas.Bool.{false≢true}
use Rattle.std.proofs.lemmas.List.{take_more, map-append}
use Rattle.std.proofs.lemmas.List.Elements.{filter_map-append}
use Rattle.std.specs.List.{filter_map, cons_option}
use Rattle.serde_json.specs.Data.{Data, null, boolean, number, string, array, object}
use Rattle.serde_json.specs.Find.{as_array}
use Rattle.serde_json.specs.View.{view, items_of, items_view}
use Rattle.serde_json.specs.declared.value.Value.{Value}
use Rattle.gate_rules.specs.Reading.{list_of, listed}

pub list_of-items_of : (ds : List Data) → list_of (items_of ds) ≡ ds
list_of-items_of [] = refl
list_of-items_of (d ∷ ds) = ap (λ rest. d ∷ rest) (list_of-items_of ds)

-- a list means its items, and any other value for itself
pub listed_array : (d : Data) (values : List Value) → as_array d ≡ Some (items_view values) → map view values ≡ listed d
listed_array (array ds) values is = let same : ds ≡ items_view values = cc in sym
    (ap list_of same ∙ list_of-items_of (map view values))
listed_array null values is = absurd (false≢true (ap is_some is))
listed_array (boolean b) values is = absurd (false≢true (ap is_some is))
listed_array (number n) values is = absurd (false≢true (ap is_some is))
listed_array (string s) values is = absurd (false≢true (ap is_some is))
listed_array (object ms) values is = absurd (false≢true (ap is_some is))

pub listed_other : (d : Data) → as_array d ≡ None → d ∷ [] ≡ listed d
listed_other (array ds) is = absurd (false≢true (sym (ap is_some is)))
listed_other null is = refl
listed_other (boolean b) is = refl
listed_other (number n) is = refl
listed_other (string s) is = refl
listed_other (object ms) is = refl

-- ---- what a function gives of values

module _ {B : Type 0} (h : Data → Option B) (vs : List Value) (i : ℕ) (d : Value) (within : i < length vs) where
  filtered_at : (o : Option B) → h (view (get_or vs i d)) ≡ o
      → filter_map h (map view (take (i + 1) vs)) ≡ filter_map h (map view (take i vs)) ++ cons_option o []
  filtered_at o is =
      ap (λ xs. filter_map h (map view xs)) (take_more vs i d within)
      ∙ rw map-append (filter_map-append h (map view (take i vs)) (map view (get_or vs i d ∷ [])))
      ∙ ap (λ given. filter_map h (map view (take i vs)) ++ cons_option given []) is

  pub filtered_more : (b : B) → h (view (get_or vs i d)) ≡ Some b
      → filter_map h (map view (take (i + 1) vs)) ≡ filter_map h (map view (take i vs)) ++ b ∷ []
  filtered_more b is = filtered_at (Some b) is

  pub filtered_less : h (view (get_or vs i d)) ≡ None
      → filter_map h (map view (take (i + 1) vs)) ≡ filter_map h (map view (take i vs))
  filtered_less is = filtered_at None is ∙ append-nil (filter_map h (map view (take i vs)))
