-- Whether good bases are under their key.
use Rattle.std.proofs.Common.{◌≡◌, ◌⊎◌, inl, inr, ℕ, ◌≤◌, List, [], length, map, true, false, Option, Some, None}
use Rattle.std.proofs.Common.{is_some, unwrap_or, codes, refl, sym, ap, ◌∙◌, subst, arith}
use Rattle.std.proofs.lemmas.Bool.{false≢true}
use Rattle.std.proofs.lemmas.Option.{slice_get_within, unwrap_or-slice_get}
use Rattle.std.specs.List.{All, slice_get}
use Rattle.std.specs.Prelude.{◌↔◌, MatchOption, IsTrue}
use Rattle.footer_text.specs.Bases.{IsBase, AreBases, IsFirstBad}
use Rattle.serde_json.specs.Data.{Data, null, boolean, number, string, array, object, Items, Members}
use Rattle.serde_json.specs.Find.{get_member, as_array}
use Rattle.serde_json.specs.View.{view, items_view}
use Rattle.serde_json.specs.declared.value.Value.{Value}
use Rattle.gate_rules.specs.Reading.{HasBases, list_of, each, is_text, texts_of}
use Rattle.gate_rules.proofs.Lists.{list_of-items_of}

-- a bad text isn't among bases
all_get : {X : Type 0} (P : X → Type 0) (xs : List X) (i : ℕ) (x : X) → All P xs → slice_get xs i ≡ Some x → P x
all_get P xs i x all h =
    subst P (sym (unwrap_or-slice_get xs i x) ∙ ap (λ o. unwrap_or o x) h) (all i x (slice_get_within xs i x h))

none_here : (texts : List (List ℕ)) (place : ℕ) → AreBases texts → ¬ ((texts ≡ []) × (place ≡ 0))
none_here texts place are h = let some : 1 ≤ length {A = List ℕ} [] = subst (λ xs. 1 ≤ length xs) h.0 are.some in omega
    (arith, some)

one_here : (texts : List (List ℕ)) (place : ℕ) (text : List ℕ) → AreBases texts → slice_get texts place ≡ Some text
    → ¬ ((place ≡ 8) ⊎ ¬ (IsBase text))
one_here texts place text are is (inl h) = omega (arith, h, are.few, slice_get_within texts place text is)
one_here texts place text are is (inr h) = h (all_get IsBase texts place text are.each is)

either_here : (texts : List (List ℕ)) (place : ℕ) → AreBases texts → ¬ (((texts ≡ []) × (place ≡ 0)) ⊎ ((text : List ℕ) × (slice_get texts place ≡ Some text) × ((place ≡ 8) ⊎ ¬ (IsBase text))))
either_here texts place are (inl h) = none_here texts place are h
either_here texts place are (inr h) = one_here texts place h.0 are h.1 h.2

pub not_bases : (texts : List (List ℕ)) (place : ℕ) → IsFirstBad texts place → ¬ AreBases texts
not_bases texts place bad are = either_here texts place are bad.here

-- ---- what is under the key

pub array_is : (d : Data) (items : Items) → as_array d ≡ Some items → d ≡ array items
array_is (array ds) items is = let same : ds ≡ items = cc in ap array same
array_is null items is = absurd (false≢true (ap is_some is))
array_is (boolean b) items is = absurd (false≢true (ap is_some is))
array_is (number n) items is = absurd (false≢true (ap is_some is))
array_is (string s) items is = absurd (false≢true (ap is_some is))
array_is (object ms) items is = absurd (false≢true (ap is_some is))

module _ (ms : Members) (d : Data) (found : Some d ≡ get_member (codes "bases") ms) where
  module _ (values : List Value) (is : Some (items_view values) ≡ as_array d) where
    listed_items : (bases : List (List ℕ)) (has : HasBases ms bases) → list_of has.items ≡ map view values
    listed_items bases has =
        let same : Some (array (items_view values)) ≡ Some (array has.items) = ap Some (sym (array_is d (items_view values) (sym is))) ∙ found ∙ has.list in
        let here : items_view values ≡ has.items = cc in
        ap list_of (sym here) ∙ list_of-items_of (map view values)

    pub no_texts : each is_text (map view values) ≡ false → (bases : List (List ℕ)) → ¬ HasBases ms bases
    no_texts bad bases has = false≢true (sym bad ∙ ap (each is_text) (sym (listed_items bases has)) ∙ has.texts)

    pub no_bases : (place : ℕ) → IsFirstBad (texts_of (map view values)) place → (bases : List (List ℕ))
        → ¬ HasBases ms bases
    no_bases place bad bases has = not_bases (texts_of (map view values)) place bad
        (subst AreBases (has.same ∙ ap texts_of (listed_items bases has)) has.good)

    pub has_bases : each is_text (map view values) ≡ true → (bases : List (List ℕ)) → bases ≡ texts_of (map view values)
        → AreBases bases → HasBases ms bases
    has_bases texts bases same good = record {
      items = items_view values;
      list = sym found ∙ ap Some (array_is d (items_view values) (sym is));
      texts = ap (each is_text) (list_of-items_of (map view values)) ∙ texts;
      same = same ∙ ap texts_of (sym (list_of-items_of (map view values)));
      good = good;
    }

-- whether they were found
pub bases_told : (ms : Members) (found : Option (List (List ℕ)))
    → MatchOption found ((bases : List (List ℕ)) → ¬ HasBases ms bases) (HasBases ms)
    → IsTrue (is_some found) ↔ ((bases : List (List ℕ)) × HasBases ms bases)
bases_told ms None h = ((λ t. absurd (false≢true t)), (λ has. absurd (h has.0 has.1)))
bases_told ms (Some bases) h = ((λ t. (bases, h)), (λ has. refl))
