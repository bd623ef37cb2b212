-- The first item of a list of bases that is refused: there is one at most.
use Rattle.std.proofs.Common.{◌≡◌, inl, inr, ℕ, ◌<◌, ◌≤◌, ◌+◌, List, length, get_or, map, Option, Some, None, is_some, codes}
use Rattle.std.proofs.Common.{refl, sym, ap, ◌∙◌, subst, arith}
use Rattle.std.specs.Prelude.{IfSome, slice_get, option_map}
use Rattle.std.proofs.lemmas.Bool.{cases_order, false≢true}
use Rattle.std.proofs.lemmas.Option.{slice_get-get_or, slice_get-map, slice_get_within}
use Rattle.std.proofs.lemmas.List.{length-map}
use Rattle.footer_text.specs.Bases.{IsBase}
use Rattle.footer_text.specs.Flaws.{HasFlaw}
use Rattle.footer_text.specs.declared.flaw.BaseFlaw.{BaseFlaw}
use Rattle.serde_json.specs.Data.{Data, array, Members}
use Rattle.serde_json.specs.Find.{as_array, as_str, get_member}
use Rattle.serde_json.specs.View.{view, items_view}
use Rattle.serde_json.specs.declared.value.Value.{Value}
use Rattle.gate_rules.specs.BadItems.{IsBadItem, IsFirstRefused, IsRefusedFor, IsTaken}
use Rattle.gate_rules.specs.Reading.{list_of}
use Rattle.gate_rules.specs.declared.bad_base.BadBase.{BadBase}
use Rattle.gate_rules.specs.declared.bad_base.ItemFlaw.{ItemFlaw}
use Rattle.gate_rules.specs.declared.bad_base.ItemFlaw.TheVariants.{TooMany, NotText, NoBase}
use Rattle.gate_rules.proofs.Bases.{array_is}
use Rattle.gate_rules.proofs.Lists.{list_of-items_of}

same_text : (item : Data) (one other : List ℕ) → as_str item ≡ Some one → as_str item ≡ Some other → one ≡ other
same_text item one other p q = let e : Some one ≡ Some other = sym p ∙ q in cc

no_text : (item : Data) (text : List ℕ) → as_str item ≡ None → as_str item ≡ Some text → ⊥
no_text item text none is = false≢true (ap is_some (sym none ∙ is))

-- what footer_text says of bases
module _ (none : (text : List ℕ) (flaw : BaseFlaw) → IsBase text → ¬ HasFlaw text flaw)
    (one : (text : List ℕ) (flaw other : BaseFlaw) → HasFlaw text flaw → HasFlaw text other → flaw ≡ other) where
  taken_is_not_refused : (place : ℕ) (item : Data) (flaw : ItemFlaw) → IsTaken place item → IsRefusedFor place item flaw → ⊥
  taken_is_not_refused place item TooMany taken refused = omega (arith, taken.few, refused)
  taken_is_not_refused place item NotText taken refused = no_text item taken.text refused.1 taken.is_text
  taken_is_not_refused place item (NoBase flaw) taken refused =
      none refused.1 flaw (subst IsBase (same_text item taken.text refused.1 taken.is_text refused.2) taken.is_base) refused.3

  same_flaw : (place : ℕ) (item : Data) (a b : ItemFlaw) → IsRefusedFor place item a → IsRefusedFor place item b → a ≡ b
  same_flaw place item TooMany TooMany p q = refl
  same_flaw place item TooMany NotText p q = absurd (omega (arith, p, q.0))
  same_flaw place item TooMany (NoBase flaw) p q = absurd (omega (arith, p, q.0))
  same_flaw place item NotText TooMany p q = absurd (omega (arith, p.0, q))
  same_flaw place item NotText NotText p q = refl
  same_flaw place item NotText (NoBase flaw) p q = absurd (no_text item q.1 p.1 q.2)
  same_flaw place item (NoBase flaw) TooMany p q = absurd (omega (arith, p.0, q))
  same_flaw place item (NoBase flaw) NotText p q = absurd (no_text item p.1 q.1 p.2)
  same_flaw place item (NoBase flaw) (NoBase other) p q =
      ap NoBase (one p.1 flaw other p.3 (subst (λ text. HasFlaw text other) (same_text item q.1 p.1 q.2 p.2) q.3))

  module _ (items : List Data) where
    no_earlier : (a b : BadBase) (p : IsFirstRefused items a) (q : IsFirstRefused items b) → p.place < q.place → ⊥
    no_earlier a b p q earlier =
        taken_is_not_refused p.place p.item a.flaw (q.before p.place p.item earlier p.here) p.refused

    same_place : (a b : BadBase) (p : IsFirstRefused items a) (q : IsFirstRefused items b) → p.place ≡ q.place
    same_place a b p q = elim (cases_order p.place q.place) [
      | inl same ↦ same
      | inr other ↦ elim other [ inl less ↦ absurd (no_earlier a b p q less) | inr more ↦ absurd (no_earlier b a q p more) ]
    ]

    pub same_refused : (a b : BadBase) → IsFirstRefused items a → IsFirstRefused items b → a ≡ b
    same_refused a b p q =
        let place = same_place a b p q in
        let there : Some p.item ≡ Some q.item = sym p.here ∙ ap (slice_get items) place ∙ q.here in
        let item : p.item ≡ q.item = cc in
        let number : a.item ≡ b.item = p.counted ∙ ap (λ n. n + 1) place ∙ sym q.counted in
        let moved : IsRefusedFor p.place p.item b.flaw = subst (λ d. IsRefusedFor p.place d b.flaw) (sym item) (subst (λ n. IsRefusedFor n q.item b.flaw) (sym place) q.refused) in
        let flaw = same_flaw p.place p.item a.flaw b.flaw p.refused moved in
        λ i. record { item = number i; flaw = flaw i }

    pub none_refused : ((place : ℕ) (item : Data) → slice_get items place ≡ Some item → IsTaken place item)
        → (bad : BadBase) → ¬ IsFirstRefused items bad
    none_refused taken bad h = taken_is_not_refused h.place h.item bad.flaw (taken h.place h.item h.here) h.refused

-- what holds up to the end holds of each
pub taken_all : (values : List Value) (end : ℕ) → length values ≤ end
    → ((earlier : ℕ) (item : Data) → earlier < end → slice_get (map view values) earlier ≡ Some item → IsTaken earlier item)
    → (place : ℕ) (item : Data) → slice_get (map view values) place ≡ Some item → IsTaken place item
taken_all values end all taken place item at =
    let within : place < length values = rw length-map at (slice_get_within (map view values) place item at) in
    taken place item (omega arith) at

-- the first that is refused
pub refused_here : (values : List Value) (place : ℕ) (value : Value) (flaw : ItemFlaw) → place < length values
    → value ≡ get_or values place value → IsRefusedFor place (view value) flaw
    → ((earlier : ℕ) (item : Data) → earlier < place → slice_get (map view values) earlier ≡ Some item → IsTaken earlier item)
    → IsFirstRefused (map view values) (record { item = place + 1; flaw = flaw })
refused_here values place value flaw within is refused before = record {
  place = place;
  counted = refl;
  item = view value;
  here = slice_get-map view values place ∙ ap (option_map view) (slice_get-get_or values place value within) ∙ ap (λ v. Some (view v)) (sym is);
  refused = refused;
  before = before;
}

-- ---- the list of the members

module _ (ms : Members) where
  module _ (d : Data) (found : Some d ≡ get_member (codes "bases") ms) where
    is_array : (bad : BadBase) (h : IsBadItem ms bad) → d ≡ array h.items
    is_array bad h = let e : Some d ≡ Some (array h.items) = found ∙ h.list in cc

    module _ (values : List Value) (is : Some (items_view values) ≡ as_array d) where
      same_items : (bad : BadBase) (h : IsBadItem ms bad) → list_of h.items ≡ map view values
      same_items bad h =
          let e : Some h.items ≡ Some (items_view values) = sym (ap as_array (is_array bad h)) ∙ sym is in
          let same : h.items ≡ items_view values = cc in
          ap list_of same ∙ list_of-items_of (map view values)

      pub first_of : (bad : BadBase) → IsBadItem ms bad → IsFirstRefused (map view values) bad
      first_of bad h = subst (λ ds. IsFirstRefused ds bad) (same_items bad h) h.first

      pub bad_item : (bad : BadBase) → IsFirstRefused (map view values) bad → IsBadItem ms bad
      bad_item bad first = record {
        items = items_view values;
        list = sym found ∙ ap Some (array_is d (items_view values) (sym is));
        first = subst (λ ds. IsFirstRefused ds bad) (sym (list_of-items_of (map view values))) first;
      }

      pub bad_item_if : (found : Option BadBase) → IfSome found (IsFirstRefused (map view values)) → IfSome found (IsBadItem ms)
      bad_item_if None first = tt
      bad_item_if (Some bad) first = bad_item bad first
