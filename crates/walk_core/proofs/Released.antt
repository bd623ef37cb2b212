-- Nodes that wait again.
use Rattle.std.proofs.Common.{◌≡◌, ◌≢◌, ◌⊎◌, inl, inr, ◌+◌, ◌<◌, ◌∷◌, [], ℕ, List, sym, ◌∙◌, subst, length, set, take}
use Rattle.std.proofs.Common.{get_or}
use Rattle.std.specs.List.{Contains}
use Rattle.std.proofs.lemmas.List.{length-set, take_more}
use Rattle.std.proofs.lemmas.List.Elements.{Contains-push, Contains-append_left, Contains-push_cases}
use Rattle.walk_core.specs.Components.{place_of, IsReleased, AreReleased}
use Rattle.walk_core.specs.declared.component.Place.{Place}
use Rattle.walk_core.specs.declared.component.Place.TheVariants.{Waiting, Behind}
use Rattle.walk_core.proofs.Places.{place_set}

module _ (nodes : List ℕ) (k : ℕ) (within : k < length nodes) where
  Contains-take_more : (x : ℕ) → Contains (take (k + 1) nodes) x → Contains (take k nodes) x ⊎ (get_or nodes k 0 ≡ x)
  Contains-take_more x here = Contains-push_cases (take k nodes) (get_or nodes k 0) x
      (subst (λ xs. Contains xs x) (take_more nodes k 0 within) here)

  listed_still : (x : ℕ) → Contains (take k nodes) x → Contains (take (k + 1) nodes) x
  listed_still x here = subst (λ xs. Contains xs x) (sym (take_more nodes k 0 within))
      (Contains-append_left (take k nodes) (get_or nodes k 0 ∷ []) x here)

  listed_now : Contains (take (k + 1) nodes) (get_or nodes k 0)
  listed_now = subst (λ xs. Contains xs (get_or nodes k 0)) (sym (take_more nodes k 0 within))
      (Contains-push (take k nodes) (get_or nodes k 0))

module _ (nodes : List ℕ) (k : ℕ) (within : k < length nodes) (start before : List Place)
    (released : AreReleased (take k nodes) start before) where
  -- a node that isn't behind is left alone
  other_each : (x : ℕ) → (place_of before x ≡ place_of start x) ⊎ IsReleased (take (k + 1) nodes) start before x
  other_each x = elim (released.each x) [
    | inl same ↦ inl same
    | inr freed ↦ inr (record { listed = listed_still nodes k within x freed.listed; was = freed.was; is = freed.is })
  ]

  pub released_other : place_of before (get_or nodes k 0) ≢ Behind → AreReleased (take (k + 1) nodes) start before
  released_other other = record {
    size = released.size;
    each = other_each;
    all = λ x here. elim (Contains-take_more nodes k within x here) [
      | inl earlier ↦ released.all x earlier
      | inr same ↦ subst (λ y. place_of before y ≢ Behind) same other
    ];
  }

  -- one that is behind waits again
  module _ (here : get_or nodes k 0 < length before) (behind : place_of before (get_or nodes k 0) ≡ Behind) where
    was_behind : place_of start (get_or nodes k 0) ≡ Behind
    was_behind = elim (released.each (get_or nodes k 0)) [
      | inl same ↦ sym same ∙ behind
      | inr freed ↦ freed.was
    ]

    freed_each : (x : ℕ) → (place_of (set before (get_or nodes k 0) Waiting) x ≡ place_of start x)
        ⊎ IsReleased (take (k + 1) nodes) start (set before (get_or nodes k 0) Waiting) x
    freed_each x = elim (place_set before (get_or nodes k 0) Waiting here x) [
      | inl at ↦ inr (record {
        listed = subst (λ y. Contains (take (k + 1) nodes) y) (sym at.0) (listed_now nodes k within);
        was = subst (λ y. place_of start y ≡ Behind) (sym at.0) was_behind;
        is = at.1;
      })
      | inr other ↦ elim (released.each x) [
        | inl same ↦ inl (other.1 ∙ same)
        | inr freed ↦ inr
            (record { listed = listed_still nodes k within x freed.listed; was = freed.was; is = other.1 ∙ freed.is })
      ]
    ]

    freed_all : (x : ℕ) → Contains (take (k + 1) nodes) x → place_of (set before (get_or nodes k 0) Waiting) x ≢ Behind
    freed_all x listed is = elim (place_set before (get_or nodes k 0) Waiting here x) [
      | inl at ↦ let no_place : Waiting ≡ Behind = sym at.1 ∙ is in cc
      | inr other ↦ elim (Contains-take_more nodes k within x listed) [
        | inl earlier ↦ released.all x earlier (sym other.1 ∙ is)
        | inr same ↦ other.0 (sym same)
      ]
    ]

    pub released_more : AreReleased (take (k + 1) nodes) start (set before (get_or nodes k 0) Waiting)
    released_more = record {
      size = length-set before (get_or nodes k 0) Waiting ∙ released.size;
      each = freed_each;
      all = freed_all;
    }
