-- The first bad key is the lesser of the first misfit and the first stranger.
use Rattle.std.proofs.Common.{◌≡◌, ℕ, List, inl, inr, Less, Equal, Greater, Ordering, IsSome, true, false, refl, sym}
use Rattle.std.proofs.Common.{ap, ◌∙◌, subst}
use Rattle.std.proofs.lemmas.Bool.{false≢true}
use Rattle.std.proofs.lemmas.Cmp.{nat_list_cmp_total}
use Rattle.std.specs.Cmp.Lexicographic.{slice_cmp}
use Rattle.std.proofs.lemmas.Map.Lookups.{exact_bytes}
use Rattle.std.specs.Ordering.{nat_cmp, is_lt, ordering_reverse}
use Rattle.serde_json.specs.Data.{Members}
use Rattle.serde_json.specs.Find.{get_member}
use Rattle.op_text.specs.declared.field.Form.{Form}
use Rattle.op_text.specs.declared.field.Kind.{Kind}
use Rattle.op_text.specs.declared.field.Field.{Field}
use Rattle.op_text.specs.Field.{key_of}
use Rattle.op_text.specs.Shape.{IsFieldKey, fits, IsBadKey, IsFirstBadKey}

module _ (form : Form) (kind : Kind) (members : Members) where
  abbrev pub FitsBelow : List ℕ → Type 0
  FitsBelow key = (field : Field) → slice_cmp nat_cmp (key_of field) key ≡ Less → fits form kind members field ≡ true

  abbrev pub KnownBelow : List ℕ → Type 0
  KnownBelow key =
      (other : List ℕ) → slice_cmp nat_cmp other key ≡ Less → IsSome (get_member other members) → IsFieldKey other

  not_bad : (key : List ℕ) → FitsBelow key → KnownBelow key → (other : List ℕ) → slice_cmp nat_cmp other key ≡ Less
      → ¬ IsBadKey form kind members other
  not_bad key fit known other less (inl h) =
      false≢true (sym h.2 ∙ fit h.0 (subst (λ k. slice_cmp nat_cmp k key ≡ Less) (sym h.1) less))
  not_bad key fit known other less (inr h) = h.0 (known other less h.1)

  pub misfit_is_first : (field : Field) → fits form kind members field ≡ false → FitsBelow (key_of field)
      → KnownBelow (key_of field) → IsFirstBadKey form kind members (key_of field)
  misfit_is_first field misfit fit known =
      record { bad = inl (field, refl, misfit); first = not_bad (key_of field) fit known }

  pub stranger_is_first : (key : List ℕ) → ¬ IsFieldKey key → IsSome (get_member key members) → FitsBelow key
      → KnownBelow key → IsFirstBadKey form kind members key
  stranger_is_first key strange found fit known = record { bad = inr (strange, found); first = not_bad key fit known }

  -- what holds below a key holds below a lesser one
  pub FitsBelow-less : (key lesser : List ℕ) → slice_cmp nat_cmp lesser key ≡ Less → FitsBelow key → FitsBelow lesser
  FitsBelow-less key lesser less fit =
      λ field below. fit field (nat_list_cmp_total.trans (key_of field) lesser key below less)

  pub KnownBelow-less : (key lesser : List ℕ) → slice_cmp nat_cmp lesser key ≡ Less → KnownBelow key → KnownBelow lesser
  KnownBelow-less key lesser less known =
      λ other below. known other (nat_list_cmp_total.trans other lesser key below less)

  pub KnownBelow-not_less : (o : Ordering) (key stranger : List ℕ) → slice_cmp nat_cmp stranger key ≡ o
      → is_lt o ≡ false → KnownBelow stranger → KnownBelow key
  KnownBelow-not_less Less key stranger is test known = absurd (false≢true (sym test))
  KnownBelow-not_less Equal key stranger is test known = subst KnownBelow (exact_bytes stranger key is) known
  KnownBelow-not_less Greater key stranger is test known =
      KnownBelow-less stranger key (nat_list_cmp_total.antisymm key stranger ∙ ap ordering_reverse is) known

pub Less-is_lt : (o : Ordering) → is_lt o ≡ true → o ≡ Less
Less-is_lt Less h = refl
Less-is_lt Equal h = absurd (false≢true h)
Less-is_lt Greater h = absurd (false≢true h)
