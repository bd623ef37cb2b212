-- Tags that are named in the values of a field.
use Rattle.std.proofs.Common.{◌≡◌, ◌↔◌, ◌∙◌, false, eqb, ap, ◌<◌, ◌+◌, ◌≤◌, ℕ, List, ◌∷◌, length, arith, inl, inr, subst, sym}
use Rattle.std.specs.Cmp.Lexicographic.{pointwise}
use Rattle.std.specs.Prelude.{codes}
use Rattle.std.proofs.lemmas.Bool.{false≢true}
use Rattle.http_header.specs.FieldValue.{FieldValue}
use Rattle.memchr.specs.Find.{Nowhere, OccursAt}
use Rattle.page_server.specs.Tags.{IsNamedBy, IsNamedIn}

-- where the tag stands nowhere and the value isn't `*`, it isn't named
pub not_named : (tag value : List ℕ) → ¬ (value ≡ codes "*") → Nowhere (OccursAt value tag) 0 (length value + 1)
    → ¬ IsNamedIn tag value
not_named tag value other nowhere named = elim named [
  | inl star ↦ other star
  | inr at ↦ nowhere at.0 (omega arith) (inside at.0 at.1) at.1
] where
  inside : (place : ℕ) → OccursAt value tag place → place < length value + 1
  inside place occurs = let e : place + length tag ≤ length value = occurs.fits in omega (arith, e)

-- a value that differs from `*` isn't that
pub other_than_star : (value star : List ℕ) → star ≡ codes "*" → false ≡ pointwise eqb value star → ¬ (value ≡ codes "*")
other_than_star value star is differs e =
    false≢true (differs ∙ ap (λ v. pointwise eqb v star) e ∙ ap (pointwise eqb (codes "*")) is)

-- a value that is left names the tag
pub named_first : (tag : List ℕ) (left rest all : List FieldValue) (value : FieldValue) → left ≡ value ∷ rest
    → IsNamedIn tag value.bytes → (IsNamedBy tag left ↔ IsNamedBy tag all) → IsNamedBy tag all
named_first tag left rest all value starts named same = same.0 (subst (IsNamedBy tag) (sym starts) (inl named))

-- a value that doesn't is passed over
pub named_later : (tag : List ℕ) (left rest all : List FieldValue) (value : FieldValue) → left ≡ value ∷ rest
    → ¬ IsNamedIn tag value.bytes → (IsNamedBy tag left ↔ IsNamedBy tag all)
    → (IsNamedBy tag rest ↔ IsNamedBy tag all)
named_later tag left rest all value starts other same = (
  λ later. same.0 (subst (IsNamedBy tag) (sym starts) (inr later)),
  λ named. elim (subst (IsNamedBy tag) starts (same.1 named)) [ inl first ↦ absurd (other first) | inr later ↦ later ],
)
