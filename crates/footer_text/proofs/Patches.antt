-- What may follow a change's number.
use Rattle.std.proofs.Common.{◌≡◌, ℕ, Option, Some, None, List, [], ◌∷◌, ◌++◌, true, MatchOption, refl, sym, ◌∙◌, subst}
use Rattle.std.proofs.Common.{inl, inr, lit<}
use Rattle.std.specs.Option.{is_some}
use Rattle.std.specs.Str.Parse.{digits_value}
use Rattle.footer_text.specs.Readings.{IsNumeral, IsPatch}
use Rattle.footer_text.specs.Cuts.{same_front, digits_lack, Lacks-middle}

-- a list with an element isn't empty
pub not_empty : {X : Type 0} (xs : List X) (x : X) (ys : List X) → [] ≡ xs ++ x ∷ ys → ⊥
not_empty [] x ys e = cc
not_empty (y ∷ xs) x ys e = cc

module _ (patch digits : List ℕ) (slash : patch ≡ digits ++ 47 ∷ []) where
  only_digits : IsPatch patch → IsNumeral digits
  only_digits p =
      elim p [
        | inl empty ↦ absurd (not_empty digits 47 [] (sym empty ∙ slash))
        | inr more ↦ elim more [
          | inl numeral ↦ absurd (Lacks-middle 47 digits [] (rw slash at (digits_lack 47 patch (lit< tt) numeral.all)))
          | inr found ↦ subst IsNumeral (same_front 47 found.0 digits (sym found.2 ∙ slash)) found.1
        ]
      ]

  pub patch_before_slash : (r : Option ℕ)
      → MatchOption r (¬ (IsNumeral digits)) (λ n. IsNumeral digits × (digits_value 10 digits ≡ n))
      → (is_some r ≡ true → IsPatch patch) × (IsPatch patch → is_some r ≡ true)
  patch_before_slash (Some n) k = (λ _. inr (inr (digits, k.0, slash)), λ _. refl)
  patch_before_slash None k = (λ e. cc, λ p. absurd (k (only_digits p)))
