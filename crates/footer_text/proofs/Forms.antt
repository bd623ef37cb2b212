-- What is between a base and a number.
use Rattle.std.proofs.Common.{◌≡◌, ℕ, ◌≢◌, Option, Some, None, List, [], ◌∷◌, ◌++◌, IfSome, IsSomeAnd, refl, sym, ap}
use Rattle.std.proofs.Common.{◌∙◌, inl, inr, append_assoc, arith}
use Rattle.std.specs.Borrow.{Bor}
use Rattle.footer_text.specs.Readings.{IsNumberAndTail, IsForm}
use Rattle.footer_text.specs.Cuts.{Lacks}
use Rattle.footer_text.specs.ReadingLaws.{number_lacks_plus, number_begins}

-- the text begins with `c/`
module _ (text project : List ℕ) (begins : text ≡ 99 ∷ 47 ∷ project) where
  pub form_with_project : (r : Option (Bor (List ℕ)))
      → IfSome r (λ number. (p : List ℕ) × (p ≢ []) × (project ≡ p ++ 47 ∷ 43 ∷ 47 ∷ number.now))
      → IfSome r (λ number. (form : List ℕ) × IsForm form × (text ≡ form ++ number.now))
  form_with_project None h = tt
  form_with_project (Some x) h =
      let p = h.0 in (
        99 ∷ 47 ∷ (p ++ 47 ∷ 43 ∷ 47 ∷ []),
        inr (inr (p, h.1, refl)),
        begins ∙ ap (λ l. 99 ∷ 47 ∷ l) (h.2 ∙ sym (append_assoc p (47 ∷ 43 ∷ 47 ∷ []) x.now)),
      )

  pub project_form : (r : Option (Bor (List ℕ)))
      → ((p number : List ℕ) → p ≢ [] → Lacks 43 number → project ≡ p ++ 47 ∷ 43 ∷ 47 ∷ number → IsSomeAnd r (λ found. found.now ≡ number))
      → (form number : List ℕ) (change : ℕ) → IsForm form → IsNumberAndTail number change → text ≡ form ++ number
      → IsSomeAnd r (λ found. found.now ≡ number)
  project_form r only form number change is_form n e =
      elim is_form [
        | inl none ↦ let digit = number_begins number change 99 (47 ∷ project) (sym (sym begins ∙ e ∙ ap (λ f. f ++ number) none)) n in absurd (omega arith)
        | inr more ↦ elim more [
          | inl hash ↦ let bad : 99 ∷ 47 ∷ project ≡ 35 ∷ 47 ∷ 99 ∷ 47 ∷ number = sym begins ∙ e ∙ ap (λ f. f ++ number) hash in absurd cc
          | inr found ↦
              let whole : 99 ∷ 47 ∷ project ≡ 99 ∷ 47 ∷ ((found.0 ++ 47 ∷ 43 ∷ 47 ∷ []) ++ number) = sym begins ∙ e ∙ ap (λ f. f ++ number) found.2 in
              let tail : project ≡ (found.0 ++ 47 ∷ 43 ∷ 47 ∷ []) ++ number = cc in
              only found.0 number found.1 (number_lacks_plus number change n)
              (tail ∙ append_assoc found.0 (47 ∷ 43 ∷ 47 ∷ []) number)
        ]
      ]
