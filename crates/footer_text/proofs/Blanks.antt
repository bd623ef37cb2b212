-- Blanks round a text.
use Rattle.std.proofs.Common.{◌≡◌, ◌≢◌, ℕ, Option, Some, None, List, [], ◌∷◌, ◌++◌, MatchOption, refl, sym, ap, ◌∙◌}
use Rattle.std.proofs.Common.{inl, inr, append_assoc}
use Rattle.std.specs.Borrow.{Bor}
use Rattle.std.specs.List.{AllByRecursion}
use Rattle.footer_text.specs.Lines.{IsBlank}

-- after a space and a tab were looked for in vain, a carriage return is the last blank; place says where it is looked
-- for
pub last_blank : (place : ℕ → List ℕ → List ℕ) (text : List ℕ) (r : Option (Bor (List ℕ)))
    → ((rest : List ℕ) → text ≢ place 32 rest) → ((rest : List ℕ) → text ≢ place 9 rest)
    → MatchOption r ((rest : List ℕ) → text ≢ place 13 rest) (λ x. text ≡ place 13 x.now)
    → MatchOption r ((b : ℕ) (rest : List ℕ) → text ≡ place b rest → ¬ (IsBlank b))
    (λ x. (b : ℕ) × IsBlank b × (text ≡ place b x.now))
last_blank place text None space tab h = λ b rest e blank.
    elim blank [
      | inl is ↦ space rest (e ∙ ap (λ x. place x rest) is)
      | inr more ↦ elim more [ inl is ↦ tab rest (e ∙ ap (λ x. place x rest) is) | inr is ↦ h rest (e ∙ ap (λ x. place x rest) is) ]
    ]
last_blank place text (Some x) space tab h = (13, inr (inr refl), h)

pub blanks_more : (blanks : List ℕ) (b : ℕ) → AllByRecursion IsBlank blanks → IsBlank b
    → AllByRecursion IsBlank (blanks ++ b ∷ [])
blanks_more [] b p q = (q, tt)
blanks_more (x ∷ xs) b p q = (p.0, blanks_more xs b p.1 q)

-- one blank more at the front
module _ (text rest now : List ℕ) (b : ℕ) (blank : IsBlank b) where
  pub front_more : ((before : List ℕ) × AllByRecursion IsBlank before × (text ≡ before ++ rest)) → rest ≡ b ∷ now
      → (before : List ℕ) × AllByRecursion IsBlank before × (text ≡ before ++ now)
  front_more seen e =
      (seen.0 ++ b ∷ [], blanks_more seen.0 b seen.1 blank, seen.2 ∙ ap (λ l. seen.0 ++ l) e ∙ sym (append_assoc seen.0 (b ∷ []) now))
