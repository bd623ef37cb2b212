-- A value that begins with a base.
use Rattle.std.proofs.Common.{◌≡◌, ℕ, Option, Some, None, List, ◌++◌, IfSome, IsSomeAnd, MatchOption, sym, ap, ◌∙◌}
use Rattle.std.proofs.Common.{subst}
use Rattle.std.specs.Borrow.{Bor}
use Rattle.std.proofs.lemmas.List.{append_cancel_left}
use Rattle.footer_text.specs.Readings.{IsNumberAndTail, IsForm, ReadsAs}
use Rattle.footer_text.proofs.Numbers.{answers_same}

-- what the form's reader says of a text
pub record KnowsForm (text : List ℕ) (r : Option (Bor (List ℕ))) : Type 0 where
  pub form : IfSome r (λ number. (form : List ℕ) × IsForm form × (text ≡ form ++ number.now))
  pub only : (form number : List ℕ) (change : ℕ) → IsForm form → IsNumberAndTail number change → text ≡ form ++ number
      → IsSomeAnd r (λ found. found.now ≡ number)

module _ (base value text : List ℕ) (begins : value ≡ base ++ text) where
  after_base : (change : ℕ) (n : ReadsAs base value change) → text ≡ n.form ++ n.number
  after_base change n = append_cancel_left base text (n.form ++ n.number) (sym begins ∙ n.whole)

  pub no_form : KnowsForm text None → (change : ℕ) → ¬ (ReadsAs base value change)
  no_form k change n = k.only n.form n.number change n.is_form n.is_number (after_base change n)

  pub form_and_number : (number : Bor (List ℕ)) (r : Option ℕ) → KnowsForm text (Some number)
      → MatchOption r ((change : ℕ) → ¬ (IsNumberAndTail number.now change)) (IsNumberAndTail number.now)
      → MatchOption r ((change : ℕ) → ¬ (ReadsAs base value change)) (ReadsAs base value)
  form_and_number number r k h =
      answers_same (IsNumberAndTail number.now) (ReadsAs base value) r
      (λ change n. record { form = k.form.0; number = number.now; whole = begins ∙ ap (λ l. base ++ l) k.form.2; is_form = k.form.1; is_number = n })
      (λ change n. subst (λ t. IsNumberAndTail t change) (sym (k.only n.form n.number change n.is_form n.is_number (after_base change n))) n.is_number)
      h
