-- What is read of numbers and places: a text that isn't read as one names none.
use Rattle.std.proofs.Common.{◌≡◌, ◌≢◌, ◌<◌, ◌^◌, ◌∷◌, [], ℕ, true, List, Result, Ok, sym, ◌∙◌, refl, arith, lit<, inl, inr}
use Rattle.std.specs.Fmt.{decimal}
use Rattle.std.specs.Str.{bytes_eq}
use Rattle.std.specs.Str.Parse.{ParsesUnsigned}
use Rattle.std.proofs.lemmas.Fmt.{parse-decimal, decimal_injective}
use Rattle.page_routes.specs.Numbers.{IsDecimal}
use Rattle.page_routes.specs.Form.{form_text, form_value}
use Rattle.page_routes.specs.Choices.{IsPageNumber}

pub is_read : {E : Type 0} (text : List ℕ) (read : Result ℕ E) (number : ℕ)
    → ParsesUnsigned 32 10 text read → IsDecimal text number → read ≡ Ok number
is_read text read number parses is =
    let small : number < 2 ^ 64 = omega (arith, is.0) in
    parse-decimal 32 number text read is.0 small is.1 parses

-- 0 is no page
pub no_page : (text : List ℕ) → text ≢ [] → text ≡ decimal 0 → (page : ℕ) → ¬ IsPageNumber text page
no_page text some zero page is = elim is [
  | inl number ↦
      let small : page < 2 ^ 64 = omega (arith, number.0) in
      let same : 0 ≡ page = decimal_injective 0 page (lit< tt) small (sym zero ∙ number.0.1) in
      omega (arith, same, number.1)
  | inr none ↦ absurd (some none.0)
]

-- the first pair has the name
pub first_found : (name key value : List ℕ) (pairs rest : List (List ℕ × List ℕ)) → pairs ≡ (key, value) ∷ rest
    → bytes_eq (form_text key) name ≡ true → form_value name pairs ≡ form_text value
first_found name key value pairs rest are same = rw (are, same) refl
