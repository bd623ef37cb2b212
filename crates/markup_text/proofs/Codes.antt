-- The digits of a code.
use Rattle.std.proofs.Common.{◌≡◌, ◌∙◌, ℕ, ◌<◌, ◌≤◌, ◌/◌, ◌%◌, suc, zero, List, [], ◌∷◌, ◌++◌, Bool, true, false}
use Rattle.std.proofs.Common.{flat_map, refl, ap, arith}
use Rattle.std.specs.Prelude.{◌==◌, ◌⊎◌, if◌then◌else◌}
use Rattle.std.specs.Fmt.{digit_glyph, digits, digits_onto}
use Rattle.std.specs.List.{list_any}
use Rattle.std.proofs.lemmas.Bool.{or_from}
use Rattle.std.proofs.lemmas.Bool.Decides.{nat_tests}
use Rattle.std.proofs.lemmas.Str.{encode_ascii}
use Rattle.markup_text.specs.Html.{escaped}
use Rattle.markup_text.specs.Shown.{is_hidden}

-- a digit from 0 to F
pub record IsDigit (x : ℕ) : Type 0 where
  pub least : 48 ≤ x
  pub apart : (x < 58) ⊎ (65 ≤ x)
  pub greatest : x < 71

glyph_is : (d : ℕ) → d < 16 → IsDigit (digit_glyph true d)
glyph_is d small =
    record { least = grind (arith, nat_tests); apart = grind (arith, nat_tests); greatest = grind (arith, nat_tests) }

pub plain : (x : ℕ) → IsDigit x → escaped x ≡ x ∷ []
plain x is = grind (arith, nat_tests, encode_ascii)

pub seen : (x : ℕ) → IsDigit x → is_hidden x ≡ false
seen x is = grind (arith, nat_tests)

-- a test that no digit passes, none of these passes
digits_onto_fail : (test : ℕ → Bool) → ((x : ℕ) → IsDigit x → test x ≡ false) → (k n : ℕ) (rest : List ℕ)
    → list_any test rest ≡ false → list_any test (digits_onto k 16 true n rest) ≡ false
digits_onto_fail test fails zero n rest h = h
digits_onto_fail test fails (suc k) n rest h =
    let more = or_from (test (digit_glyph true (n % 16))) (list_any test rest) (fails _ (glyph_is (n % 16) (omega arith))) h in
    elim (n / 16 == 0) as (λ b. list_any test (if b then digit_glyph true (n % 16) ∷ rest else digits_onto k 16 true (n / 16) (digit_glyph true (n % 16) ∷ rest)) ≡ false) [
      | true ↦ more
      | false ↦ digits_onto_fail test fails k (n / 16) (digit_glyph true (n % 16) ∷ rest) more
    ]

-- digits stand in HTML as they are
digits_onto_plain : (k n : ℕ) (rest : List ℕ) → flat_map escaped rest ≡ rest
    → flat_map escaped (digits_onto k 16 true n rest) ≡ digits_onto k 16 true n rest
digits_onto_plain zero n rest h = h
digits_onto_plain (suc k) n rest h =
    let glyph = digit_glyph true (n % 16) in
    let more : flat_map escaped (glyph ∷ rest) ≡ glyph ∷ rest
    = ap (λ l. l ++ flat_map escaped rest) (plain glyph (glyph_is (n % 16) (omega arith))) ∙ ap (λ l. glyph ∷ l) h in
    elim (n / 16 == 0) as (λ b. flat_map escaped (if b then glyph ∷ rest else digits_onto k 16 true (n / 16) (glyph ∷ rest)) ≡ (if b then glyph ∷ rest else digits_onto k 16 true (n / 16) (glyph ∷ rest))) [
      | true ↦ more
      | false ↦ digits_onto_plain k (n / 16) (glyph ∷ rest) more
    ]

pub digits_fail : (test : ℕ → Bool) → ((x : ℕ) → IsDigit x → test x ≡ false) → (n : ℕ)
    → list_any test (digits 16 true n) ≡ false
unfolding digits
digits_fail test fails n = digits_onto_fail test fails 64 n [] refl

pub digits_plain : (n : ℕ) → flat_map escaped (digits 16 true n) ≡ digits 16 true n
unfolding digits
digits_plain n = digits_onto_plain 64 n [] refl
