-- What `parse` says of 1 to 10 digits.
use Rattle.std.proofs.Common.{◌≡◌, ℕ, ◌<◌, ◌≤◌, ◌^◌, ◌≢◌, true, List, length, get_or, Result, Ok, Err, MatchOption, sym}
use Rattle.std.proofs.Common.{arith}
use Rattle.std.specs.Result.{result_ok}
use Rattle.std.specs.Str.{all_ascii_digits}
use Rattle.std.specs.Str.Parse.{digits_value, ParsesUnsigned}
use Rattle.std.specs.Result.{OkIff}
use Rattle.std.proofs.lemmas.Str.Parse.{IsNumeralModel, numerals_by_value, tells_all_ascii_digits, parse_plain}
use Rattle.std.proofs.lemmas.Str.Parse.{digits_value_short}
use Rattle.footer_text.specs.Readings.{IsNumeral}

pub own : IsNumeralModel (λ ds. all_ascii_digits ds ≡ true) (digits_value 10)
own = numerals_by_value _ tells_all_ascii_digits

-- ten digits fit 64 bits
fits : (bs : List ℕ) → IsNumeral bs → digits_value 10 bs < 2 ^ 64
fits bs n =
    let small = digits_value_short own bs 10 n.all n.few in
    omega arith

pub numeral_from_parse : {E : Type 0} (bs : List ℕ) (r : Result ℕ E) → ParsesUnsigned 64 10 bs r → get_or bs 0 0 ≢ 43
    → length bs ≤ 10
    → MatchOption (result_ok r) (¬ (IsNumeral bs)) (λ n. IsNumeral bs × (digits_value 10 bs ≡ n))
numeral_from_parse {E} bs r h plain few = by_cases r (parse_plain own 64 bs r h plain) where
  by_cases : (r : Result ℕ E)
      → OkIff r ((all_ascii_digits bs ≡ true) × (0 < length bs) × (digits_value 10 bs < 2 ^ 64)) (digits_value 10 bs)
      → MatchOption (result_ok r) (¬ (IsNumeral bs)) (λ n. IsNumeral bs × (digits_value 10 bs ≡ n))
  by_cases (Ok x) k = (record { some = k.0.1; few = few; all = k.0.0 }, sym k.1)
  by_cases (Err e) k = λ n. k (n.all, n.some, fits bs n)
