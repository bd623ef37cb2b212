-- The number that an end line's digits write, one digit after the other.
use Rattle.std.proofs.Common.{◌≡◌, ℕ, ◌+◌, ◌-◌, ◌*◌, ◌^◌, ◌<◌, ◌≤◌, true, false, List, length, take, get_or, arith}
use Rattle.std.proofs.Common.{length-take-le}
use Rattle.std.proofs.lemmas.Bool.Decides.{nat_tests}
use Rattle.std.proofs.lemmas.Int.Digits.{digits_more, digits_value_more}
use Rattle.std.proofs.lemmas.Str.Parse.{numerals_by_value, tells_digits, digits_value_short, digit_at}
use Rattle.std.specs.Char.{digit_value, is_ascii_digit}
use Rattle.std.specs.Int.{IsInRange}
use Rattle.std.specs.Str.Parse.{AllDigits, digits_value}

-- the number of the digits before one of at most 20
pub below_20 : (digits : List ℕ) (i n : ℕ) → length digits ≤ 20 → i ≤ length digits → AllDigits 10 (take i digits)
    → digits_value 10 (take i digits) ≡ n → n < 10 ^ 20
below_20 digits i n few within all is =
    let short = digits_value_short (numerals_by_value (AllDigits 10) tells_digits) (take i digits) 20 all (omega (arith, length-take-le i digits within)) in
    omega (arith, short, is)

digit_at_most : (c : ℕ) → is_ascii_digit c ≡ true → digit_value c < 10
digit_at_most c is = grind (arith, nat_tests)

digit_gives : (c : ℕ) → is_ascii_digit c ≡ true → digit_value c ≡ c - 48
digit_gives c is = grind (arith, nat_tests)

no_digit : (c : ℕ) → is_ascii_digit c ≡ false → IsInRange 48 57 c → ⊥
no_digit c is h = grind (arith, nat_tests)

pub no_numeral : (digits : List ℕ) (i : ℕ) → i < length digits → is_ascii_digit (get_or digits i 0) ≡ false
    → ¬ AllDigits 10 digits
no_numeral digits i lt is all = no_digit (get_or digits i 0) is (digit_at digits i all lt)

pub one_more_digit : (digits : List ℕ) (i n d : ℕ) → i < length digits → is_ascii_digit (get_or digits i 0) ≡ true
    → d ≡ get_or digits i 0 - 48
    → AllDigits 10 (take i digits) → digits_value 10 (take i digits) ≡ n
    → AllDigits 10 (take (i + 1) digits) × (digits_value 10 (take (i + 1) digits) ≡ n * 10 + d)
one_more_digit digits i n d lt is digit all value = (
  digits_more 10 digits i lt all (digit_at_most (get_or digits i 0) is),
  omega (arith, digits_value_more 10 digits i lt, digit_gives (get_or digits i 0) is, digit, value),
)
