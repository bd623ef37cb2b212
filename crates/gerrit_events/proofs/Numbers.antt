-- The whole numbers that texts write, as std's `parse` reads them.
use Rattle.std.proofs.Common.{◌≡◌, ℕ, ℤ, Bool, true, false, ◌&&◌, List, length, Some, None, Result, Ok, Err, is_some}
use Rattle.std.proofs.Common.{refl, sym, ap, rules}
use Rattle.std.proofs.lemmas.Bool.{and_from, and_parts, false≢true, ltb-true, lt-ltb}
use Rattle.std.proofs.lemmas.Float.{T_from_true}
use Rattle.std.proofs.lemmas.Str.Parse.{IsNumeralModel, numerals_by_value, tells_all_ascii_digits}
use Rattle.std.specs.Prelude.{option_and_then, FitsSigned, int_le, nat_lt, if◌then◌else◌}
use Rattle.std.specs.Result.{result_ok}
use Rattle.std.specs.Int.{w64}
use Rattle.std.specs.Int.Signed.{◌≤ℤ◌, le_z_yes}
use Rattle.std.specs.Str.{all_ascii_digits}
use Rattle.std.specs.Str.Parse.{IsNumeral, ParsesSigned, digits_value, signed_digits_value, without_leading_sign}
use Rattle.serde_json.specs.Data.{Data, null, boolean, number, string, array, object}
use Rattle.serde_json.specs.Find.{as_str}
use Rattle.gerrit_events.specs.Values.{is_numeral, whole_in, within, digits_written}

own : IsNumeralModel (λ ds. all_ascii_digits ds ≡ true) (digits_value 10)
own = numerals_by_value (λ ds. all_ascii_digits ds ≡ true) tells_all_ascii_digits

numeral_is : (ds : List ℕ) → is_numeral ds ≡ true → IsNumeral 10 ds
numeral_is ds h = let both = and_parts (nat_lt 0 (length ds)) (all_ascii_digits ds) h in
    (ltb-true 0 (length ds) both.0, own.to ds both.1)

numeral_from : (ds : List ℕ) → IsNumeral 10 ds → is_numeral ds ≡ true
numeral_from ds h = and_from (nat_lt 0 (length ds)) (all_ascii_digits ds) (lt-ltb 0 (length ds) h.0) (own.from ds h.1)

past : (b : Bool) (z : ℤ) → (b ≡ true → ⊥) → None ≡ (if b then Some z else None)
past false z h = refl
past true z h = absurd (h refl)

fits_between : (low high z : ℤ) → FitsSigned w64 low → FitsSigned w64 high → (int_le low z && int_le z high) ≡ true
    → FitsSigned w64 z
fits_between low high z fits_low fits_high h =
    let b = and_parts (int_le low z) (int_le z high) h in
    let above : low ≤ℤ z = le_z_yes (T_from_true _ b.0) in
    let below : z ≤ℤ high = le_z_yes (T_from_true _ b.1) in
    search (rules, above, below, fits_low, fits_high)

module _ (low high : ℤ) (fits_low : FitsSigned w64 low) (fits_high : FitsSigned w64 high) where
  unread : (numeral : Bool) (z : ℤ) → (numeral ≡ true → FitsSigned w64 z → ⊥)
      → None ≡ option_and_then (within low high) (if numeral then Some z else None)
  unread false z h = refl
  unread true z h = past (int_le low z && int_le z high) z (λ t. h refl (fits_between low high z fits_low fits_high t))

  was_read : (numeral : Bool) (y z : ℤ) → numeral ≡ true → y ≡ z
      → option_and_then (within low high) (Some y) ≡ option_and_then (within low high)
      (if numeral then Some z else None)
  was_read true y z h same = ap (within low high) same
  was_read false y z h same = absurd (false≢true h)

  -- within bounds that fit 64 bits a text writes just what is parsed of it
  pub parsed_within : {E : Type 0} (text : List ℕ) (r : Result ℤ E) → ParsesSigned w64 10 text r
      → option_and_then (within low high) (result_ok r) ≡ option_and_then (within low high) (digits_written text)
  parsed_within text (Ok z) parses = was_read (is_numeral (without_leading_sign text)) z
      (signed_digits_value 10 text) (numeral_from (without_leading_sign text) parses.0.0) parses.1
  parsed_within text (Err e) parses = unread (is_numeral (without_leading_sign text)) (signed_digits_value 10 text)
      (λ t fits. parses (numeral_is (without_leading_sign text) t, fits))

pub text_is : (d : Data) (text : List ℕ) → as_str d ≡ Some text → digits_written text ≡ whole_in d
text_is (string s) text is = let same : s ≡ text = cc in ap digits_written (sym same)
text_is null text is = absurd (false≢true (ap is_some is))
text_is (boolean b) text is = absurd (false≢true (ap is_some is))
text_is (number n) text is = absurd (false≢true (ap is_some is))
text_is (array ds) text is = absurd (false≢true (ap is_some is))
text_is (object ms) text is = absurd (false≢true (ap is_some is))
