-- A number that is read fits 8 bits.
use Rattle.std.proofs.Common.{◌≡◌, ℤ, Bool, true, false, ◌&&◌, Option, Some, None, is_some, refl, ap, subst, rules, pos}
use Rattle.std.proofs.Common.{negsuc}
use Rattle.std.proofs.lemmas.Bool.{false≢true}
use Rattle.std.proofs.lemmas.Float.{T_from_true}
use Rattle.std.specs.Prelude.{option_and_then, FitsSigned, int_le, if◌then◌else◌}
use Rattle.std.specs.Int.{w8}
use Rattle.std.specs.Int.Signed.{◌≤ℤ◌, le_z_yes}
use Rattle.serde_json.specs.Data.{Data}
use Rattle.serde_json.specs.Find.{as_number, as_i64}
use Rattle.gate_rules.specs.Reading.{in_range, vote_in}

both : (a b : Bool) → (a && b) ≡ true → (a ≡ true) × (b ≡ true)
both true b h = (refl, h)
both false b h = absurd (false≢true h)

kept_fits : (b : Bool) (z v : ℤ) → (b ≡ true → FitsSigned w8 z) → (if b then Some z else None) ≡ Some v
    → FitsSigned w8 v
kept_fits false z v fits is = absurd (false≢true (ap is_some is))
kept_fits true z v fits is = let same : z ≡ v = cc in subst (FitsSigned w8) same (fits refl)

range_fits : (z : ℤ) → (int_le (negsuc 127) z && int_le z (pos 127)) ≡ true → FitsSigned w8 z
range_fits z h =
    let b = both (int_le (negsuc 127) z) (int_le z (pos 127)) h in
    let low : negsuc 127 ≤ℤ z = le_z_yes (T_from_true _ b.0) in
    let high : z ≤ℤ pos 127 = le_z_yes (T_from_true _ b.1) in
    search (rules, low, high)

number_fits : (o : Option ℤ) (v : ℤ) → option_and_then in_range o ≡ Some v → FitsSigned w8 v
number_fits None v is = absurd (false≢true (ap is_some is))
number_fits (Some z) v is = kept_fits (int_le (negsuc 127) z && int_le z (pos 127)) z v (range_fits z) is

pub vote_fits : (d : Data) (v : ℤ) → vote_in d ≡ Some v → FitsSigned w8 v
vote_fits d v is = number_fits (option_and_then as_i64 (as_number d)) v is
