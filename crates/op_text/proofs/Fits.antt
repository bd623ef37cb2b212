-- What follows from a field that obeys its rule.
use Rattle.std.proofs.Common.{◌≡◌, ◌≢◌, ℕ, ℤ, ◌<◌, ◌≤◌, Bool, true, false, ◌&&◌, leb, Option, Some, None, is_some}
use Rattle.std.proofs.Common.{IsSome, IsSomeAnd, IfSome, get_or, refl, sym, ap, ◌∙◌, arith, rules, pos, negsuc}
use Rattle.std.proofs.lemmas.Bool.{false≢true, leb-true}
use Rattle.std.specs.Prelude.{option_and_then, FitsSigned, int_le}
use Rattle.std.specs.Int.{w8}
use Rattle.std.specs.Int.Signed.{◌≤ℤ◌, le_z_yes}
use Rattle.std.proofs.lemmas.Float.{T_from_true}
use Rattle.serde_json.specs.Data.{Data}
use Rattle.serde_json.specs.Find.{as_str}
use Rattle.op_text.specs.declared.field.Field.{Field}
use Rattle.op_text.specs.declared.field.Field.TheVariants.{Label, Parent, Value, Voter}
use Rattle.op_text.specs.declared.field.Rule.TheVariants.{Refused, Optional, Required}
use Rattle.op_text.specs.Field.{key_of, accepts, obeys, is_within, is_vote_value, number_in, integer_in}

both : (a b : Bool) → (a && b) ≡ true → (a ≡ true) × (b ≡ true)
both true b h = (refl, h)
both false b h = absurd (false≢true h)

within : (low high : ℕ) (n : Option ℕ) → is_within low high n ≡ true → IsSomeAnd n (λ k. (low ≤ k) × (k ≤ high))
within low high None h = absurd (false≢true h)
within low high (Some k) h = let b = both (leb low k) (leb k high) h in (leb-true _ _ b.0, leb-true _ _ b.1)

IsSomeAnd-weaker : {T : Type 0} (o : Option T) (P Q : T → Type 0) → ((x : T) → P x → Q x) → IsSomeAnd o P
    → IsSomeAnd o Q
IsSomeAnd-weaker None P Q f h = h
IsSomeAnd-weaker (Some x) P Q f h = f x h

-- a required number is there and within its bounds
pub required_number : (field : Field) (low high : ℕ) → ((d : Data) → accepts field d ≡ is_within low high (number_in d))
    → (found : Option Data) → obeys Required field found ≡ true
    → IsSomeAnd (option_and_then number_in found) (λ k. (low ≤ k) × (k ≤ high))
required_number field low high by None h = absurd (false≢true h)
required_number field low high by (Some d) h = within low high (number_in d) (sym (by d) ∙ h)

pub required32 : (field : Field) → ((d : Data) → accepts field d ≡ is_within 0 4294967295 (number_in d))
    → (found : Option Data) → obeys Required field found ≡ true
    → IsSomeAnd (option_and_then number_in found) (λ k. k < 4294967296)
required32 field by found h = IsSomeAnd-weaker _ (λ k. (0 ≤ k) × (k ≤ 4294967295)) (λ k. k < 4294967296)
    (λ k b. omega (arith, b.1)) (required_number field 0 4294967295 by found h)

pub required64 : (field : Field) (low : ℕ)
    → ((d : Data) → accepts field d ≡ is_within low 18446744073709551615 (number_in d)) → (found : Option Data)
    → obeys Required field found ≡ true → IsSome (option_and_then number_in found)
required64 field low by found h =
    there (option_and_then number_in found) (required_number field low 18446744073709551615 by found h)
  where
    there : (n : Option ℕ) → IsSomeAnd n (λ k. (low ≤ k) × (k ≤ 18446744073709551615)) → IsSome n
    there None h = absurd h
    there (Some k) h = refl

pub required16 : (field : Field) → ((d : Data) → accepts field d ≡ is_within 0 65535 (number_in d))
    → (found : Option Data) → obeys Required field found ≡ true
    → IsSomeAnd (option_and_then number_in found) (λ k. k < 65536)
required16 field by found h = IsSomeAnd-weaker _ (λ k. (0 ≤ k) × (k ≤ 65535)) (λ k. k < 65536)
    (λ k b. omega (arith, b.1)) (required_number field 0 65535 by found h)

pub optional_parent : (found : Option Data) → obeys Optional Parent found ≡ true
    → IfSome (option_and_then number_in found) (λ k. k < 4294967296)
optional_parent None h = tt
optional_parent (Some d) h = parent_within (number_in d) h
  where
    parent_within : (n : Option ℕ) → is_within 0 4294967295 n ≡ true → IfSome n (λ k. k < 4294967296)
    parent_within None h = tt
    parent_within (Some k) h = let b = both (leb 0 k) (leb k 4294967295) h in omega (arith, leb-true _ _ b.1)

pub required_text : (field : Field) → ((d : Data) → accepts field d ≡ is_some (as_str d)) → (found : Option Data)
    → obeys Required field found ≡ true → IsSome (option_and_then as_str found)
required_text field by None h = absurd (false≢true h)
required_text field by (Some d) h = sym (by d) ∙ h

pub required_value : (found : Option Data) → obeys Required Value found ≡ true
    → IsSomeAnd (option_and_then integer_in found) (FitsSigned w8)
required_value None h = absurd (false≢true h)
required_value (Some d) h = value_fits (integer_in d) h
  where
    value_fits : (z : Option ℤ) → is_vote_value z ≡ true → IsSomeAnd z (FitsSigned w8)
    value_fits None h = absurd (false≢true h)
    value_fits (Some z) h = let b = both (int_le (negsuc 127) z) (int_le z (pos 127)) h in
        let low : negsuc 127 ≤ℤ z = le_z_yes (T_from_true _ b.0) in
        let high : z ≤ℤ pos 127 = le_z_yes (T_from_true _ b.1) in
        search (rules, low, high)

-- what is refused isn't there
pub refused : (field : Field) (found : Option Data) → obeys Refused field found ≡ true → found ≡ None
refused field None h = refl
refused field (Some d) h = absurd (false≢true h)

pub voter_is_not_label : key_of Voter ≢ key_of Label
voter_is_not_label same = let first : ◌≡◌ {A = ℕ} 118 108 = ap (λ text. get_or text 0 0) same in omega arith
