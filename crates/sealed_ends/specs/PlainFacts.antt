-- No sealed line has an LF.
use Rattle.std.proofs.Common.{◌≡◌, ◌≢◌, ℕ, zero, suc, ◌==◌, [], ◌∷◌, true, List, ap, refl, arith, length, replicate}
use Rattle.std.proofs.Common.{slice_index}
use Rattle.std.specs.Prelude.{◌/◌, ◌%◌, ◌*◌, ◌+◌, not}
use Rattle.std.specs.List.{list_all}
use Rattle.std.proofs.lemmas.List.Elements.{All-append, All-nil}
use Rattle.std.proofs.lemmas.Bool.{and_parts}
use Rattle.base64.specs.Engines.{standard}
use Rattle.base64.specs.GeneralPurpose.{encode_of}
use Rattle.base64.specs.Rfc4648.{encode_group, encode_symbols, padding_len}
use Rattle.line_reader.specs.Lines.{HasNoLf}

pub plain-cons : (b : ℕ) (bytes : List ℕ) → b ≢ 10 → HasNoLf bytes → HasNoLf (b ∷ bytes)
plain-cons b bytes other plain zero d lt = other
plain-cons b bytes other plain (suc k) d lt = plain k d (omega (arith, lt))

pub plain-nil : HasNoLf []
plain-nil = All-nil (λ b. b ≢ 10)

-- whatever is looked up among these isn't an LF
abbrev NoneIsLf : List ℕ → Type 0
NoneIsLf table = (i : ℕ) → slice_index table i ≢ 10

none_is_lf : (table : List ℕ) → list_all (λ b. not (b == 10)) table ≡ true → NoneIsLf table
none_is_lf [] e i = λ is. absurd (omega (arith, is))
none_is_lf (b ∷ table) e zero = λ is. let parts = and_parts (not (b == 10)) (list_all (λ b. not (b == 10)) table) e in cc (ap (λ n. not (n == 10)) is, parts.0)
none_is_lf (b ∷ table) e (suc i) = let parts = and_parts (not (b == 10)) (list_all (λ b. not (b == 10)) table) e in none_is_lf table parts.1 i

-- a symbol before others
then_symbol : (t : List ℕ) (i : ℕ) (rest : List ℕ) → NoneIsLf t → HasNoLf rest → HasNoLf (slice_index t i ∷ rest)
then_symbol t i rest h plain = plain-cons (slice_index t i) rest (h i) plain

two_symbols : (t : List ℕ) (i j : ℕ) (rest : List ℕ) → NoneIsLf t → HasNoLf rest
    → HasNoLf (slice_index t i ∷ slice_index t j ∷ rest)
two_symbols t i j rest h plain = then_symbol t i (slice_index t j ∷ rest) h (then_symbol t j rest h plain)

plain-symbols : (t m : List ℕ) → NoneIsLf t → HasNoLf (encode_symbols t m)
unfolding encode_symbols
plain-symbols t [] h = plain-nil
plain-symbols t (a ∷ []) h = two_symbols t (a / 4) (a % 4 * 16) [] h plain-nil
plain-symbols t (a ∷ b ∷ []) h =
    two_symbols t (a / 4) (a % 4 * 16 + b / 16) (slice_index t (b % 16 * 4) ∷ []) h
    (then_symbol t (b % 16 * 4) [] h plain-nil)
plain-symbols t (a ∷ b ∷ c ∷ rest) h =
    All-append (λ b. b ≢ 10) (encode_group t a b c) (encode_symbols t rest)
    (two_symbols t (a / 4) (a % 4 * 16 + b / 16) (slice_index t (b % 16 * 4 + c / 64) ∷ slice_index t (c % 64) ∷ []) h
    (two_symbols t (b % 16 * 4 + c / 64) (c % 64) [] h plain-nil)) (plain-symbols t rest h)

plain-equals : (n : ℕ) → HasNoLf (replicate n 61)
plain-equals zero = plain-nil
plain-equals (suc n) = plain-cons 61 (replicate n 61) (λ e. cc) (plain-equals n)

pub plain-encoded : (body : List ℕ) → HasNoLf (encode_of standard body)
plain-encoded body =
    All-append (λ b. b ≢ 10) (encode_symbols standard.encode_table body) (replicate (padding_len (length body)) 61)
    (plain-symbols standard.encode_table body (none_is_lf standard.encode_table refl))
    (plain-equals (padding_len (length body)))
