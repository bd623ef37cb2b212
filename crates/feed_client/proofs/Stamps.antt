-- The text of a stamp, number by number.
use Rattle.std.proofs.Common.{◌≡◌, ◌↔◌, ◌<◌, ◌^◌, ◌++◌, ◌∷◌, [], ℕ, List, Option, None, Some, Result, MatchOption, IfSome}
use Rattle.std.proofs.Common.{IsNone, IsAscii, decimal, Bor, refl, sym, ap, subst, ◌∙◌, arith, suc, append_assoc}
use Rattle.std.proofs.lemmas.Fmt.{IsAscii-decimal, decimal_is_IsNumeral, parse-decimal}
use Rattle.std.proofs.lemmas.Str.Ascii.{IsAscii-cons}
use Rattle.std.proofs.lemmas.Str.Parse.{not_in_digits, numerals_by_value, tells_digits}
use Rattle.std.proofs.lemmas.Str.Pattern.{IsSplitOnceResult, split_after}
use Rattle.std.specs.Result.{result_ok}
use Rattle.std.specs.Str.Parse.{AllDigits, ParsesUnsigned}
use Rattle.review_ops.specs.Timestamp.{IsNumbered, Timestamp, timestamp_text}

-- ---- numbers before a comma

pub split_number : (number : ℕ) (rest text : List ℕ) (split : Option (Bor (List ℕ) × Bor (List ℕ)))
    → IsSplitOnceResult 44 text split → number < 2 ^ 64 → text ≡ decimal number ++ 44 ∷ rest
    → MatchOption split ⊥ (λ parts. (parts.0.now ≡ decimal number) × (parts.1.now ≡ rest))
split_number number rest text split splits fits is =
    split_after 44 text (decimal number) rest split splits (omega arith) is
    (not_in_digits (numerals_by_value (AllDigits 10) tells_digits) (decimal number) 44 (decimal_is_IsNumeral number fits).0.1 (λ within. omega (arith, within.1)))

-- ---- the text of a stamp is one of UTF-8

ascii_append : (xs ys : List ℕ) → IsAscii xs → IsAscii ys → IsAscii (xs ++ ys)
ascii_append [] ys h k = k
ascii_append (x ∷ xs) ys h k = IsAscii-cons x (xs ++ ys) (h 0) (ascii_append xs ys (λ i. h (suc i)) k)

ascii_piece : (n : ℕ) → n < 2 ^ 64 → IsAscii (44 ∷ decimal n)
ascii_piece n small = IsAscii-cons 44 (decimal n) (omega arith) (IsAscii-decimal n small)

pub ascii_stamp : (stamp : Timestamp) → IsNumbered stamp → IsAscii (timestamp_text stamp)
ascii_stamp stamp is =
    let time = IsAscii-decimal stamp.time is.time in
    let site = ascii_append _ _ time (ascii_piece stamp.site (omega (arith, is.site))) in
    let start = ascii_append _ _ site (ascii_piece stamp.start (omega (arith, is.start))) in
    ascii_append _ _ start (ascii_piece stamp.seq is.seq)

pub stamp_pieces : (stamp : Timestamp) → timestamp_text stamp
    ≡ decimal stamp.time ++ 44 ∷ (decimal stamp.site ++ 44 ∷ (decimal stamp.start ++ 44 ∷ decimal stamp.seq))
stamp_pieces stamp =
    append_assoc (decimal stamp.time ++ 44 ∷ decimal stamp.site) (44 ∷ decimal stamp.start) (44 ∷ decimal stamp.seq)
    ∙ append_assoc (decimal stamp.time) (44 ∷ decimal stamp.site) (44 ∷ decimal stamp.start ++ 44 ∷ decimal stamp.seq)

-- ---- numbers that are read back

pub no_split : (number : ℕ) (rest text : List ℕ) (split : Option (Bor (List ℕ) × Bor (List ℕ)))
    → IsSplitOnceResult 44 text split → split ≡ None → number < 2 ^ 64 → ¬ (text ≡ decimal number ++ 44 ∷ rest)
no_split number rest text split splits none fits is =
    subst (λ r. MatchOption r ⊥ (λ parts. (parts.0.now ≡ decimal number) × (parts.1.now ≡ rest))) none
    (split_number number rest text split splits fits is)

pub split_parts_of : (number : ℕ) (rest text : List ℕ) (split : Option (Bor (List ℕ) × Bor (List ℕ)))
    (digits after : Bor (List ℕ)) → IsSplitOnceResult 44 text split → split ≡ Some (digits, after)
    → number < 2 ^ 64 → text ≡ decimal number ++ 44 ∷ rest → (digits.now ≡ decimal number) × (after.now ≡ rest)
split_parts_of number rest text split digits after splits some fits is =
    subst (λ r. MatchOption r ⊥ (λ parts. (parts.0.now ≡ decimal number) × (parts.1.now ≡ rest))) some
    (split_number number rest text split splits fits is)

pub read_back : (E : Type 0) (number : ℕ) (digits : List ℕ) (read : Result ℕ E) (result : Option ℕ) → number < 2 ^ 64
    → digits ≡ decimal number → ParsesUnsigned 64 10 digits read → result ≡ result_ok read → result ≡ Some number
read_back E number digits read result fits is parses ok =
    ok ∙ ap result_ok (parse-decimal 64 number digits read fits fits is parses)

pub not_none : {X : Type 0} (value : Option X) (x : X) → value ≡ Some x → ¬ (value ≡ None)
not_none value x some none = let bad : None ≡ Some x = sym none ∙ some in cc

pub one_value : {X : Type 0} (value : Option X) (x y : X) → value ≡ Some x → value ≡ Some y → x ≡ y
one_value value x y some other = cc

pub stamp_made : (result : Option Timestamp) (time site start seq : ℕ) → (IsNone result ↔ (seq ≡ 0))
    → IfSome result (λ made. made ≡ record { time = time; site = site; start = start; seq = seq }) → (stamp : Timestamp)
    → IsNumbered stamp → time ≡ stamp.time → site ≡ stamp.site → start ≡ stamp.start → seq ≡ stamp.seq
    → result ≡ Some stamp
stamp_made None time site start seq none some stamp is t s r q =
    let zero : seq ≡ 0 = none.0 refl in absurd (omega (arith, zero, q, is.first))
stamp_made (Some made) time site start seq none some stamp is t s r q = rw (some, t, s, r, q) refl
