-- What a browser reads from a text in HTML.
use Rattle.std.proofs.Common.{◌≡◌, ◌∙◌, ℕ, ◌<◌, ◌≤◌, ◌+◌, ◌/◌, ◌%◌, List, [], ◌∷◌, ◌++◌, Bool, true, false, flat_map}
use Rattle.std.proofs.Common.{refl, ap, sym, arith}
use Rattle.std.specs.Prelude.{◌==◌, codes, if◌then◌else◌, encode_utf8_all, Some, nat_lt}
use Rattle.std.specs.Char.{encode_utf8}
use Rattle.std.specs.List.{list_any}
use Rattle.std.proofs.Common.{lit<}
use Rattle.std.proofs.lemmas.Bool.{eqb-true, or_from, or_parts}
use Rattle.std.proofs.lemmas.Str.{encode_ascii}
use Rattle.std.proofs.lemmas.Bool.Decides.{nat_tests}
use Rattle.std.proofs.lemmas.List.Folds.{list_any-append}
use Rattle.markup_text.specs.Html.{escaped}
use Rattle.markup_text.specs.Reading.{is_markup, read, read_from}

abbrev next : ℕ → ℕ
next bits = 128 + bits % 64

-- a test that a character fails, and each byte from 128 on, fails at each byte of the character
encode_cases : (test : ℕ → Bool) → ((x : ℕ) → 128 ≤ x → test x ≡ false) → (c : ℕ) → test c ≡ false
    → (one two three : Bool)
    → list_any test (if one then c ∷ [] else (if two then (192 + c / 64) ∷ next c ∷ []
    else (if three then (224 + c / 4096) ∷ next (c / 64) ∷ next c ∷ []
    else (240 + c / 262144) ∷ next (c / 4096) ∷ next (c / 64) ∷ next c ∷ []))) ≡ false
encode_cases test high c own true two three = or_from _ _ own refl
encode_cases test high c own false true three =
    or_from _ _ (high (192 + c / 64) (omega arith)) (or_from _ _ (high (next c) (omega arith)) refl)
encode_cases test high c own false false true =
    or_from _ _ (high (224 + c / 4096) (omega arith)) (or_from _ _ (high (next (c / 64)) (omega arith))
    (or_from _ _ (high (next c) (omega arith)) refl))
encode_cases test high c own false false false =
    or_from _ _ (high (240 + c / 262144) (omega arith)) (or_from _ _ (high (next (c / 4096)) (omega arith))
    (or_from _ _ (high (next (c / 64)) (omega arith)) (or_from _ _ (high (next c) (omega arith)) refl)))

encode_fails : (test : ℕ → Bool) → ((x : ℕ) → 128 ≤ x → test x ≡ false) → (c : ℕ) → test c ≡ false
    → list_any test (encode_utf8 c) ≡ false
unfolding encode_utf8
encode_fails test high c own = encode_cases test high c own (nat_lt c 128) (nat_lt c 2048) (nat_lt c 65536)

abbrev is_reference : ℕ → Bool
is_reference byte = byte == 38

high_markup : (x : ℕ) → 128 ≤ x → is_markup x ≡ false
high_markup x high = grind (arith, nat_tests)

high_reference : (x : ℕ) → 128 ≤ x → is_reference x ≡ false
high_reference x high = grind (arith, nat_tests)

-- the character, after these outcomes of the tests
abbrev escaped_by : ℕ → Bool → Bool → Bool → Bool → Bool → List ℕ
escaped_by c amp lt gt quot apos =
    if amp then codes "&amp;"
    else (if lt then codes "&lt;"
    else (if gt then codes "&gt;"
    else (if quot then codes "&quot;"
    else (if apos then codes "&#39;"
    else encode_utf8 c))))

letter_clean : (c : ℕ) (amp lt gt quot apos : Bool) → (c == 60) ≡ lt → (c == 62) ≡ gt → (c == 34) ≡ quot
    → (c == 39) ≡ apos → list_any is_markup (escaped_by c amp lt gt quot apos) ≡ false
letter_clean c true lt gt quot apos a b d e = refl
letter_clean c false true gt quot apos a b d e = refl
letter_clean c false false true quot apos a b d e = refl
letter_clean c false false false true apos a b d e = refl
letter_clean c false false false false true a b d e = refl
letter_clean c false false false false false a b d e =
    encode_fails is_markup high_markup c (or_from _ _ (or_from _ _ (or_from _ _ a b) d) e)

pub all_clean : (letters : List ℕ) → list_any is_markup (flat_map escaped letters) ≡ false
all_clean [] = refl
all_clean (c ∷ letters) =
    list_any-append is_markup (escaped c) (flat_map escaped letters)
    ∙ or_from _ _ (letter_clean c (c == 38) (c == 60) (c == 62) (c == 34) (c == 39) refl refl refl refl)
    (all_clean letters)

-- bytes that begin no reference are read as they are
byte_over : (b : ℕ) (bs : List ℕ) (starts : Bool) → starts ≡ false
    → (if starts then read_from (Some []) bs else b ∷ read bs) ≡ b ∷ read bs
byte_over b bs starts e = ap (λ s. if s then read_from (Some []) bs else b ∷ read bs) e

read_over : (bs rest : List ℕ) → list_any is_reference bs ≡ false → read (bs ++ rest) ≡ bs ++ read rest
read_over [] rest e = refl
read_over (b ∷ bs) rest e =
    let parts = or_parts (is_reference b) (list_any is_reference bs) e in
    byte_over b (bs ++ rest) (b == 38) parts.0 ∙ ap (λ l. b ∷ l) (read_over bs rest parts.1)

-- a character that is this one is this one's byte
is_byte : (c byte : ℕ) → (c == byte) ≡ true → byte < 128 → byte ∷ [] ≡ encode_utf8 c
is_byte c byte e small =
    sym (ap encode_utf8 (eqb-true c byte e) ∙ encode_ascii byte small)

letter_back : (c : ℕ) (rest : List ℕ) (amp lt gt quot apos : Bool) → (c == 38) ≡ amp → (c == 60) ≡ lt → (c == 62) ≡ gt
    → (c == 34) ≡ quot → (c == 39) ≡ apos → read (escaped_by c amp lt gt quot apos ++ rest) ≡ encode_utf8 c ++ read rest
letter_back c rest true lt gt quot apos f a b d e = ap (λ l. l ++ read rest) (is_byte c 38 f (lit< tt))
letter_back c rest false true gt quot apos f a b d e = ap (λ l. l ++ read rest) (is_byte c 60 a (lit< tt))
letter_back c rest false false true quot apos f a b d e = ap (λ l. l ++ read rest) (is_byte c 62 b (lit< tt))
letter_back c rest false false false true apos f a b d e = ap (λ l. l ++ read rest) (is_byte c 34 d (lit< tt))
letter_back c rest false false false false true f a b d e = ap (λ l. l ++ read rest) (is_byte c 39 e (lit< tt))
letter_back c rest false false false false false f a b d e =
    read_over (encode_utf8 c) rest (encode_fails is_reference high_reference c f)

pub reads_back : (letters : List ℕ) → read (flat_map escaped letters) ≡ encode_utf8_all letters
reads_back [] = refl
reads_back (c ∷ letters) =
    letter_back c (flat_map escaped letters) (c == 38) (c == 60) (c == 62) (c == 34) (c == 39) refl refl refl refl refl
    ∙ ap (λ l. encode_utf8 c ++ l) (reads_back letters)
