-- Texts that are joined, and lines that are added one after another.
use Rattle.std.proofs.Common.{◌≡◌, ◌∙◌, ◌+◌, ◌<◌, ℕ, List, [], ◌∷◌, ◌++◌, Bool, false, Result, length, map, flat_map, take, get_or, sym, ap, refl}
use Rattle.std.proofs.Common.{append-nil, append_assoc, arith}
use Rattle.std.specs.List.{join_by}
use Rattle.std.specs.Prelude.{IsUtf8, OnOk, String, encode_utf8, string_bytes, ◌==◌}
use Rattle.std.specs.Str.{chars}
use Rattle.std.proofs.lemmas.Result.{on_ok_weaker}
use Rattle.std.proofs.lemmas.Str.{IsUtf8-past_char, chars_past_char, chars-nil}
use Rattle.std.proofs.lemmas.List.{nil_from_length, length-append, length-map, take_more}
use Rattle.byte_ends.specs.Lines.{as_line}
use Rattle.std.proofs.lemmas.List.Concat.{flat_map-append}
use Rattle.std.proofs.lemmas.List.Folds.{flat_map-map}
use Rattle.json.proofs.Printed.Tokens.{print_from_push, print_from-append}
use Rattle.json.specs.Token.{string}
use Rattle.json.specs.Print.{print, quoted}
use Rattle.gate_check.specs.Asking.{pointer_escaped, joined_by}
use Rattle.gate_check.specs.Checked.{as_warning, checked_line}
use Rattle.gate_check.specs.Warnings.{Found}

print_nothing : print [] ≡ []
print_nothing = nil_from_length (print [])
    (omega (arith, ap length (print_from-append false [] []), length-append (print []) (print [])))

pub quoted_alone : (text : List ℕ) → print (string text ∷ []) ≡ quoted text
quoted_alone text = print_from_push false [] (string text) ∙ ap (λ l. l ++ quoted text) print_nothing

pub joined_some : {X : Type 0} (text_of : X → List ℕ) (none separator : List ℕ) (texts : List X) (is_empty : Bool)
    → is_empty ≡ (length texts == 0) → is_empty ≡ false
    → join_by text_of separator texts ≡ joined_by none separator (map text_of texts)
joined_some text_of none separator [] is_empty is not = cc
joined_some text_of none separator (x ∷ xs) is_empty is not =
    ap (λ l. text_of x ++ l) (sym (flat_map-map (λ other. separator ++ other) text_of xs))

-- ---- the characters of a name

pub text_left : (bs rest : List ℕ) (letter : ℕ) → IsUtf8 bs → bs ≡ encode_utf8 letter ++ rest → IsUtf8 rest
text_left bs rest letter text starts = IsUtf8-past_char bs rest letter text starts

pub letter_more : (old new whole bs rest : List ℕ) (letter : ℕ) → IsUtf8 bs → bs ≡ encode_utf8 letter ++ rest
    → new ≡ old ++ pointer_escaped letter → old ++ flat_map pointer_escaped (chars bs) ≡ whole
    → new ++ flat_map pointer_escaped (chars rest) ≡ whole
letter_more old new whole bs rest letter text starts is so_far =
    ap (λ l. l ++ flat_map pointer_escaped (chars rest)) is
    ∙ append_assoc old (pointer_escaped letter) (flat_map pointer_escaped (chars rest))
    ∙ ap (λ l. old ++ flat_map pointer_escaped l) (sym (chars_past_char bs rest letter text starts)) ∙ so_far

pub letters_done : (now whole bs : List ℕ) → length bs ≡ 0 → now ++ flat_map pointer_escaped (chars bs) ≡ whole → now ≡ whole
letters_done now whole bs none so_far =
    sym (append-nil now) ∙ ap (λ l. now ++ flat_map pointer_escaped l) (sym (ap chars (nil_from_length bs none) ∙ chars-nil))
    ∙ so_far

-- one more
pub flat_more : {X Y : Type 0} (f : X → List Y) (xs : List X) (i : ℕ) (d : X) → i < length xs
    → flat_map f (take (i + 1) xs) ≡ flat_map f (take i xs) ++ f (get_or xs i d)
flat_more f xs i d inside =
    ap (flat_map f) (take_more xs i d inside) ∙ flat_map-append f (take i xs) (get_or xs i d ∷ [])
    ∙ ap (λ l. flat_map f (take i xs) ++ l) (append-nil (f (get_or xs i d)))

-- lines after lines
pub added : {Y : Type 0} (start done more old new : List Y) → old ≡ start ++ done → new ≡ old ++ more
    → new ≡ start ++ (done ++ more)
added start done more old new so_far is = is ∙ ap (λ l. l ++ more) so_far ∙ append_assoc start done more

-- ---- lines that several calls add

module _ {Y E : Type 0} (result : Result (Unit {0}) E) (start a b : List Y) where
  module _ (c : List Y) where
    pub after_three : (one two three : List Y) → one ≡ start ++ a → two ≡ one ++ b → OnOk result (three ≡ two ++ c)
        → OnOk result (three ≡ start ++ (a ++ b ++ c))
    after_three one two three first second last =
        on_ok_weaker result (added start (a ++ b) c two three (added start a b one two first second)) last

    pub after_four : (d one two three four : List Y) → one ≡ start ++ a → two ≡ one ++ b → three ≡ two ++ c
        → OnOk result (four ≡ three ++ d) → OnOk result (four ≡ start ++ (a ++ b ++ c ++ d))
    after_four d one two three four first second next last =
        on_ok_weaker result
        (added start (a ++ b ++ c) d three four
        (added start (a ++ b) c two three (added start a b one two first second) next)) last

-- ---- a whole check

length_mapped : {A B : Type 0} (f : A → B) (xs : List A) → length (map f xs) ≡ length xs
length_mapped f xs = rw length-map refl

pub check_whole : {Y : Type 0} (conditions : List (String Y)) (found warnings : List Found) (lines : List (List ℕ))
    (text : List ℕ)
    → text ≡ flat_map as_line (map string_bytes conditions) ++ flat_map as_warning found
    ++ as_line (checked_line (length conditions) (length found))
    → map string_bytes conditions ≡ lines → found ≡ warnings
    → text ≡ flat_map as_line lines ++ flat_map as_warning warnings ++ as_line (checked_line (length lines) (length warnings))
check_whole conditions found warnings lines text is asked warned =
    let as_many : length conditions ≡ length lines = sym (length_mapped string_bytes conditions) ∙ ap length asked in
    is ∙ (λ i. flat_map as_line (asked i) ++ flat_map as_warning (warned i) ++ as_line (checked_line (as_many i) (length (warned i))))
