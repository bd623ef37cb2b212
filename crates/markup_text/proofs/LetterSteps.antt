-- A text that is written character by character.
use Rattle.std.proofs.Common.{◌≡◌, ◌∙◌, ℕ, List, ◌++◌, length, flat_map, sym, ap, append-nil, append_assoc}
use Rattle.std.specs.Prelude.{IsUtf8, encode_utf8}
use Rattle.std.specs.Str.{chars}
use Rattle.std.proofs.lemmas.Str.{IsUtf8-past_char, chars_past_char, chars-nil}
use Rattle.std.proofs.lemmas.List.{nil_from_length}
use Rattle.std.proofs.lemmas.List.Concat.{flat_map-append}
use Rattle.markup_text.specs.Html.{escaped, html_of}
use Rattle.markup_text.specs.Shown.{shown}

pub text_left : (bs rest : List ℕ) (letter : ℕ) → IsUtf8 bs → bs ≡ encode_utf8 letter ++ rest → IsUtf8 rest
text_left bs rest letter text starts = IsUtf8-past_char bs rest letter text starts

-- the HTML of a text is that of its first character, and then that of the rest
html_past : (bs rest : List ℕ) (letter : ℕ) → IsUtf8 bs → bs ≡ encode_utf8 letter ++ rest
    → html_of bs ≡ flat_map escaped (shown letter) ++ html_of rest
html_past bs rest letter text starts =
    ap (λ letters. flat_map escaped (flat_map shown letters)) (chars_past_char bs rest letter text starts)
    ∙ flat_map-append escaped (shown letter) (flat_map shown (chars rest))

pub letter_more : (old new whole bs rest : List ℕ) (letter : ℕ) → IsUtf8 bs → bs ≡ encode_utf8 letter ++ rest
    → new ≡ old ++ flat_map escaped (shown letter) → old ++ html_of bs ≡ whole → new ++ html_of rest ≡ whole
letter_more old new whole bs rest letter text starts is so_far =
    ap (λ l. l ++ html_of rest) is
    ∙ append_assoc old (flat_map escaped (shown letter)) (html_of rest)
    ∙ ap (λ l. old ++ l) (sym (html_past bs rest letter text starts)) ∙ so_far

pub letters_done : (now whole bs : List ℕ) → length bs ≡ 0 → now ++ html_of bs ≡ whole → now ≡ whole
letters_done now whole bs none so_far =
    sym (append-nil now)
    ∙ ap (λ l. now ++ flat_map escaped (flat_map shown l)) (sym (ap chars (nil_from_length bs none) ∙ chars-nil))
    ∙ so_far
