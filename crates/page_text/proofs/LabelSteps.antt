-- The value of a label that is written character by character.
use Rattle.std.proofs.Common.{◌≡◌, ◌∙◌, ℕ, List, ◌++◌, length, flat_map, sym, ap, append-nil, append_assoc}
use Rattle.std.specs.Prelude.{IsUtf8, encode_utf8}
use Rattle.std.specs.Str.{chars}
use Rattle.std.proofs.lemmas.Str.{IsUtf8-past_char, chars_past_char, chars-nil}
use Rattle.std.proofs.lemmas.List.{nil_from_length}
use Rattle.page_text.specs.Labels.{label_letter, label_value}

pub text_left : (bs rest : List ℕ) (letter : ℕ) → IsUtf8 bs → bs ≡ encode_utf8 letter ++ rest → IsUtf8 rest
text_left bs rest letter text starts = IsUtf8-past_char bs rest letter text starts

pub letter_more : (old new whole bs rest : List ℕ) (letter : ℕ) → IsUtf8 bs → bs ≡ encode_utf8 letter ++ rest
    → new ≡ old ++ label_letter letter → old ++ label_value bs ≡ whole → new ++ label_value rest ≡ whole
letter_more old new whole bs rest letter text starts is so_far =
    ap (λ l. l ++ label_value rest) is
    ∙ append_assoc old (label_letter letter) (label_value rest)
    ∙ ap (λ l. old ++ l) (sym (ap (flat_map label_letter) (chars_past_char bs rest letter text starts))) ∙ so_far

pub letters_done : (now whole bs : List ℕ) → length bs ≡ 0 → now ++ label_value bs ≡ whole → now ≡ whole
letters_done now whole bs none so_far =
    sym (append-nil now)
    ∙ ap (λ l. now ++ flat_map label_letter l) (sym (ap chars (nil_from_length bs none) ∙ chars-nil))
    ∙ so_far
