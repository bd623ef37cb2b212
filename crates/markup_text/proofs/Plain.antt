-- Codes, as they stand in HTML, and what is hidden.
use Rattle.std.proofs.Common.{◌≡◌, ◌∙◌, ℕ, List, [], ◌∷◌, ◌++◌, Bool, true, false, flat_map, refl, ap}
use Rattle.std.specs.Prelude.{codes, if◌then◌else◌}
use Rattle.std.specs.Char.{encode_utf8}
use Rattle.std.specs.Fmt.{digits}
use Rattle.std.specs.List.{list_any}
use Rattle.std.proofs.lemmas.Bool.{or_from, or_parts}
use Rattle.std.proofs.lemmas.List.Folds.{list_any-append}
use Rattle.std.proofs.lemmas.List.Concat.{flat_map-append}
use Rattle.markup_text.specs.Html.{escaped}
use Rattle.markup_text.specs.Shown.{code_text, is_hidden, shown}
use Rattle.markup_text.proofs.Codes.{digits_fail, digits_plain, seen}

pub codes_plain : (letter : ℕ) → flat_map escaped (code_text letter) ≡ code_text letter
unfolding encode_utf8
codes_plain letter =
    flat_map-append escaped (codes "\\u{" ++ digits 16 true letter) (codes "}")
    ∙ ap (λ l. l ++ codes "}") (flat_map-append escaped (codes "\\u{") (digits 16 true letter)
    ∙ ap (λ l. codes "\\u{" ++ l) (digits_plain letter))

codes_seen : (letter : ℕ) → list_any is_hidden (code_text letter) ≡ false
codes_seen letter =
    list_any-append is_hidden (codes "\\u{" ++ digits 16 true letter) (codes "}")
    ∙ or_from _ _ (list_any-append is_hidden (codes "\\u{") (digits 16 true letter)
    ∙ or_from _ _ refl (digits_fail is_hidden seen letter)) refl

letter_seen : (letter : ℕ) (hidden : Bool) → is_hidden letter ≡ hidden
    → list_any is_hidden (if hidden then code_text letter else letter ∷ []) ≡ false
letter_seen letter true e = codes_seen letter
letter_seen letter false e = or_from _ _ e refl

pub all_seen : (letters : List ℕ) → list_any is_hidden (flat_map shown letters) ≡ false
all_seen [] = refl
all_seen (letter ∷ letters) =
    list_any-append is_hidden (shown letter) (flat_map shown letters)
    ∙ or_from _ _ (letter_seen letter (is_hidden letter) refl) (all_seen letters)

letter_kept : (letter : ℕ) (hidden : Bool) → hidden ≡ false
    → (if hidden then code_text letter else letter ∷ []) ≡ letter ∷ []
letter_kept letter hidden e = ap (λ b. if b then code_text letter else letter ∷ []) e

pub all_kept : (letters : List ℕ) → list_any is_hidden letters ≡ false → flat_map shown letters ≡ letters
all_kept [] e = refl
all_kept (letter ∷ letters) e =
    let parts = or_parts (is_hidden letter) (list_any is_hidden letters) e in
    ap (λ l. l ++ flat_map shown letters) (letter_kept letter (is_hidden letter) parts.0)
    ∙ ap (λ l. letter ∷ l) (all_kept letters parts.1)
