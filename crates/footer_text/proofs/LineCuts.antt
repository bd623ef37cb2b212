-- Where the first line of a text ends.
use Rattle.std.proofs.Common.{Option, None, Some, ◌≡◌, ◌<◌, ◌+◌, ℕ, zero, suc, Bool, true, false, List, [], ◌∷◌, length, take, drop, slice_index, refl, ap, ◌∙◌, arith, eqb}
use Rattle.std.specs.List.{onto_first}
use Rattle.std.proofs.lemmas.List.Splits.{slice_split-cons_yes, slice_split-cons_no}
use Rattle.std.proofs.lemmas.Bool.{eqb-true}
use Rattle.memchr.specs.Find.{Nowhere, NoneBefore, Passes, is_byte}
use Rattle.footer_text.specs.Lines.{lines_of}

-- the lines of what is left, if something is
abbrev pub lines_left : Option (List ℕ) → List (List ℕ)
lines_left None = []
lines_left (Some text) = lines_of text

-- how much is left
abbrev pub left_length : Option (List ℕ) → ℕ
left_length None = 0
left_length (Some text) = suc (length text)

not_true : (b : Bool) → (b ≡ true → ⊥) → b ≡ false
not_true true never = absurd (never refl)
not_true false never = refl

-- where no byte is a line end the text is one line
pub one_line : (text : List ℕ) → Nowhere (Passes (is_byte 10) text) 0 (length text) → lines_of text ≡ text ∷ []
one_line [] none = refl
one_line (x ∷ xs) none =
    let here : eqb x 10 ≡ false = not_true (eqb x 10) (none 0 (omega arith) (omega arith)) in
    let rest = one_line xs (λ k low high. none (suc k) (omega arith) (omega arith)) in
    slice_split-cons_no (λ b. eqb b 10) x xs here ∙ ap (onto_first x) rest

-- the first line ends at the first line end
pub first_cut : (text : List ℕ) (end : ℕ) → ((k : ℕ) → k < end → Passes (is_byte 10) text k → ⊥) → end < length text
    → Passes (is_byte 10) text end → lines_of text ≡ take end text ∷ lines_of (drop (suc end) text)
first_cut [] end before inside at = absurd (omega arith)
first_cut (x ∷ xs) zero before inside at = slice_split-cons_yes (λ b. eqb b 10) x xs at
first_cut (x ∷ xs) (suc end) before inside at =
    let here : eqb x 10 ≡ false = not_true (eqb x 10) (before 0 (omega arith)) in
    let rest = first_cut xs end (λ k low. before (suc k) (omega arith)) (omega arith) at in
    slice_split-cons_no (λ b. eqb b 10) x xs here ∙ ap (onto_first x) rest

-- what a search for the line end found is where the first line ends
pub found_cut : (text : List ℕ) (end : ℕ) → NoneBefore (Passes (is_byte 10) text) 0 (length text) end
    → Passes (is_byte 10) text end → lines_of text ≡ take end text ∷ lines_of (drop (end + 1) text)
found_cut text end found at =
    let next : suc end ≡ end + 1 = omega arith in
    first_cut text end (λ k low. found.before k (omega arith) low) found.high at
    ∙ ap (λ n. take end text ∷ lines_of (drop n text)) next

-- the byte there is ASCII
pub end_is_ascii : (text : List ℕ) (end : ℕ) → Passes (is_byte 10) text end → slice_index text end < 128
end_is_ascii text end at = let is = eqb-true (slice_index text end) 10 at in omega (arith, is)
