-- What the fields of a line are, by their bytes.
use Rattle.std.proofs.Common.{◌≡◌, ℕ, ◌+◌, ◌-◌, ◌*◌, ◌<◌, ◌≤◌, true, false, eqb, List, [], ◌∷◌, ◌++◌, length, take}
use Rattle.std.proofs.Common.{drop, get_or, fold, Option, Some, None, refl, ap, sym, ◌∙◌, arith}
use Rattle.std.specs.Prelude.{IfNone}
use Rattle.std.specs.Cmp.Lexicographic.{pointwise}
use Rattle.std.proofs.Math.Seq.{take-append_seam, drop-append_seam, get_or-append_seam}
use Rattle.std.proofs.lemmas.List.{take-append-drop, take_rest, length-append}
use Rattle.std.proofs.lemmas.List.Sums.{fold-append, fold_more}
use Rattle.std.proofs.lemmas.Slice.Eq.{slice_eq-Decides}
use Rattle.std.proofs.lemmas.Bool.Decides.{Decides-eqb}
use Rattle.std.proofs.lemmas.Bool.{false≢true}
use Rattle.script_text.specs.Fields.{IsAfterWord, IsSplit, written_number}

pub if_none_always : {T P : Type 0} (r : Option T) → P → IfNone r P
if_none_always None p = p
if_none_always (Some x) p = tt

-- ---- a word

texts_same : (xs ys : List ℕ) → pointwise eqb xs ys ≡ true → xs ≡ ys
texts_same xs ys e = (slice_eq-Decides Decides-eqb xs ys _ refl).0 e

pub same_texts : (xs ys : List ℕ) → xs ≡ ys → pointwise eqb xs ys ≡ true
same_texts xs ys e = (slice_eq-Decides Decides-eqb xs ys _ refl).1 e

blank_first : (rest : List ℕ) → 0 < length rest → get_or rest 0 0 ≡ 32
    → rest ≡ 32 ∷ take (length rest - 1) (drop 1 rest)
blank_first [] l e = absurd (omega arith)
blank_first (b ∷ rest) l e = ap (λ c. c ∷ rest) e ∙ ap (λ t. 32 ∷ t) (sym (take_rest (b ∷ rest) 1))

pub after_word_found : (line word front rest : List ℕ) → front ≡ take (length word) line
    → rest ≡ drop (length word) line → 0 < length rest → pointwise eqb front word ≡ true → get_or rest 0 0 ≡ 32
    → IsAfterWord line word (take (length rest - 1) (drop 1 rest))
after_word_found line word front rest front_is rest_is some same blank =
    sym (take-append-drop (length word) line)
    ∙ ap (λ f. f ++ drop (length word) line) (sym front_is ∙ texts_same front word same)
    ∙ ap (λ r. word ++ r) (sym rest_is ∙ blank_first rest some blank)

-- what the word, a blank and the rest begin with
pub after_word_front : (line word rest : List ℕ) → IsAfterWord line word rest
    → (take (length word) line ≡ word) × (drop (length word) line ≡ 32 ∷ rest)
after_word_front line word rest is = (ap (take (length word)) is ∙ take-append_seam word (32 ∷ rest), ap (drop (length word)) is ∙ drop-append_seam word (32 ∷ rest))

pub not_the_word : (line word front : List ℕ) → front ≡ take (length word) line → pointwise eqb front word ≡ false
    → (rest : List ℕ) → IsAfterWord line word rest → ⊥
not_the_word line word front front_is differs rest is =
    false≢true (sym differs ∙ same_texts front word (front_is ∙ (after_word_front line word rest is).0))

pub not_a_blank : (line word back : List ℕ) → back ≡ drop (length word) line → ¬ (get_or back 0 0 ≡ 32)
    → (rest : List ℕ) → IsAfterWord line word rest → ⊥
not_a_blank line word back back_is other rest is =
    other (ap (λ l. get_or l 0 0) (back_is ∙ (after_word_front line word rest is).1))

-- ---- the first blank

pub no_split : (fields : List ℕ) → ((k : ℕ) → 0 ≤ k → k < length fields → ¬ (eqb (get_or fields k 0) 32 ≡ true))
    → (field rest : List ℕ) → IsSplit fields field rest → ⊥
no_split fields none field rest is =
    none (length field) (omega arith) (omega (arith, ap length is.whole, length-append field (32 ∷ rest)))
    (ap (λ b. eqb b 32) (ap (λ l. get_or l (length field) 0) is.whole ∙ get_or-append_seam field 32 rest 0))

-- ---- digits

abbrev step : ℕ → ℕ → ℕ
step number digit = number * 10 + (digit - 48)

grows : (digits : List ℕ) (number : ℕ) → number ≤ fold step number digits
grows [] number = omega arith
grows (digit ∷ digits) number = omega (arith, grows digits (number * 10 + (digit - 48)))

pub number_so_far : (field : List ℕ) (i : ℕ) → i < length field
    → written_number (take i field) * 10 + (get_or field i 0 - 48) ≤ written_number field
number_so_far field i inside =
    let whole = sym (ap written_number (take-append-drop (i + 1) field)) ∙ fold-append step 0 (take (i + 1) field) (drop (i + 1) field) in
    omega (arith, fold_more step 0 field i 0 inside, grows (drop (i + 1) field) (written_number (take (i + 1) field)), whole)
