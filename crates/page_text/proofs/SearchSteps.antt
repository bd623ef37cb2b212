-- Words in a text, where a needle is in a haystack.
use Rattle.std.proofs.Common.{◌≡◌, ◌∙◌, ◌≤◌, ℕ, zero, suc, List, [], ◌∷◌, true, false, length, take, drop}
use Rattle.std.proofs.Common.{ap, sym, arith, length-drop, ⊎_elim}
use Rattle.std.specs.Prelude.{◌||◌, Option, None, Some, is_some}
use Rattle.std.proofs.Math.Bool.{or-true}
use Rattle.std.proofs.lemmas.Bool.{cases_Bool}
use Rattle.std.proofs.lemmas.List.{length-take}
use Rattle.std.proofs.lemmas.Slice.Eq.{bytes_eq-Decides}
use Rattle.memchr.specs.Find.{FindsNeedle, OccursAt}
use Rattle.memchr.proofs.lemmas.MatchLemmas.{OccursAt-from_part, OccursAt-part}
use Rattle.page_text.specs.Search.{begins, contains}

-- what is left of the text from a place on begins with the words where these occur there
begun : (words text : List ℕ) (k : ℕ) → OccursAt text words k → begins words (drop k text) ≡ true
begun words text k occurs =
    (bytes_eq-Decides (take (length words) (drop k text)) words).1 (OccursAt-part text words k occurs)

occurs : (words text : List ℕ) (k : ℕ) → k ≤ length text → begins words (drop k text) ≡ true → OccursAt text words k
occurs words text k inside is =
    let part : take (length words) (drop k text) ≡ words
    = (bytes_eq-Decides (take (length words) (drop k text)) words).0 is in
    OccursAt-from_part text words k
    (omega (arith, ap length part, length-take (length words) (drop k text), length-drop k text)) part

not_begun : (words text : List ℕ) (k : ℕ) → k ≤ length text → ¬ OccursAt text words k
    → begins words (drop k text) ≡ false
not_begun words text k inside absent =
    ⊎_elim (λ is. absurd (absent (occurs words text k inside is))) (λ is_not. is_not)
    (cases_Bool (begins words (drop k text)))

found_at : (words text : List ℕ) (k : ℕ) → k ≤ length text → begins words (drop k text) ≡ true
    → contains words text ≡ true
found_at words [] zero inside is = is
found_at words [] (suc k) inside is = absurd (omega arith)
found_at words (byte ∷ bytes) zero inside is = ap (λ t. t || contains words bytes) is
found_at words (byte ∷ bytes) (suc k) inside is =
    ap (λ t. begins words (byte ∷ bytes) || t) (found_at words bytes k (omega arith) is)
    ∙ or-true (begins words (byte ∷ bytes))

found_nowhere : (words text : List ℕ) → ((k : ℕ) → k ≤ length text → begins words (drop k text) ≡ false)
    → contains words text ≡ false
found_nowhere words [] absent = absent 0 (omega arith)
found_nowhere words (byte ∷ bytes) absent =
    ap (λ t. t || contains words bytes) (absent 0 (omega arith))
    ∙ found_nowhere words bytes (λ k inside. absent (suc k) (omega arith))

pub found : (words text : List ℕ) (place : Option ℕ) → FindsNeedle text words 0 place
    → is_some place ≡ contains words text
found words text None absent =
    sym (found_nowhere words text (λ k inside. not_begun words text k inside (absent k (omega arith) (omega arith))))
found words text (Some k) first =
    sym (found_at words text k (omega (arith, first.1.fits)) (begun words text k first.1))
