-- What the pieces of a text are at its first LF.
use Rattle.std.proofs.Common.{◌≡◌, ℕ, zero, suc, ◌+◌, Bool, false, ◌<◌, ◌≤◌, true, cond, eqb, List, [], ◌∷◌, length}
use Rattle.std.proofs.Common.{take, drop, get_or, ap, ◌∙◌, arith}
use Rattle.std.proofs.lemmas.List.{length-map}
use Rattle.std.proofs.lemmas.Bool.{false_from_ne_true}
use Rattle.byte_ends.specs.Lines.{lines_of, pieces_of, put_before, without_cr}

not_lf : (b : ℕ) (text : List ℕ) → ¬ (eqb b 10 ≡ true) → pieces_of (b ∷ text) ≡ put_before b (pieces_of text)
not_lf b text e = ap (λ t. cond t ([] ∷ pieces_of text) (put_before b (pieces_of text))) (false_from_ne_true _ e)

-- a text with no LF is one piece
pub pieces_of-none : (text : List ℕ) → 0 < length text
    → ((k : ℕ) → 0 ≤ k → k < length text → ¬ (eqb (get_or text k 0) 10 ≡ true)) → pieces_of text ≡ text ∷ []
pieces_of-none [] l h = absurd (omega arith)
pieces_of-none (b ∷ []) l h = not_lf b [] (h 0 (omega arith) (omega arith))
pieces_of-none (b ∷ c ∷ text) l h =
    not_lf b (c ∷ text) (h 0 (omega arith) (omega arith))
    ∙ ap (put_before b) (pieces_of-none (c ∷ text) (omega arith) (λ k m n. h (suc k) (omega arith) (omega arith)))

-- the first LF ends the first piece
pub pieces_of-first : (text : List ℕ) (at : ℕ) → at < length text → eqb (get_or text at 0) 10 ≡ true
    → ((k : ℕ) → 0 ≤ k → k < at → ¬ (eqb (get_or text k 0) 10 ≡ true))
    → pieces_of text ≡ take at text ∷ pieces_of (drop (suc at) text)
pieces_of-first [] at l e h = absurd (omega arith)
pieces_of-first (b ∷ text) zero l e h = ap (λ t. cond t ([] ∷ pieces_of text) (put_before b (pieces_of text))) e
pieces_of-first (b ∷ text) (suc at) l e h =
    not_lf b text (h 0 (omega arith) (omega arith))
    ∙ ap (put_before b) (pieces_of-first text at (omega arith) e (λ k m n. h (suc k) (omega arith) (omega arith)))

length-put_before : (byte : ℕ) (pieces : List (List ℕ)) → length (put_before byte pieces) ≤ length pieces + 1
length-put_before byte [] = omega arith
length-put_before byte (piece ∷ pieces) = omega arith

no_more_pieces : (test : Bool) (byte : ℕ) (pieces : List (List ℕ)) (n : ℕ) → length pieces ≤ n
    → length (cond test ([] ∷ pieces) (put_before byte pieces)) ≤ suc n
no_more_pieces true byte pieces n h = omega arith
no_more_pieces false byte pieces n h = omega (arith, length-put_before byte pieces)

-- there are no more lines than bytes
length-pieces_of : (text : List ℕ) → length (pieces_of text) ≤ length text
length-pieces_of [] = omega arith
length-pieces_of (byte ∷ text) =
    no_more_pieces (eqb byte 10) byte (pieces_of text) (length text) (length-pieces_of text)

pub length-lines_of : (text : List ℕ) → length (lines_of text) ≤ length text
length-lines_of text = omega (arith, length-map (pieces_of text) without_cr, length-pieces_of text)
