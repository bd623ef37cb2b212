-- Lists of bytes that are cut at line ends.
use Rattle.std.proofs.Common.{◌≡◌, ◌≢◌, ◌⊎◌, inl, inr, ℕ, ◌≤◌, List, [], ◌∷◌, ◌++◌, length, refl, sym, ap, ◌∙◌, arith}
use Rattle.std.proofs.Common.{append_assoc, append-nil, length-append}
use Rattle.std.specs.List.{AllByRecursion}
use Rattle.std.proofs.lemmas.List.Elements.{All-from_recursion, recursion_from_All}
use Rattle.byte_ends.specs.Lines.{as_line}
use Rattle.line_reader.specs.Lines.{HasNoLf}
use Rattle.site_journal.specs.Prefixes.{IsPrefix}

abbrev pub Plain : List ℕ → Type 0
Plain = AllByRecursion (λ byte. byte ≢ 10)

pub plain_of : (bytes : List ℕ) → HasNoLf bytes → Plain bytes
plain_of bytes h = recursion_from_All (λ byte. byte ≢ 10) bytes h

pub has_none : (bytes : List ℕ) → Plain bytes → HasNoLf bytes
has_none bytes h = All-from_recursion (λ byte. byte ≢ 10) bytes h

pub plain_front : (front rest : List ℕ) → Plain (front ++ rest) → Plain front
plain_front [] rest h = tt
plain_front (x ∷ front) rest h = (h.0, plain_front front rest h.1)

-- a plain piece has no line end in it
pub no_line_end : (front rest : List ℕ) → Plain (as_line front ++ rest) → ⊥
no_line_end [] rest h = h.0 refl
no_line_end (x ∷ front) rest h = no_line_end front rest h.1

-- the first line of a text is one
pub first_line : (p q r s : List ℕ) → Plain p → Plain q → as_line p ++ r ≡ as_line q ++ s → (p ≡ q) × (r ≡ s)
first_line [] [] r s a b e = (refl, cc)
first_line [] (y ∷ q) r s a b e = let same : y ≡ 10 = cc in absurd (b.0 same)
first_line (x ∷ p) [] r s a b e = let same : x ≡ 10 = cc in absurd (a.0 same)
first_line (x ∷ p) (y ∷ q) r s a b e =
    let head : x ≡ y = cc in
    let tail : as_line p ++ r ≡ as_line q ++ s = cc in
    let rest = first_line p q r s a.1 b.1 tail in
    let same = rest.0 in (cc, rest.1)

-- a front of a text ends within its first line, or after it
pub within_line : (q w a b : List ℕ) → Plain q → as_line q ++ w ≡ a ++ b
    → ((c : List ℕ) × (a ≡ as_line q ++ c) × (w ≡ c ++ b)) ⊎ ((c : List ℕ) × (q ≡ a ++ c))
within_line [] w [] b plain e = inr ([], refl)
within_line [] w (x ∷ a) b plain e = inl (a, cc, cc)
within_line (y ∷ q) w [] b plain e = inr (y ∷ q, refl)
within_line (y ∷ q) w (x ∷ a) b plain e =
    let head : y ≡ x = cc in
    let tail : as_line q ++ w ≡ a ++ b = cc in
    elim (within_line q w a b plain.1 tail) [
      | inl found ↦ let is = found.1 in inl (found.0, cc, found.2)
      | inr found ↦ let is = found.1 in inr (found.0, cc)
    ]

-- ---- fronts
pub prefix-refl : (xs : List ℕ) → IsPrefix xs xs
prefix-refl xs = ([], sym (append-nil xs))

pub prefix-trans : (xs ys zs : List ℕ) → IsPrefix xs ys → IsPrefix ys zs → IsPrefix xs zs
prefix-trans xs ys zs a b = (a.0 ++ b.0, b.1 ∙ ap (λ l. l ++ b.0) a.1 ∙ append_assoc xs a.0 b.0)

pub prefix-length : (xs ys : List ℕ) → IsPrefix xs ys → length xs ≤ length ys
prefix-length xs ys a = omega (arith, ap length a.1, length-append xs a.0)

pub same_back : (text a b : List ℕ) → text ++ a ≡ text ++ b → a ≡ b
same_back [] a b e = e
same_back (x ∷ text) a b e = same_back text a b cc
