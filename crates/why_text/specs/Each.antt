-- A text of each, or its tokens, one after the other.
use Rattle.std.proofs.Common.{◌≡◌, ◌∙◌, ◌+◌, ◌<◌, ℕ, List, [], ◌∷◌, ◌++◌, length, take, get_or, sym, ap, refl, subst}
use Rattle.std.proofs.Common.{append-nil, append_assoc}
use Rattle.std.proofs.lemmas.List.{take_more}
use Rattle.why_text.specs.All.{WritesEach}

module _ {X Y : Type 0} (Writes : X → List Y → Type 0) where
  pub each_push : (xs : List X) (text : List Y) (x : X) (more : List Y) → WritesEach Writes xs text → Writes x more
      → WritesEach Writes (xs ++ x ∷ []) (text ++ more)
  each_push [] text x more none writes =
      (more, [], writes, refl, ap (λ (l : List Y). l ++ more) none ∙ sym (append-nil more))
  each_push (y ∷ xs) text x more written writes =
      let first = written.0 in
      let rest = written.1 in (
        first,
        rest ++ more,
        written.2,
        each_push xs rest x more written.3 writes,
        ap (λ (l : List Y). l ++ more) written.4 ∙ append_assoc first rest more,
      )

  -- one more of a list
  pub each_more : (xs : List X) (i : ℕ) (x : X) (text more new : List Y) → i < length xs → x ≡ get_or xs i x
      → WritesEach Writes (take i xs) text → Writes x more → new ≡ text ++ more
      → WritesEach Writes (take (i + 1) xs) new
  each_more xs i x text more new inside is written writes grown =
      subst (WritesEach Writes (take (i + 1) xs)) (sym grown)
      (subst (λ (l : List X). WritesEach Writes l (text ++ more)) (ap (λ (z : X). take i xs ++ z ∷ []) is ∙ sym (take_more xs i x inside))
      (each_push (take i xs) text x more written writes))
