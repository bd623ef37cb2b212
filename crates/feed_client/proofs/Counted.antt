-- Lists of one word and of two, as they are looked at.
use Rattle.std.proofs.Common.{◌≡◌, ◌∷◌, [], ℕ, List, map, length, get_or, sym, ap, arith}

pub one_listed : {X : Type 0} (f : X → List ℕ) (words : List X) (word : X) → length words ≡ 1
    → word ≡ get_or words 0 word → map f words ≡ f word ∷ []
one_listed f [] word long is = absurd (omega (arith, long))
one_listed f (x ∷ []) word long is = ap (λ t. f t ∷ []) (sym is)
one_listed f (x ∷ y ∷ rest) word long is = absurd (omega (arith, long))
