-- HTML that is added step after step.
use Rattle.std.specs.Prelude.{◌≡◌, ℕ, List, ◌++◌, IfSome, Option, None, Some}
use Rattle.std.proofs.Common.{◌∙◌, ap, append_assoc, subst}
use Rattle.markup_text.specs.Growing.{Adds, Grows}

-- a step and the next one are a longer one
pub grows_then : {P Q R : List ℕ → List ℕ → Type 0} (a b c : Option (List ℕ))
    → ((x y z : List ℕ) → P x y → Q y z → R x z) → Grows P a b → Grows Q b c → Grows R a c
grows_then a b None joined p q = tt
grows_then a None (Some z) joined p q = absurd q
grows_then None (Some y) (Some z) joined p q = absurd p
grows_then (Some x) (Some y) (Some z) joined p q = joined x y z p q

pub adds_then : (a b c : Option (List ℕ)) (x y : List ℕ) → Adds x a b → Adds y b c → Adds (x ++ y) a c
adds_then a b c x y p q = grows_then a b c (λ o m n f g. g ∙ ap (λ l. l ++ y) f ∙ append_assoc o x y) p q

pub adds_then2 : (a b c d : Option (List ℕ)) (x y z : List ℕ) → Adds x a b → Adds y b c → Adds z c d
    → Adds (x ++ y ++ z) a d
adds_then2 a b c d x y z p q r = adds_then a c d (x ++ y) z (adds_then a b c x y p q) r

pub none_is_some : {html : List ℕ} → Some html ≡ None → ⊥
none_is_some same = subst (λ o. IfSome o (λ _. ⊥) → ⊥) same (λ f. f) tt
