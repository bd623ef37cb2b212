-- Tokens and texts that are added one after another.
use Rattle.std.proofs.Common.{◌≡◌, ◌∙◌, ◌+◌, ◌<◌, ℕ, List, [], ◌++◌, flat_map, length, take, get_or, ap, append_assoc}
use Rattle.std.proofs.Common.{append-nil, subst, sym}
use Rattle.std.specs.Prelude.{IfSome, Option, None, Some}
use Rattle.json.specs.Print.{print}
use Rattle.json.specs.Token.{Token}
use Rattle.json.specs.Written.{Written}
use Rattle.json_line.specs.Adding.{flat_more, all_written}
use Rattle.json_line.specs.Tokens.{AddsTokens}
use Rattle.markup_text.specs.Adding.{adds_then, adds_then2}
use Rattle.markup_text.specs.Growing.{Adds}

-- what a writer gives that began with nothing
pub finished : {a b : Written} {xs : List Token} {text : List ℕ} → a.before ≡ [] → a.tokens ≡ [] → AddsTokens a b xs
    → text ≡ b.before ++ print b.tokens → text ≡ print xs
finished {a} {b} {xs} before tokens p is =
    is ∙ ap (λ l. l ++ print b.tokens) (p.before ∙ before) ∙ ap print (all_written tokens p)

-- ---- texts
pub then2 : (a b c x y : List ℕ) → b ≡ a ++ x → c ≡ b ++ y → c ≡ a ++ (x ++ y)
then2 a b c x y p q = q ∙ ap (λ l. l ++ y) p ∙ append_assoc a x y

-- ---- texts for which memory may have been refused
pub adds_then3 : (a b c d e : Option (List ℕ)) (x y z w : List ℕ) → Adds x a b → Adds y b c → Adds z c d → Adds w d e
    → Adds (x ++ y ++ z ++ w) a e
adds_then3 a b c d e x y z w p q r s =
    adds_then a d e (x ++ y ++ z) w (adds_then2 a b c d x y z p q r) s

-- no text
pub adds_none : (a : Option (List ℕ)) → Adds [] a a
adds_none None = tt
adds_none (Some text) = sym (append-nil text)

-- the text of the same thing
pub adds_of : {X : Type 0} (a b : Option (List ℕ)) (f : X → List ℕ) {x y : X} → x ≡ y → Adds (f x) a b → Adds (f y) a b
adds_of a b f e p = subst (λ v. Adds (f v) a b) e p

-- a list's texts so far, and one more
pub adds_more : {X : Type 0} (f : X → List ℕ) (xs : List X) (i : ℕ) (d : X) (a b c : Option (List ℕ)) → i < length xs
    → Adds (flat_map f (take i xs)) a b → Adds (f (get_or xs i d)) b c → Adds (flat_map f (take (i + 1) xs)) a c
adds_more f xs i d a b c inside p q =
    subst (λ text. Adds text a c) (flat_more f xs i d inside)
    (adds_then a b c (flat_map f (take i xs)) (f (get_or xs i d)) p q)

-- where the next one is an item of the list
pub adds_item : {X : Type 0} (f : X → List ℕ) (xs : List X) (i : ℕ) (x : X) (a b c : Option (List ℕ)) → i < length xs
    → x ≡ get_or xs i x → Adds (flat_map f (take i xs)) a b → Adds (f x) b c → Adds (flat_map f (take (i + 1) xs)) a c
adds_item f xs i x a b c inside same p q = adds_more f xs i x a b c inside p (adds_of b c f same q)

-- what a text is that began with nothing
pub adds_all : (a b : Option (List ℕ)) (x text : List ℕ) → a ≡ Some [] → Adds x a b → b ≡ Some text → text ≡ x
adds_all a b x text begun p ended =
    subst (λ (o : Option (List ℕ)). IfSome o (λ t. t ≡ x)) ended (whole b p') where
      p' : Adds x (Some []) b
      p' = subst (λ o. Adds x o b) begun p

      whole : (o : Option (List ℕ)) → Adds x (Some []) o → IfSome o (λ t. t ≡ x)
      whole None added = tt
      whole (Some t) added = added
