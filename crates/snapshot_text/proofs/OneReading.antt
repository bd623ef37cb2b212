-- Lines say one list of operations at most: an object has one value, and a value one stamp and one deed.
use Rattle.std.proofs.Common.{◌≡◌, ℕ, List, [], ◌∷◌, ◌++◌, refl, ap, ◌∙◌, subst}
use Rattle.review_ops.specs.Operation.{Operation}
use Rattle.op_text.specs.OneSpelling.{one_operation}
use Rattle.snapshot_text.specs.Snapshot.{AreOperationLines, SaysOperations}

lines_say_once : (lines : List (List ℕ)) (ops others : List Operation) → AreOperationLines lines ops
    → AreOperationLines lines others → ops ≡ others
lines_say_once [] [] [] p q = refl
lines_say_once [] [] (o ∷ others) p q = absurd q
lines_say_once [] (op ∷ ops) others p q = absurd p
lines_say_once (text ∷ lines) [] others p q = absurd p
lines_say_once (text ∷ lines) (op ∷ ops) [] p q = absurd q
lines_say_once (text ∷ lines) (op ∷ ops) (o ∷ others) p q =
    ap (λ x. x ∷ ops) (one_operation text op o p.0.spells q.0.spells)
    ∙ ap (λ l. o ∷ l) (lines_say_once lines ops others p.1 q.1)

none_before : (fronts : List (List ℕ)) (last : List ℕ) → [] ≡ fronts ++ last ∷ [] → ⊥
none_before [] last e = cc
none_before (l ∷ fronts) last e = cc

same_fronts : (xs ys : List (List ℕ)) (x y : List ℕ) → xs ++ x ∷ [] ≡ ys ++ y ∷ [] → xs ≡ ys
same_fronts [] [] x y e = refl
same_fronts [] (l ∷ ys) x y e = let left : [] ≡ ys ++ y ∷ [] = cc in absurd (none_before ys y left)
same_fronts (l ∷ xs) [] x y e = let left : [] ≡ xs ++ x ∷ [] = cc in absurd (none_before xs x left)
same_fronts (l ∷ xs) (m ∷ ys) x y e =
    let left : xs ++ x ∷ [] ≡ ys ++ y ∷ [] = cc in
    let first : l ≡ m = cc in
    ap (λ k. k ∷ xs) first ∙ ap (λ ks. m ∷ ks) (same_fronts xs ys x y left)

pub one_reading : (lines : List (List ℕ)) (ops others : List Operation) → SaysOperations lines ops
    → SaysOperations lines others → ops ≡ others
one_reading lines ops others p q =
    let whole : p.1.front ++ p.0 ∷ [] ≡ q.1.front ++ q.0 ∷ [] = cc (p.1.form, q.1.form) in
    let front : p.1.front ≡ q.1.front = same_fronts p.1.front q.1.front p.0 q.0 whole in
    lines_say_once q.1.front ops others (subst (λ f. AreOperationLines f ops) front p.1.operations) q.1.operations
