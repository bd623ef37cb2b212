-- Words that are added one after the other, with what stands between them.
use Rattle.std.proofs.Common.{◌≡◌, ◌∙◌, ◌+◌, ◌<◌, ◌≤◌, ℕ, suc, List, [], ◌∷◌, ◌++◌, Option, drop, get_or, length, map}
use Rattle.std.proofs.Common.{append_assoc, append-nil, ap, arith, drop-cons, refl, subst, sym}
use Rattle.std.proofs.lemmas.List.{drop_all}
use Rattle.markup_text.specs.Adding.{adds_then}
use Rattle.markup_text.specs.Growing.{Adds}
use Rattle.page_text.specs.Wanted.{separated}
use Rattle.page_text.proofs.Adding.{adds_none}

-- this was added so far, and with those that are left it will be all
pub record SaidSoFar {X : Type 0} (f : X → List ℕ) (next : List ℕ) (xs : List X) (index : ℕ) (before all : List ℕ)
    (old new : Option (List ℕ)) : Type 0 where
  pub done : List ℕ
  pub added : Adds done old new
  pub left : done ++ separated before next (map f (drop index xs)) ≡ all

pub nothing_said : {X : Type 0} (f : X → List ℕ) (first next : List ℕ) (xs : List X) (page : Option (List ℕ))
    → SaidSoFar f next xs 0 first (separated first next (map f xs)) page page
nothing_said f first next xs page = record { done = []; added = adds_none page; left = refl }

next_dropped : {X : Type 0} (xs : List X) (i : ℕ) (d x : X) → i < length xs → x ≡ get_or xs i d
    → drop i xs ≡ x ∷ drop (i + 1) xs
next_dropped xs i d x inside same =
    drop-cons xs i d inside ∙ ap (λ y. y ∷ drop (suc i) xs) (sym same)
    ∙ ap (λ n. x ∷ drop n xs) (let e : suc i ≡ i + 1 = omega arith in e)

pub one_said : {X : Type 0} (f : X → List ℕ) (next : List ℕ) (xs : List X) (i : ℕ) (d x : X) (before all said : List ℕ)
    (a b c : Option (List ℕ)) → i < length xs → x ≡ get_or xs i d → SaidSoFar f next xs i before all a b
    → said ≡ before ++ f x → Adds said b c → SaidSoFar f next xs (i + 1) next all a c
one_said f next xs i d x before all said a b c inside same so_far is added =
    let rest = separated next next (map f (drop (i + 1) xs)) in
    let left = ap (λ l. so_far.done ++ separated before next (map f l)) (sym (next_dropped xs i d x inside same)) in
    record {
      done = so_far.done ++ said;
      added = adds_then a b c so_far.done said so_far.added added;
      left = ap (λ l. (so_far.done ++ l) ++ rest) is ∙ append_assoc so_far.done (before ++ f x) rest ∙ left ∙ so_far.left;
    }

pub all_said : {X : Type 0} (f : X → List ℕ) (next : List ℕ) (xs : List X) (i : ℕ) (before all : List ℕ)
    (a b : Option (List ℕ)) → length xs ≤ i → SaidSoFar f next xs i before all a b → Adds all a b
all_said f next xs i before all a b past so_far =
    let none = drop_all i xs past in
    let whole = sym (append-nil so_far.done) ∙ ap (λ l. so_far.done ++ separated before next (map f l)) (sym none) ∙ so_far.left in
    subst (λ text. Adds text a b) whole so_far.added

pub map_twice : {X Y Z : Type 0} (f : Y → Z) (g : X → Y) (xs : List X) → map f (map g xs) ≡ map (λ x. f (g x)) xs
map_twice f g [] = refl
map_twice f g (x ∷ xs) = ap (λ l. f (g x) ∷ l) (map_twice f g xs)
