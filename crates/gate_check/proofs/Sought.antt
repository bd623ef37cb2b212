-- What is looked for in lists, from their first elements on.
use Rattle.std.proofs.Common.{◌≡◌, ◌⊎◌, inl, inr, ℕ, zero, suc, ◌+◌, ◌<◌, List, [], ◌∷◌, ◌++◌, length, get_or, take, flat_map, sym, ap, subst, ◌∙◌, arith}
use Rattle.std.proofs.Common.{Bool, true, false, is_some, Option, None, Some}
use Rattle.std.specs.Prelude.{MatchBool, MatchOption, slice_get, unwrap_or}
use Rattle.std.proofs.lemmas.List.{take_more}
use Rattle.std.proofs.lemmas.Option.{slice_get_within, unwrap_or-slice_get}
use Rattle.std.specs.List.{AllZip}
use Rattle.footer_text.specs.Lines.{IsFooter}
use Rattle.gate_check.specs.Unused.{HasValue, SomeIs}

module _ {X : Type 0} (P : X → Type 0) where
  -- the first isn't so, and the others are left
  pub not_first : (x : X) (xs : List X) → ¬ P x → SomeIs P (x ∷ xs) → SomeIs P xs
  not_first x xs none (inl here) = absurd (none here)
  not_first x xs none (inr later) = later

  pub not_here : (x : X) (rest later : List X) → rest ≡ x ∷ later → ¬ P x → SomeIs P rest → SomeIs P later
  not_here x rest later first none some = not_first x later none (subst (SomeIs P) first some)

  pub is_here : (x : X) (rest later : List X) → rest ≡ x ∷ later → P x → SomeIs P rest
  is_here x rest later first here = subst (SomeIs P) (sym first) (inl here)

  pub is_later : (x : X) (rest later : List X) → rest ≡ x ∷ later → SomeIs P later → SomeIs P rest
  is_later x rest later first some = subst (SomeIs P) (sym first) (inr some)

  pub at_place : (xs : List X) (i : ℕ) (x : X) → i < length xs → x ≡ get_or xs i x → P x → SomeIs P xs
  at_place [] i x within is here = absurd (omega arith)
  at_place (y ∷ xs) zero x within is here = inl (subst P is here)
  at_place (y ∷ xs) (suc i) x within is here = inr (at_place xs i x (omega arith) is here)

  -- of the elements so far none was so, and one more isn't
  pub none_yet : (xs : List X) (x : X) → ¬ SomeIs P xs → ¬ P x → ¬ SomeIs P (xs ++ x ∷ [])
  none_yet [] x before here (inl so) = here so
  none_yet [] x before here (inr more) = more
  none_yet (y ∷ xs) x before here (inl so) = before (inl so)
  none_yet (y ∷ xs) x before here (inr more) = none_yet xs x (λ some. before (inr some)) here more

  pub none_left : (rest : List X) → rest ≡ [] → ¬ SomeIs P rest
  none_left rest none some = subst (SomeIs P) none some

  -- of lists
  pub in_either : (xs ys : List X) → SomeIs P (xs ++ ys) → SomeIs P xs ⊎ SomeIs P ys
  in_either [] ys some = inr some
  in_either (x ∷ xs) ys (inl here) = inl (inl here)
  in_either (x ∷ xs) ys (inr later) = elim (in_either xs ys later) [ inl first ↦ inl (inr first) | inr second ↦ inr second ]

  pub in_first : (xs ys : List X) → SomeIs P xs → SomeIs P (xs ++ ys)
  in_first [] ys some = absurd some
  in_first (x ∷ xs) ys (inl here) = inl here
  in_first (x ∷ xs) ys (inr later) = inr (in_first xs ys later)

  pub in_second : (xs ys : List X) → SomeIs P ys → SomeIs P (xs ++ ys)
  in_second [] ys some = some
  in_second (x ∷ xs) ys some = inr (in_second xs ys some)

  module _ {Z : Type 0} (parts : Z → List X) where
    pub not_in_part : (z : Z) (rest later : List Z) → rest ≡ z ∷ later → ¬ SomeIs P (parts z)
        → SomeIs P (flat_map parts rest) → SomeIs P (flat_map parts later)
    not_in_part z rest later first none some =
        elim (in_either (parts z) (flat_map parts later) (subst (λ l. SomeIs P (flat_map parts l)) first some)) [ inl here ↦ absurd (none here) | inr more ↦ more ]

    pub is_in_part : (z : Z) (rest later : List Z) → rest ≡ z ∷ later → SomeIs P (parts z) → SomeIs P (flat_map parts rest)
    is_in_part z rest later first here =
        subst (λ l. SomeIs P (flat_map parts l)) (sym first) (in_first (parts z) (flat_map parts later) here)

    pub is_in_later : (z : Z) (rest later : List Z) → rest ≡ z ∷ later → SomeIs P (flat_map parts later) → SomeIs P (flat_map parts rest)
    is_in_later z rest later first some =
        subst (λ l. SomeIs P (flat_map parts l)) (sym first) (in_second (parts z) (flat_map parts later) some)

-- ---- what a test says

pub so_if : (P : Type 0) (b : Bool) → b ≡ true → MatchBool b P (¬ P) → P
so_if P true is told = told
so_if P false is told = cc

pub not_if : (P : Type 0) (b : Bool) → b ≡ false → MatchBool b P (¬ P) → ¬ P
not_if P true is told = cc
not_if P false is told = told

-- a line has one value at most
pub line_told : (P : List ℕ → Type 0) (line value : List ℕ) (b : Bool)
    → ((other : List ℕ) → IsFooter line other → other ≡ value) → IsFooter line value
    → MatchBool b (P value) (¬ P value) → MatchBool b (HasValue P line) (¬ HasValue P line)
line_told P line value true one is told = (value, is, told)
line_told P line value false one is told = λ h. told (subst P (one h.0 h.1) h.2)

pub found_told : (R : ℕ → Type 0) (found : Option ℕ) → MatchOption found ((n : ℕ) → ¬ R n) R
    → MatchBool (is_some found) ((n : ℕ) × R n) (¬ ((n : ℕ) × R n))
found_told R None told = λ h. told h.0 h.1
found_told R (Some n) told = (n, told)

pub unused_told : (P Q : Type 0) (elsewhere : Bool) → ¬ P → MatchBool elsewhere Q (¬ Q)
    → MatchBool elsewhere ((¬ P) × Q) (¬ ((¬ P) × Q))
unused_told P Q true none told = (none, told)
unused_told P Q false none told = λ h. told h.1

pub zip_push : {A B : Type 0} (R : A → B → Type 0) (xs : List A) (ys : List B) (x : A) (y : B) → AllZip R xs ys → R x y
    → AllZip R (xs ++ x ∷ []) (ys ++ y ∷ [])
zip_push R [] [] x y all here = (here, tt)
zip_push R [] (z ∷ ys) x y all here = absurd all
zip_push R (z ∷ xs) [] x y all here = absurd all
zip_push R (z ∷ xs) (w ∷ ys) x y all here = (all.0, zip_push R xs ys x y all.1 here)

-- one place more
pub zip_more : {A B : Type 0} (R : A → B → Type 0) (xs : List A) (ys new : List B) (i : ℕ) (x : A) (y : B)
    → slice_get xs i ≡ Some x → new ≡ ys ++ y ∷ [] → AllZip R (take i xs) ys → R x y → AllZip R (take (i + 1) xs) new
zip_more R xs ys new i x y at is all here =
    let within = slice_get_within xs i x at in
    let same = sym (unwrap_or-slice_get xs i x) ∙ ap (λ o. unwrap_or o x) at in
    subst (AllZip R (take (i + 1) xs)) (sym is)
    (subst (λ l. AllZip R l (ys ++ y ∷ [])) (sym (take_more xs i x within ∙ ap (λ z. take i xs ++ z ∷ []) same))
    (zip_push R (take i xs) ys x y all here))
