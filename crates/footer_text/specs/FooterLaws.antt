-- A message has one list of needs and one of ignored values.
use Rattle.std.specs.Prelude.{◌≡◌, ◌<◌, ℕ, ◌⊎◌, ◌↔◌, zero, suc, List, [], ◌∷◌, length, get_or, AllPairs, Contains}
use Rattle.std.proofs.Common.{refl, sym, ap, ◌∙◌, subst, inl, inr, arith}
use Rattle.std.specs.List.Sorted.{IsStrictlyIncreasing}
use Rattle.std.proofs.lemmas.List.Kept.{AllPairs-from_increasing}
use Rattle.footer_text.specs.Lines.{lines_of}
use Rattle.footer_text.specs.LineLaws.{IsFooter-same}
use Rattle.footer_text.specs.Footers.{LineIgnores, Gives, AreFooters}

-- where R gives one y at most, the xs determine the ys
Gives-same : {X Y : Type 0} (R : X → Y → Type 0) → ((x : X) (y z : Y) → R x y → R x z → y ≡ z)
    → (xs : List X) (ys zs : List Y) → Gives R xs ys → Gives R xs zs → ys ≡ zs
Gives-same R one [] ys zs p q = p ∙ sym q
Gives-same {X} {Y} R one (x ∷ xs) ys zs p q =
    elim p [
      | inl a ↦ elim q [
        | inl b ↦
            let heads = one x a.0 b.0 a.3 b.3 in
            let tails = Gives-same R one xs a.1 b.1 a.4 b.4 in
            a.2 ∙ ap (λ y. y ∷ a.1) heads ∙ ap (λ l. b.0 ∷ l) tails ∙ sym b.2
        | inr b ↦ absurd (b.0 a.0 a.3)
      ]
      | inr a ↦ elim q [
        | inl b ↦ absurd (a.0 b.0 b.3)
        | inr b ↦ Gives-same R one xs ys zs a.1 b.1
      ]
    ]

pub ignored_same : (bases : List (List ℕ)) (own : ℕ) (lines : List (List ℕ)) (ys zs : List (List ℕ))
    → Gives (LineIgnores bases own) lines ys → Gives (LineIgnores bases own) lines zs → ys ≡ zs
ignored_same bases own = Gives-same (LineIgnores bases own) (λ line v w p q. IsFooter-same line v w p.0 q.0)

-- ---- the needs

abbrev Ordered : List ℕ → Type 0
Ordered xs = AllPairs (λ x y. x < y) xs

contains_cases : (x : ℕ) (xs : List ℕ) (n : ℕ) → Contains (x ∷ xs) n → (x ≡ n) ⊎ Contains xs n
contains_cases x xs n c = by_place c.0 c.1 c.2 where
  by_place : (k : ℕ) → k < length (x ∷ xs) → get_or (x ∷ xs) k n ≡ n → (x ≡ n) ⊎ Contains xs n
  by_place zero l e = inl e
  by_place (suc k) l e = inr (k, omega arith, e)

contains_first : (x : ℕ) (xs : List ℕ) → Contains (x ∷ xs) x
contains_first x xs = (0, omega arith, refl)

contains_rest : (x : ℕ) (xs : List ℕ) (n : ℕ) → Contains xs n → Contains (x ∷ xs) n
contains_rest x xs n c = (suc c.0, let l = c.1 in omega arith, c.2)

first_is_least : (x : ℕ) (xs : List ℕ) (n : ℕ) → Ordered (x ∷ xs) → Contains xs n → x < n
first_is_least x xs n h c = let l = c.1 in subst (λ y. x < y) c.2 (h 0 (suc c.0) n (omega arith) (omega arith))

ordered_rest : (x : ℕ) (xs : List ℕ) → Ordered (x ∷ xs) → Ordered xs
ordered_rest x xs h i j d below inside = h (suc i) (suc j) d (omega arith) (omega arith)

-- both begin with the least
same_first : (x : ℕ) (xs : List ℕ) (y : ℕ) (ys : List ℕ) → Ordered (x ∷ xs) → Ordered (y ∷ ys) → Contains (y ∷ ys) x
    → Contains (x ∷ xs) y → x ≡ y
same_first x xs y ys p q to from =
    elim (contains_cases y ys x to) [
      | inl same ↦ sym same
      | inr later ↦ elim (contains_cases x xs y from) [
        | inl same ↦ same
        | inr later' ↦ let above = first_is_least y ys x q later in let below = first_is_least x xs y p later' in absurd
            (omega arith)
      ]
    ]

rest_contains : (x : ℕ) (xs : List ℕ) (y : ℕ) (ys : List ℕ) → x ≡ y → Ordered (x ∷ xs)
    → ((n : ℕ) → Contains (x ∷ xs) n → Contains (y ∷ ys) n) → (n : ℕ) → Contains xs n → Contains ys n
rest_contains x xs y ys same p to n c =
    elim (contains_cases y ys n (to n (contains_rest x xs n c))) [
      | inl first ↦ let above = first_is_least x xs n p c in absurd (omega arith)
      | inr later ↦ later
    ]

ordered_same : (xs ys : List ℕ) → Ordered xs → Ordered ys → ((n : ℕ) → Contains xs n → Contains ys n)
    → ((n : ℕ) → Contains ys n → Contains xs n) → xs ≡ ys
ordered_same [] [] p q to from = refl
ordered_same [] (y ∷ ys) p q to from = let c = from y (contains_first y ys) in let l = c.1 in absurd (omega arith)
ordered_same (x ∷ xs) [] p q to from = let c = to x (contains_first x xs) in let l = c.1 in absurd (omega arith)
ordered_same (x ∷ xs) (y ∷ ys) p q to from =
    let first = same_first x xs y ys p q (to x (contains_first x xs)) (from y (contains_first y ys)) in
    let rest = ordered_same xs ys (ordered_rest x xs p) (ordered_rest y ys q) (rest_contains x xs y ys first p to) (rest_contains y ys x xs (sym first) q from) in
    ap (λ z. z ∷ xs) first ∙ ap (λ l. y ∷ l) rest

-- numbers in order, each once, are determined by which they are
pub increasing_same : (xs ys : List ℕ) → IsStrictlyIncreasing xs → IsStrictlyIncreasing ys
    → ((n : ℕ) → Contains xs n ↔ Contains ys n) → xs ≡ ys
increasing_same xs ys p q same = ordered_same xs ys (AllPairs-from_increasing xs p) (AllPairs-from_increasing ys q)
    (λ n c. (same n).0 c) (λ n c. (same n).1 c)

-- a message has one list of needs and one of ignored values
pub AreFooters-same : (bases : List (List ℕ)) (own : ℕ) (message needs needs' : List ℕ)
    (ignored ignored' : List (List ℕ))
    → AreFooters bases own message needs ignored → AreFooters bases own message needs' ignored'
    → (needs ≡ needs') × (ignored ≡ ignored')
AreFooters-same bases own message needs needs' ignored ignored' a b = (
  increasing_same needs needs' a.increasing b.increasing
      (λ n. (λ c. (b.needed n).1 ((a.needed n).0 c), λ c. (a.needed n).1 ((b.needed n).0 c))),
  ignored_same bases own (lines_of message) ignored ignored' a.others b.others,
)
