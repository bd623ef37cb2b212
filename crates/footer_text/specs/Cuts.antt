-- What is known of a list that is cut at a number.
use Rattle.std.proofs.Common.{◌≡◌, ℕ, ◌<◌, ◌≢◌, suc, length, get_or, true, List, [], ◌∷◌, ◌++◌, refl, arith}
use Rattle.std.specs.List.{AllByRecursion}
use Rattle.std.specs.Str.{all_ascii_digits}
use Rattle.std.proofs.lemmas.Str.Parse.{tells_all_ascii_digits}

abbrev pub Lacks : ℕ → List ℕ → Type 0
Lacks c xs = AllByRecursion (λ b. b ≢ c) xs

pub Lacks-append : (c : ℕ) (xs ys : List ℕ) → Lacks c xs → Lacks c ys → Lacks c (xs ++ ys)
Lacks-append c [] ys p q = q
Lacks-append c (x ∷ xs) ys p q = (p.0, Lacks-append c xs ys p.1 q)

pub Lacks-middle : (c : ℕ) (xs ys : List ℕ) → Lacks c (xs ++ c ∷ ys) → ⊥
Lacks-middle c [] ys p = p.0 refl
Lacks-middle c (x ∷ xs) ys p = Lacks-middle c xs ys p.1

-- the first c is one place
pub cut_first : (c : ℕ) (a x b y : List ℕ) → a ++ c ∷ x ≡ b ++ c ∷ y → Lacks c a → Lacks c b → (a ≡ b) × (x ≡ y)
cut_first c [] x [] y e p q = (refl, cc)
cut_first c [] x (d ∷ b) y e p q = absurd (q.0 cc)
cut_first c (d ∷ a) x [] y e p q = absurd (p.0 cc)
cut_first c (d ∷ a) x (f ∷ b) y e p q =
    let tail : a ++ c ∷ x ≡ b ++ c ∷ y = cc in
    let rest = cut_first c a x b y tail p.1 q.1 in
    (cc, rest.1)

-- so is the last
pub cut_last : (c : ℕ) (a x b y : List ℕ) → a ++ c ∷ x ≡ b ++ c ∷ y → Lacks c x → Lacks c y → (a ≡ b) × (x ≡ y)
cut_last c [] x [] y e p q = (refl, cc)
cut_last c [] x (d ∷ b) y e p q = let tail : x ≡ b ++ c ∷ y = cc in absurd (Lacks-middle c b y (rw tail at p))
cut_last c (d ∷ a) x [] y e p q = let tail : y ≡ a ++ c ∷ x = cc in absurd (Lacks-middle c a x (rw tail at q))
cut_last c (d ∷ a) x (f ∷ b) y e p q =
    let tail : a ++ c ∷ x ≡ b ++ c ∷ y = cc in
    let rest = cut_last c a x b y tail p q in
    (cc, rest.1)

-- a list before its last number is one
pub same_front : (c : ℕ) (a b : List ℕ) → a ++ c ∷ [] ≡ b ++ c ∷ [] → a ≡ b
same_front c a b e = (cut_last c a [] b [] e tt tt).0

-- digits hold nothing below 48, as `+` and `/`
pub digits_lack : (c : ℕ) (digits : List ℕ) → c < 48 → all_ascii_digits digits ≡ true → Lacks c digits
digits_lack c [] low p = tt
digits_lack c (d ∷ ds) low p =
    let parts = tells_all_ascii_digits.parts d ds p in
    let range = parts.0 in
    (λ e. omega arith, digits_lack c ds low parts.1)

pub Lacks-by_index : (c : ℕ) (xs : List ℕ) → ((i : ℕ) → i < length xs → get_or xs i 0 ≢ c) → Lacks c xs
Lacks-by_index c [] h = tt
Lacks-by_index c (x ∷ xs) h = (h 0 (omega arith), Lacks-by_index c xs (λ i l. h (suc i) (omega arith)))
