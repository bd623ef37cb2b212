-- What is marked after marks are put and joined.
use Rattle.std.proofs.Common.{◌≡◌, ◌≢◌, ◌↔◌, ◌⊎◌, inl, inr, ◌*◌, ◌/◌, ◌%◌, ◌<◌, ◌≤◌, ◌^◌, ℕ, zero, suc, List, sym, ◌∙◌}
use Rattle.std.proofs.Common.{ap, subst, length, set, get_or, bit_or, max, arith}
use Rattle.std.specs.Int.{bit_at, w64}
use Rattle.std.proofs.lemmas.Bool.{cases_eq}
use Rattle.std.specs.List.{All, sum_by}
use Rattle.std.proofs.lemmas.List.{get_or_default, get_or-set_same, get_or-set_other}
use Rattle.std.proofs.lemmas.List.Sums.{sum_by-le}
use Rattle.std.proofs.lemmas.Nat.{or_lt}
use Rattle.std.proofs.lemmas.Nat.Bits.{bit_at_or, bit_at_set_same, bit_at_set_other, bit_at-lt}
use Rattle.walk_core.specs.Marks.{HasMark, PutsMark, AreJoined}

one_target : (a b : ℕ) → a / 64 ≡ b / 64 → a % 64 ≡ b % 64 → a ≡ b
one_target a b p q = omega (arith, p, q)

-- a bit is set
module _ (words : List ℕ) (target : ℕ) (within : target / 64 < length words) where
  put : List ℕ
  put = set words (target / 64) (bit_or (get_or words (target / 64) 0) (1 * 2 ^ (target % 64) % 18446744073709551616))

  put_other : (other : ℕ) → other / 64 ≢ target / 64 → get_or put (other / 64) 0 ≡ get_or words (other / 64) 0
  unfolding put
  put_other other differs = get_or-set_other words (target / 64) (other / 64) _ 0 differs

  put_same : get_or put (target / 64) 0
      ≡ bit_or (get_or words (target / 64) 0) (1 * 2 ^ (target % 64) % 18446744073709551616)
  unfolding put
  put_same = get_or-set_same words (target / 64) _ 0 within

  in_word : (other : ℕ) → other / 64 ≡ target / 64 → HasMark put other ↔ (HasMark words other ⊎ (other ≡ target))
  in_word other same =
      let word : get_or put (other / 64) 0 ≡ bit_or (get_or words (target / 64) 0) (1 * 2 ^ (target % 64) % 18446744073709551616) = ap (λ k. get_or put k 0) same ∙ put_same in
      let was : get_or words (other / 64) 0 ≡ get_or words (target / 64) 0 = ap (λ k. get_or words k 0) same in
      elim (cases_eq (other % 64) (target % 64)) [
        | inl bit ↦
            let set_now : bit_at (get_or put (other / 64) 0) (other % 64) ≡ 1 = ap (λ n. bit_at n (other % 64)) word ∙ ap (bit_at (bit_or (get_or words (target / 64) 0) (1 * 2 ^ (target % 64) % 18446744073709551616))) bit ∙ bit_at_set_same w64 (get_or words (target / 64) 0) (target % 64) (omega arith) in
            (λ has. inr (one_target other target same bit), λ has. set_now)
        | inr apart ↦
            let kept : bit_at (get_or put (other / 64) 0) (other % 64) ≡ bit_at (get_or words (other / 64) 0) (other % 64) = ap (λ n. bit_at n (other % 64)) word ∙ bit_at_set_other w64 (get_or words (target / 64) 0) (target % 64) (omega arith) (other % 64) apart ∙ ap (λ n. bit_at n (other % 64)) (sym was) in
            (λ has. inl (sym kept ∙ has), λ has. elim has [ inl old ↦ kept ∙ old | inr is ↦ absurd (apart (ap (λ n. n % 64) is)) ])
      ]

  pub PutsMark-set : PutsMark target words
      (set words (target / 64) (bit_or (get_or words (target / 64) 0) (1 * 2 ^ (target % 64) % 18446744073709551616)))
  unfolding put
  PutsMark-set other = elim (cases_eq (other / 64) (target / 64)) [
    | inl same ↦ in_word other same
    | inr differs ↦
        let kept = ap (λ n. bit_at n (other % 64)) (put_other other differs) in
        (λ has. inl (sym kept ∙ has), λ has. elim has [ inl old ↦ kept ∙ old | inr is ↦ absurd (differs (ap (λ n. n / 64) is)) ])
  ]

-- ---- marks of both

either_bit : (a b : ℕ) → a < 2 → b < 2 → max a b ≡ 1 → (a ≡ 1) ⊎ (b ≡ 1)
either_bit zero b p q e = inr (omega (arith, e))
either_bit (suc a) b p q e = inl (omega (arith, p))

module _ (a b both : List ℕ) (joined : AreJoined a b both) (target : ℕ) where
  bit_of : bit_at (get_or both (target / 64) 0) (target % 64)
      ≡ max (bit_at (get_or a (target / 64) 0) (target % 64)) (bit_at (get_or b (target / 64) 0) (target % 64))
  bit_of = ap (λ n. bit_at n (target % 64)) (joined.each (target / 64))
      ∙ bit_at_or (get_or a (target / 64) 0) (get_or b (target / 64) 0) (target % 64)

  pub HasMark-joined : HasMark both target → HasMark a target ⊎ HasMark b target
  HasMark-joined has = either_bit _ _ (bit_at-lt (get_or a (target / 64) 0) (target % 64))
      (bit_at-lt (get_or b (target / 64) 0) (target % 64)) (sym bit_of ∙ has)

  pub joined_left : HasMark a target → HasMark both target
  joined_left has = omega (arith, bit_of, has, bit_at-lt (get_or b (target / 64) 0) (target % 64))

  pub joined_right : HasMark b target → HasMark both target
  joined_right has = omega (arith, bit_of, has, bit_at-lt (get_or a (target / 64) 0) (target % 64))

-- words of 64 bits
pub words_in_range : (words : List ℕ) → length words ≡ 8 → ((k : ℕ) → get_or words k 0 < 2 ^ 64)
    → sum_by (λ word. word) words ≤ 8 * 2 ^ 64
words_in_range words size fits =
    let each : All (λ word. word ≤ 2 ^ 64) words = λ k d within. let fit = fits k in let same = get_or_default words k 0 d within in omega (arith, fit, same) in
    let bound = sum_by-le (λ word. word) (2 ^ 64) words each in
    omega (arith, bound, size)

pub bit_in_range : (words : List ℕ) (target : ℕ) → target / 64 < length words → ((k : ℕ) → get_or words k 0 < 2 ^ 64)
    → (k : ℕ) → get_or (set words (target / 64) (bit_or (get_or words (target / 64) 0) (1 * 2 ^ (target % 64) % 18446744073709551616))) k 0 < 2 ^ 64
bit_in_range words target within fits k = elim (cases_eq k (target / 64)) [
  | inl same ↦ subst (λ word. word < 2 ^ 64) (sym (ap (λ j. get_or (set words (target / 64) (bit_or (get_or words (target / 64) 0) (1 * 2 ^ (target % 64) % 18446744073709551616))) j 0) same ∙ get_or-set_same words (target / 64) _ 0 within))
      (or_lt 64 (get_or words (target / 64) 0) (1 * 2 ^ (target % 64) % 18446744073709551616) (fits (target / 64)) (omega arith))
  | inr other ↦ subst (λ word. word < 2 ^ 64) (sym (get_or-set_other words (target / 64) k _ 0 other)) (fits k)
]
