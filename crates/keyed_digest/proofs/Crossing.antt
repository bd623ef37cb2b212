-- Crossing bytes and joining differences.
use Rattle.std.proofs.Common.{◌≡◌, ◌↔◌, ℕ, ◌<◌, ◌+◌, sym, ◌∙◌, ap, arith, max, List, get_or, below_more, bit_or, bit_xor}
use Rattle.std.specs.Int.Bits.{xor_assoc, xor_self, xor_zero_l, xor_zero_r, or_zero_l}
use Rattle.std.specs.Int.{bit_at}
use Rattle.std.proofs.lemmas.Nat.Bits.{bit_at_or, bit_at-zero, same_from_bits}

-- what is crossed twice is as it was
pub crossed_back : (a b : ℕ) → bit_xor (bit_xor a b) b ≡ a
crossed_back a b = xor_assoc a b b ∙ ap (bit_xor a) (xor_self b) ∙ xor_zero_r a

pub nothing_crossed : (a b : ℕ) → bit_xor a b ≡ 0 → a ≡ b
nothing_crossed a b e = sym (crossed_back a b) ∙ ap (λ n. bit_xor n b) e ∙ xor_zero_l b

neither_bit : (a b : ℕ) → bit_or a b ≡ 0 → (i : ℕ) → (bit_at a i ≡ 0) × (bit_at b i ≡ 0)
neither_bit a b e i =
    let joined : max (bit_at a i) (bit_at b i) ≡ 0 = sym (bit_at_or a b i) ∙ ap (λ n. bit_at n i) e ∙ bit_at-zero i in
    (omega (arith, joined), omega (arith, joined))

pub neither : (a b : ℕ) → bit_or a b ≡ 0 → (a ≡ 0) × (b ≡ 0)
neither a b e = (
  same_from_bits a 0 (λ i. (neither_bit a b e i).0 ∙ sym (bit_at-zero i)),
  same_from_bits b 0 (λ i. (neither_bit a b e i).1 ∙ sym (bit_at-zero i)),
)

-- a byte more, where what differs is joined to what differed before
pub one_more : (d : ℕ) (a b : List ℕ) (i : ℕ)
    → (d ≡ 0) ↔ ((k : ℕ) → k < i → get_or a k 0 ≡ get_or b k 0)
    → (bit_or d (bit_xor (get_or a i 0) (get_or b i 0)) ≡ 0) ↔ ((k : ℕ) → k < i + 1 → get_or a k 0 ≡ get_or b k 0)
one_more d a b i before = (
  λ e.
      let both = neither d (bit_xor (get_or a i 0) (get_or b i 0)) e in
      below_more _ _ (before.0 both.0) (nothing_crossed _ _ both.1),
  λ same.
      let old : d ≡ 0 = before.1 (λ k lt. same k (omega arith)) in
      let now : get_or a i 0 ≡ get_or b i 0 = same i (omega arith) in
      ap (λ n. bit_or n (bit_xor (get_or a i 0) (get_or b i 0))) old
      ∙ or_zero_l (bit_xor (get_or a i 0) (get_or b i 0))
      ∙ ap (λ n. bit_xor n (get_or b i 0)) now ∙ xor_self (get_or b i 0),
)
