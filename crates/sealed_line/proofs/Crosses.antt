-- What is crossed twice is as it was.
use Rattle.std.proofs.Common.{◌≡◌, ◌≢◌, ℕ, zero, suc, ◌<◌, ◌≤◌, ◌+◌, [], ◌∷◌, List, sym, ◌∙◌, ap, refl, arith, bit_xor, length, get_or, set, below_more}
use Rattle.std.proofs.Common.{get_or-set_same, get_or-set_other}
use Rattle.std.proofs.lemmas.List.{ext_get_or, length-set}
use Rattle.std.proofs.lemmas.Nat.{xor_of_8, xor_comm}
use Rattle.std.specs.Int.Bits.{xor_assoc, xor_self, xor_zero_r}
use Rattle.keyed_digest.specs.HmacFacts.{AreBytes, bytes-cons, bytes-nil}
use Rattle.sealed_line.specs.Keystream.{crossed_with, crossed_under, keystream}
use Rattle.sealed_line.proofs.Stream.{length-keystream, bytes-keystream}

crossed_back : (a b : ℕ) → bit_xor (bit_xor a b) b ≡ a
crossed_back a b = xor_assoc a b b ∙ ap (bit_xor a) (xor_self b) ∙ xor_zero_r a

pub length-crossed : (text keys : List ℕ) → length text ≤ length keys → length (crossed_with text keys) ≡ length text
unfolding crossed_with
length-crossed [] keys le = refl
length-crossed (b ∷ text) [] le = absurd (omega (arith, le))
length-crossed (b ∷ text) (k ∷ keys) le = ap suc (length-crossed text keys (omega (arith, le)))

pub crossed_at : (text keys : List ℕ) (i : ℕ) → length text ≤ length keys → i < length text
    → get_or (crossed_with text keys) i 0 ≡ bit_xor (get_or text i 0) (get_or keys i 0)
unfolding crossed_with
crossed_at [] keys i le lt = absurd (omega (arith, lt))
crossed_at (b ∷ text) [] i le lt = absurd (omega (arith, le))
crossed_at (b ∷ text) (k ∷ keys) zero le lt = refl
crossed_at (b ∷ text) (k ∷ keys) (suc i) le lt = crossed_at text keys i (omega (arith, le)) (omega (arith, lt))

pub crossed_twice : (text keys : List ℕ) → length text ≤ length keys → crossed_with (crossed_with text keys) keys ≡ text
unfolding crossed_with
crossed_twice [] keys le = refl
crossed_twice (b ∷ text) [] le = absurd (omega (arith, le))
crossed_twice (b ∷ text) (k ∷ keys) le =
    ap (λ first. first ∷ crossed_with (crossed_with text keys) keys) (crossed_back b k)
    ∙ ap (λ rest. b ∷ rest) (crossed_twice text keys (omega (arith, le)))

pub bytes-crossed : (text keys : List ℕ) → AreBytes text → AreBytes keys → AreBytes (crossed_with text keys)
unfolding crossed_with
bytes-crossed [] keys of_text of_keys = bytes-nil
bytes-crossed (b ∷ text) [] of_text of_keys = bytes-nil
bytes-crossed (b ∷ text) (k ∷ keys) of_text of_keys =
    bytes-cons (bit_xor b k) (crossed_with text keys) (xor_of_8 b k (of_text 0) (of_keys 0))
    (bytes-crossed text keys (λ i. of_text (suc i)) (λ i. of_keys (suc i)))

pub length-crossed_under : (key : List ℕ) (count : ℕ) (text : List ℕ) → length (crossed_under key count text) ≡ length text
length-crossed_under key count text =
    let long = length-keystream key count (length text) in
    length-crossed text (keystream key count (length text)) (omega (arith, long))

pub crossed_under_twice : (key : List ℕ) (count : ℕ) (text : List ℕ)
    → crossed_under key count (crossed_under key count text) ≡ text
crossed_under_twice key count text =
    let long = length-keystream key count (length text) in
    ap (λ n. crossed_with (crossed_under key count text) (keystream key count n)) (length-crossed_under key count text)
    ∙ crossed_twice text (keystream key count (length text)) (omega (arith, long))

pub bytes-crossed_under : (key : List ℕ) (count : ℕ) (text : List ℕ) → AreBytes text → AreBytes (crossed_under key count text)
bytes-crossed_under key count text bytes =
    bytes-crossed text (keystream key count (length text)) bytes (bytes-keystream key count (length text))

-- keys of which those before a place are crossed with the bytes of a text
pub record IsCrossing (text keys now : List ℕ) (i : ℕ) : Type 0 where
  pub long : length now ≡ length keys
  pub before : (k : ℕ) → k < i → get_or now k 0 ≡ bit_xor (get_or text k 0) (get_or keys k 0)
  pub after : (k : ℕ) → i ≤ k → get_or now k 0 ≡ get_or keys k 0

pub crossing_first : (text keys : List ℕ) → IsCrossing text keys keys 0
crossing_first text keys = record {
  long = refl;
  before = λ k lt. absurd (omega (arith, lt));
  after = λ k _. refl;
}

pub crossing_next : (text keys now : List ℕ) (i : ℕ) → i < length keys → IsCrossing text keys now i
    → IsCrossing text keys (set now i (bit_xor (get_or now i 0) (get_or text i 0))) (i + 1)
crossing_next text keys now i lt is = record {
  long = length-set now i (bit_xor (get_or now i 0) (get_or text i 0)) ∙ is.long;
  before = below_more _ _
      (λ k below. let other : k ≢ i = omega arith in rw get_or-set_other (is.before k below))
      (
      let within : i < length now = omega (arith, lt, is.long) in
      rw get_or-set_same
      (ap (λ n. bit_xor n (get_or text i 0)) (is.after i (omega arith)) ∙ xor_comm (get_or keys i 0) (get_or text i 0))
      );
  after = λ k from. let other : k ≢ i = omega arith in rw get_or-set_other (is.after k (omega arith));
}

pub crossing_last : (text keys now : List ℕ) → length keys ≡ length text → IsCrossing text keys now (length text)
    → now ≡ crossed_with text keys
crossing_last text keys now same is =
    let long = length-crossed text keys (omega (arith, same)) in
    ext_get_or 0 now (crossed_with text keys) (is.long ∙ same ∙ sym long)
    (λ k lt.
    let below : k < length text = omega (arith, lt, is.long, same) in
    is.before k below ∙ sym (crossed_at text keys k (omega (arith, same)) below))
