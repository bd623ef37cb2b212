-- The keystream is what the generator gives.
use Rattle.std.proofs.Common.{◌≡◌, ℕ, zero, suc, ◌<◌, ◌≤◌, ◌+◌, ◌*◌, ◌/◌, ◌%◌, ◌^◌, ◌++◌, List, ◌∙◌, ap, refl, arith, length, take}
use Rattle.std.proofs.Common.{length-append}
use Rattle.std.proofs.lemmas.List.{length-take-le}
use Rattle.std.proofs.Math.Nat.{mod-eq_of_lt}
use Rattle.std.specs.Int.{bytes_low_first, byte_at, to_le_bytes, w32}
use Rattle.keyed_digest.specs.HmacFacts.{AreBytes, bytes-append, bytes-cons, bytes-nil, bytes-take, is_byte}
use Rattle.rand_core.specs.Steps.{fill_via_u32, word_bytes}
use Rattle.rand_chacha.specs.ChaCha.{ChaCha, key_of, next_word}
use Rattle.sealed_line.specs.Keystream.{key_word, key_words, keystream}

-- the generator under a key, at a word of a count's stream
abbrev pub at_word : List ℕ → ℕ → ℕ → ChaCha
at_word key count place = record { key = key_of key; stream = count; word_pos = place }

next_place : (k : ℕ) → k < 2 ^ 64 → (k + 1) % 2 ^ 68 ≡ suc k
next_place k lt = mod-eq_of_lt (omega (arith, lt)) ∙ omega arith

pub stream_words : (key : List ℕ) (count k : ℕ) → k ≤ 2 ^ 64
    → word_bytes (to_le_bytes w32) (next_word 10) k (at_word key count 0) ≡ (key_words key count k, at_word key count k)
unfolding word_bytes key_words
stream_words key count zero le = refl
stream_words key count (suc k) le =
    let lt : k < 2 ^ 64 = omega (arith, le) in
    let before = stream_words key count k (omega (arith, le)) in
    rw before (ap (λ place. (key_words key count k ++ to_le_bytes w32 (key_word key count k), at_word key count place)) (next_place k lt))

pub length-key_words : (key : List ℕ) (count n : ℕ) → length (key_words key count n) ≡ 4 * n
unfolding key_words
length-key_words key count zero = refl
length-key_words key count (suc n) =
    let before = length-key_words key count n in
    let last : length (to_le_bytes w32 (key_word key count n)) ≡ 4 = refl in
    let both = length-append (key_words key count n) (to_le_bytes w32 (key_word key count n)) in
    omega (arith, before, last, both)

pub length-keystream : (key : List ℕ) (count n : ℕ) → length (keystream key count n) ≡ n
length-keystream key count n =
    let whole = length-key_words key count ((n + 3) / 4) in
    length-take-le n (key_words key count ((n + 3) / 4)) (omega (arith, whole))

bytes-low : (i k n : ℕ) → AreBytes (bytes_low_first i k n)
bytes-low i zero n = bytes-nil
bytes-low i (suc k) n = bytes-cons (byte_at i n) (bytes_low_first (suc i) k n) (is_byte i n) (bytes-low (suc i) k n)

bytes-key_words : (key : List ℕ) (count n : ℕ) → AreBytes (key_words key count n)
unfolding key_words
bytes-key_words key count zero = bytes-nil
bytes-key_words key count (suc n) =
    bytes-append (key_words key count n) (to_le_bytes w32 (key_word key count n)) (bytes-key_words key count n) (bytes-low 0 4 (key_word key count n))

pub bytes-keystream : (key : List ℕ) (count n : ℕ) → AreBytes (keystream key count n)
bytes-keystream key count n = bytes-take n (key_words key count ((n + 3) / 4)) (bytes-key_words key count ((n + 3) / 4))

pub filled : (key : List ℕ) (count n : ℕ) → n < 2 ^ 64
    → (fill_via_u32 (next_word 10) n (at_word key count 0)).0 ≡ keystream key count n
filled key count n lt = ap (λ (all : List ℕ × ChaCha). take n all.0) (stream_words key count ((n + 3) / 4) (omega (arith, lt)))
