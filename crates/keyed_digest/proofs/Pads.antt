-- The pads of a key, and the tag as the digests are made.
use Rattle.std.proofs.Common.{◌≡◌, ◌≢◌, ◌⊎◌, inl, inr, ℕ, ◌<◌, ◌≤◌, ◌+◌, ◌-◌, ◌++◌, [], sym, ◌∙◌, ap, arith, List, get_or, set, below_more, bit_xor, length, replicate}
use Rattle.std.proofs.Common.{append_assoc, append-nil, length-append, get_or-set_same, get_or-set_other}
use Rattle.std.proofs.lemmas.List.{ext_get_or, get_or-map, get_or-replicate, length-map, length-set, length-replicate, get_or_append_left}
use Rattle.std.proofs.Math.Seq.{get_or-append_right}
use Rattle.std.specs.Int.Bits.{xor_zero_l}
use Rattle.std.proofs.lemmas.Bool.{cases_lt}  -- `cases_lt` is `lt_or_ge` in other libraries, and gives their `le_total`
use Rattle.sha2.specs.Sha256.{sha256}
use Rattle.keyed_digest.specs.Hmac.{hmac, pad, key_block, inner_pad, outer_pad}

-- a block, of which the bytes of the key before a place are crossed, and the others as zeros
pub record IsPadded (byte : ℕ) (key block : List ℕ) (i : ℕ) : Type 0 where
  pub long : length block ≡ 64
  pub before : (k : ℕ) → k < i → get_or block k 0 ≡ bit_xor (get_or key k 0) byte
  pub after : (k : ℕ) → i ≤ k → k < 64 → get_or block k 0 ≡ byte

pub padded_first : (byte : ℕ) (key : List ℕ) → IsPadded byte key (replicate 64 byte) 0
padded_first byte key = record {
  long = length-replicate 64 byte;
  before = λ k lt. omega (arith, lt);
  after = λ k _ lt. get_or-replicate 64 k byte 0 lt;
}

pub padded_next : (byte : ℕ) (key block : List ℕ) (i : ℕ) → i < 32 → IsPadded byte key block i
    → IsPadded byte key (set block i (bit_xor (get_or key i 0) byte)) (i + 1)
padded_next byte key block i lt is = record {
  long = length-set block i (bit_xor (get_or key i 0) byte) ∙ is.long;
  before = below_more _ _
      (λ k below. let other : k ≢ i = omega arith in rw get_or-set_other (is.before k below))
      (let within : i < length block = omega (arith, is.long) in rw get_or-set_same);
  after = λ k from below. let other : k ≢ i = omega arith in rw get_or-set_other (is.after k (omega arith) below);
}

-- the zeros after a key
abbrev filling : List ℕ → List ℕ
filling key = replicate (64 - length key) 0

length-filling : (key : List ℕ) → length (filling key) ≡ 64 - length key
length-filling key = length-replicate (64 - length key) 0

of_key : (byte : ℕ) (key : List ℕ) (k : ℕ) → length key ≡ 32 → k < 32
    → get_or (pad byte key) k 0 ≡ bit_xor (get_or key k 0) byte
of_key byte key k long lt =
    let whole = length-append key (filling key) in
    let zeros = length-filling key in
    get_or-map (λ b. bit_xor b byte) (key_block key) k 0 0 (omega (arith, whole))
    ∙ ap (λ n. bit_xor n byte) (get_or_append_left key (filling key) 0 k (omega arith))

of_zeros : (byte : ℕ) (key : List ℕ) (k : ℕ) → length key ≡ 32 → 32 ≤ k → k < 64 → get_or (pad byte key) k 0 ≡ byte
of_zeros byte key k long from lt =
    let whole = length-append key (filling key) in
    let zeros = length-filling key in
    get_or-map (λ b. bit_xor b byte) (key_block key) k 0 0 (omega (arith, whole, zeros))
    ∙ ap (λ n. bit_xor n byte) (
    get_or-append_right key (filling key) k 0 (omega arith)
    ∙ get_or-replicate (64 - length key) (k - length key) 0 0 (omega arith)
    )
    ∙ xor_zero_l byte

length-pad : (byte : ℕ) (key : List ℕ) → length key ≡ 32 → length (pad byte key) ≡ 64
length-pad byte key long =
    let whole = length-append key (filling key) in
    let zeros = length-filling key in
    length-map (key_block key) (λ b. bit_xor b byte) ∙ omega (arith, whole, zeros)

at_place : (byte : ℕ) (key block : List ℕ) → length key ≡ 32 → IsPadded byte key block 32
    → (k : ℕ) → k < 64 → (k < 32) ⊎ (32 ≤ k) → get_or block k 0 ≡ get_or (pad byte key) k 0
at_place byte key block long is k lt (inl first) = is.before k first ∙ sym (of_key byte key k long first)
at_place byte key block long is k lt (inr rest) = is.after k rest lt ∙ sym (of_zeros byte key k long rest lt)

pub padded_last : (byte : ℕ) (key block : List ℕ) → length key ≡ 32 → IsPadded byte key block 32
    → block ≡ pad byte key
padded_last byte key block long is =
    ext_get_or 0 block (pad byte key) (is.long ∙ sym (length-pad byte key long))
    (λ k lt. let below : k < 64 = omega (arith, lt, is.long) in at_place byte key block long is k below (cases_lt k 32))

-- the tag, by the two digests
pub tag_by_digests : (key first second digest tag : List ℕ)
    → digest ≡ sha256 (inner_pad key ++ first ++ second) → tag ≡ sha256 (outer_pad key ++ digest ++ []) → tag ≡ hmac key (first ++ second)
unfolding hmac
tag_by_digests key first second digest tag d t =
    let whole = append_assoc (inner_pad key) first second in
    t ∙ ap sha256 (append-nil (outer_pad key ++ digest)) ∙ rw d (ap (λ m. sha256 (outer_pad key ++ sha256 m)) whole)
