-- A tag is 32 bytes.
use Rattle.std.specs.Prelude.{◌≡◌, ◌<◌, ℕ, zero, suc, List, [], ◌∷◌, ◌++◌, length, slice_index, take}
use Rattle.std.specs.Int.{bytes_high_first, to_be_bytes, w32, byte_at}
use Rattle.std.proofs.Common.{lit<}
use Rattle.std.proofs.Math.Nat.{mod-lt}
use Rattle.sha2.specs.Sha256.{digest_bytes, sha256}
use Rattle.sha2.proofs.Facts256.{length-sha256}
use Rattle.keyed_digest.specs.Hmac.{hmac}

abbrev pub AreBytes : List ℕ → Type 0
AreBytes bytes = (i : ℕ) → slice_index bytes i < 256

pub bytes-append : (a b : List ℕ) → AreBytes a → AreBytes b → AreBytes (a ++ b)
bytes-append [] b of_a of_b i = of_b i
bytes-append (x ∷ a) b of_a of_b zero = of_a 0
bytes-append (x ∷ a) b of_a of_b (suc i) = bytes-append a b (λ k. of_a (suc k)) of_b i

pub bytes-cons : (x : ℕ) (a : List ℕ) → x < 256 → AreBytes a → AreBytes (x ∷ a)
bytes-cons x a of_x of_a zero = of_x
bytes-cons x a of_x of_a (suc i) = of_a i

pub bytes-nil : AreBytes []
bytes-nil i = lit< tt

pub is_byte : (k n : ℕ) → byte_at k n < 256
is_byte zero n = mod-lt n (lit< tt)
is_byte (suc k) n = mod-lt _ (lit< tt)

bytes-high : (k n : ℕ) → AreBytes (bytes_high_first k n)
bytes-high zero n = bytes-nil
bytes-high (suc k) n = bytes-cons (byte_at k n) (bytes_high_first k n) (is_byte k n) (bytes-high k n)

bytes-digest : (h : List ℕ) (n : ℕ) → AreBytes (digest_bytes h n)
unfolding digest_bytes
bytes-digest h zero = bytes-nil
bytes-digest h (suc n) = bytes-append (digest_bytes h n) (to_be_bytes w32 (slice_index h n)) (bytes-digest h n) (bytes-high 4 (slice_index h n))

bytes-sha256 : (message : List ℕ) → AreBytes (sha256 message)
unfolding sha256
bytes-sha256 message = bytes-digest _ 8

pub bytes-take : (n : ℕ) (a : List ℕ) → AreBytes a → AreBytes (take n a)
bytes-take zero a of_a = bytes-nil
bytes-take (suc n) [] of_a = bytes-nil
bytes-take (suc n) (x ∷ a) of_a = bytes-cons x (take n a) (of_a 0) (bytes-take n a (λ i. of_a (suc i)))

pub length-hmac : (key message : List ℕ) → length (hmac key message) ≡ 32
unfolding hmac
length-hmac key message = length-sha256 _

pub bytes-hmac : (key message : List ℕ) → AreBytes (hmac key message)
unfolding hmac
bytes-hmac key message = bytes-sha256 _
