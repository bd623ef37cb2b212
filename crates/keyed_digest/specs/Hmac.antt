-- HMAC (RFC 2104, section 2) over SHA-256, whose block has 64 bytes. The key has at most that many: the RFC hashes a
-- longer one first, and a key of a `Mac` has 32.
use Rattle.std.specs.Prelude.{ℕ, ◌-◌, ◌++◌, List, length, map, replicate, bit_xor}
use Rattle.sha2.specs.Sha256.{sha256}

-- the key, filled up with zeros to a block
abbrev pub key_block : List ℕ → List ℕ
key_block key = key ++ replicate (64 - length key) 0

-- the key's block with each byte crossed with this one
abbrev pub pad : ℕ → List ℕ → List ℕ
pad byte key = map (λ b. bit_xor b byte) (key_block key)

-- the RFC's ipad and opad
abbrev pub inner_pad : List ℕ → List ℕ
inner_pad key = pad 0x36 key

abbrev pub outer_pad : List ℕ → List ℕ
outer_pad key = pad 0x5C key

-- the tag of a message under a key
unfoldable pub hmac : List ℕ → List ℕ → List ℕ
hmac key message = sha256 (outer_pad key ++ sha256 (inner_pad key ++ message))
