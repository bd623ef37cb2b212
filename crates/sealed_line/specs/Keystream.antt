-- The keystream of a line: ChaCha20 (RFC 8439) under the cipher key, with the line's count as the nonce, in the words
-- 14 and 15 of the state, and blocks that are counted from 0, in the words 12 and 13. So a count that isn't used again
-- meets no block that was used: `no_block_twice`.
use Rattle.std.specs.Prelude.{ℕ, zero, suc, ◌+◌, ◌/◌, List, [], ◌∷◌, ◌++◌, length, take, bit_xor}
use Rattle.std.specs.Int.{w32, to_le_bytes}
use Rattle.rand_chacha.specs.ChaCha.{key_of, word_at}

-- a word of the keystream: its place is 16 times its block, and its place in that
abbrev pub key_word : List ℕ → ℕ → ℕ → ℕ
key_word key count place = word_at 10 (key_of key) count place

-- the bytes of the first words, low byte first
unfoldable pub key_words : List ℕ → ℕ → ℕ → List ℕ
key_words key count zero = []
key_words key count (suc n) = key_words key count n ++ to_le_bytes w32 (key_word key count n)

-- the first bytes
abbrev pub keystream : List ℕ → ℕ → ℕ → List ℕ
keystream key count n = take n (key_words key count ((n + 3) / 4))

-- a text, each byte of it crossed with one of the keys
unfoldable pub crossed_with : List ℕ → List ℕ → List ℕ
crossed_with [] keys = []
crossed_with (byte ∷ text) [] = []
crossed_with (byte ∷ text) (key ∷ keys) = bit_xor byte key ∷ crossed_with text keys

-- RFC 8439, section 2.4: the same both ways
abbrev pub crossed_under : List ℕ → ℕ → List ℕ → List ℕ
crossed_under key count text = crossed_with text (keystream key count (length text))
