-- Whether a text contains what is searched for.
use Rattle.std.specs.Prelude.{ℕ, Bool, List, [], ◌∷◌, ◌||◌, bytes_eq, length, take}

-- the text begins with the words
abbrev pub begins : List ℕ → List ℕ → Bool
begins words text = bytes_eq (take (length words) text) words

-- the words are at the beginning of the text, or after its first byte
abbrev pub contains : List ℕ → List ℕ → Bool
contains words [] = begins words []
contains words (byte ∷ bytes) = begins words (byte ∷ bytes) || contains words bytes
