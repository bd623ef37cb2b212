-- A word as it is written for a shell, and as a POSIX shell reads it (POSIX.1-2017, Shell Command Language, 2.2
-- "Quoting").
use Rattle.std.specs.Prelude.{◌==◌, ◌&&◌, ◌||◌, ℕ, Bool, not, List, [], ◌∷◌, ◌++◌, Option, None, Some, codes, option_map}
use Rattle.std.specs.Prelude.{if◌then◌else◌, flat_map, length}
use Rattle.std.specs.List.{list_all, list_any}
use Rattle.std.specs.Char.{is_ascii_alphanumeric}

-- ---- writing

-- a byte that a shell takes as it is, wherever it is in a word: a letter, a digit, or one of these
abbrev pub is_bare_byte : ℕ → Bool
is_bare_byte byte = is_ascii_alphanumeric byte || list_any (λ other. other == byte) (codes "_./:,@%+=-")

abbrev pub is_plain : List ℕ → Bool
is_plain word = not (length word == 0) && list_all is_bare_byte word

-- within single quotes each byte stands for itself, but that none of them can be a single quote (2.2.2): the quotes end
-- before one, it comes after a backslash (2.2.1), and they begin again
abbrev pub within_quotes : ℕ → List ℕ
within_quotes byte = if byte == 39 then codes "'\\''" else byte ∷ []

abbrev pub quoted : List ℕ → List ℕ
quoted word = if is_plain word then word else codes "'" ++ flat_map within_quotes word ++ codes "'"

-- ---- reading

-- how the next byte is read: as it is, within single quotes, or after a backslash
pub data Mode : Type 0 where
  unquoted : Mode
  in_quotes : Mode
  escaped : Mode

-- what a shell reads as one word. A byte that ends the word, or has a meaning of its own, makes it none; so does a
-- quote or a backslash with nothing after it
abbrev pub word_from : Mode → List ℕ → Option (List ℕ)
word_from unquoted [] = Some []
word_from in_quotes [] = None
word_from escaped [] = None
word_from unquoted (byte ∷ bytes) =
    if byte == 39 then word_from in_quotes bytes else
    if byte == 92 then word_from escaped bytes else
    if is_bare_byte byte then option_map (λ word. byte ∷ word) (word_from unquoted bytes) else None
word_from in_quotes (byte ∷ bytes) =
    if byte == 39 then word_from unquoted bytes else option_map (λ word. byte ∷ word) (word_from in_quotes bytes)
word_from escaped (byte ∷ bytes) =
    if byte == 10 then word_from unquoted bytes else option_map (λ word. byte ∷ word) (word_from unquoted bytes)

abbrev pub word_read : List ℕ → Option (List ℕ)
word_read text = word_from unquoted text
