-- The characters that a reader wouldn't see: control characters, and those that change the direction of the text after
-- them (Unicode Standard Annex 9, "Unicode Bidirectional Algorithm", section 2). They are shown by their codes.
use Rattle.std.specs.Prelude.{ℕ, Bool, true, List, [], ◌∷◌, ◌++◌, ◌||◌, ◌&&◌, ◌==◌, nat_lt, nat_le, codes, flat_map}
use Rattle.std.specs.Prelude.{if◌then◌else◌}
use Rattle.std.specs.Fmt.{digits}
use Rattle.std.specs.Str.{chars}

-- general category Cc
abbrev pub is_control : ℕ → Bool
is_control letter = nat_lt letter 32 || (nat_le 127 letter && nat_le letter 159)

-- the marks, embeddings, overrides and isolates
abbrev pub is_direction : ℕ → Bool
is_direction letter =
    (letter == 0x61c) || (nat_le 0x200e letter && nat_le letter 0x200f) ||
    (nat_le 0x202a letter && nat_le letter 0x202e)
    || (nat_le 0x2066 letter && nat_le letter 0x2069)

abbrev pub is_hidden : ℕ → Bool
is_hidden letter = is_control letter || is_direction letter

-- `\u{202E}`
abbrev pub code_text : ℕ → List ℕ
code_text letter = codes "\\u{" ++ digits 16 true letter ++ codes "}"

-- a character, or the characters of its code
abbrev pub shown : ℕ → List ℕ
shown letter = if is_hidden letter then code_text letter else letter ∷ []

-- the characters of a text as a reader sees them
abbrev pub shown_text : List ℕ → List ℕ
shown_text text = flat_map shown (chars text)
