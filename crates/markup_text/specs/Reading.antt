-- How a browser reads a text in HTML that has no `<` (WHATWG, HTML Living Standard, sections 13.2.5.1 "Data state" and
-- 13.2.5.72 "Character reference state"), as far as the five references go that are written.
use Rattle.std.specs.Prelude.{ℕ, List, [], ◌∷◌, ◌++◌, Bool, ◌==◌, ◌||◌, Option, None, Some, codes, if◌then◌else◌}
use Rattle.std.specs.Prelude.{bytes_eq}

-- what a reference stands for, by what is between `&` and `;`
abbrev pub referred : List ℕ → List ℕ
referred name =
    if bytes_eq name (codes "amp") then codes "&"
    else (if bytes_eq name (codes "lt") then codes "<"
    else (if bytes_eq name (codes "gt") then codes ">"
    else (if bytes_eq name (codes "quot") then codes "\""
    else (if bytes_eq name (codes "#39") then codes "'"
    else codes "&" ++ name ++ codes ";"))))

-- the text that is read from here on: outside of a reference, or in one, after these bytes of its name
abbrev pub read_from : Option (List ℕ) → List ℕ → List ℕ
read_from None [] = []
read_from (Some name) [] = codes "&" ++ name
read_from None (byte ∷ bytes) = if byte == 38 then read_from (Some []) bytes else byte ∷ read_from None bytes
read_from (Some name) (byte ∷ bytes) =
    if byte == 59 then referred name ++ read_from None bytes else read_from (Some (name ++ byte ∷ [])) bytes

abbrev pub read : List ℕ → List ℕ
read = read_from None

-- a byte that ends a text, or the value of an attribute in quotes
abbrev pub is_markup : ℕ → Bool
is_markup byte = (byte == 60) || (byte == 62) || (byte == 34) || (byte == 39)
