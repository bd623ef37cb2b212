-- The value of a label (Prometheus, "Exposition formats", text-based format, "Comments, help text, and type
-- information").
use Rattle.std.specs.Prelude.{ℕ, List, ◌==◌, codes, encode_utf8, flat_map, if◌then◌else◌}
use Rattle.std.specs.Str.{chars}

-- a character; a backslash, a quotation mark and a line feed have a backslash before them
abbrev pub label_letter : ℕ → List ℕ
label_letter letter =
    if letter == 92 then codes "\\\\"
    else (if letter == 34 then codes "\\\""
    else (if letter == 10 then codes "\\n"
    else encode_utf8 letter))

abbrev pub label_value : List ℕ → List ℕ
label_value text = flat_map label_letter (chars text)
