-- Texts as they are escaped in HTML (WHATWG, HTML Living Standard, section 13.1.4 "Character references").
use Rattle.std.specs.Prelude.{ℕ, List, ◌==◌, codes, encode_utf8, flat_map, if◌then◌else◌}
use Rattle.markup_text.specs.Shown.{shown_text}

-- a character; those that could end a text, or the value of an attribute in quotes, are references
abbrev pub escaped : ℕ → List ℕ
escaped letter =
    if letter == 38 then codes "&amp;"
    else (if letter == 60 then codes "&lt;"
    else (if letter == 62 then codes "&gt;"
    else (if letter == 34 then codes "&quot;"
    else (if letter == 39 then codes "&#39;"
    else encode_utf8 letter))))

-- the text with its hidden characters shown, as it is escaped in HTML
abbrev pub html_of : List ℕ → List ℕ
html_of text = flat_map escaped (shown_text text)
