-- Places in a text, by line and column.
use Rattle.std.specs.Prelude.{ℕ, suc, List, [], ◌∷◌, ◌+◌, ◌==◌, Bool, ◌||◌, if◌then◌else◌, take}
use Rattle.gate_rules.specs.declared.place.Place.{Place}

-- where the byte after a byte is: an LF ends its line
abbrev pub after : Place → ℕ → Place
after place byte =
    if byte == 10 then record { line = place.line + 1; column = 1 }
    else record { line = place.line; column = place.column + 1 }

-- where a text ends that begins at a place
abbrev pub end_from : Place → List ℕ → Place
end_from place [] = place
end_from place (byte ∷ bytes) = end_from (after place byte) bytes

-- the first byte of a text is at line 1, column 1
abbrev pub place_at : List ℕ → ℕ → Place
place_at text offset = end_from (record { line = 1; column = 1 }) (take offset text)

-- how many blanks of JSON a text begins with (RFC 8259, section 2)
abbrev pub is_blank : ℕ → Bool
is_blank byte = byte == 32 || byte == 9 || byte == 10 || byte == 13

abbrev pub blanks : List ℕ → ℕ
blanks [] = 0
blanks (byte ∷ bytes) = if is_blank byte then suc (blanks bytes) else 0
