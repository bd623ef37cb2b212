-- The lines of a text. Like POSIX lines, but the last one may lack its LF, and a carriage return before the LF is
-- dropped.
use Rattle.std.specs.Prelude.{ℕ, ◌-◌, List, [], ◌∷◌, ◌++◌, map, take, length, slice_index, ◌==◌, if◌then◌else◌}

-- the byte before the first of these pieces, where there is one
abbrev pub put_before : ℕ → List (List ℕ) → List (List ℕ)
put_before byte [] = (byte ∷ []) ∷ []
put_before byte (piece ∷ pieces) = (byte ∷ piece) ∷ pieces

-- the pieces of a text, cut at each LF. An empty piece after the last LF is none
abbrev pub pieces_of : List ℕ → List (List ℕ)
pieces_of [] = []
pieces_of (byte ∷ text) = if byte == 10 then [] ∷ pieces_of text else put_before byte (pieces_of text)

-- a line without one carriage return at its end
abbrev pub without_cr : List ℕ → List ℕ
without_cr line = if slice_index line (length line - 1) == 13 then take (length line - 1) line else line

abbrev pub lines_of : List ℕ → List (List ℕ)
lines_of text = map without_cr (pieces_of text)

-- a text as a line, with its LF
abbrev pub as_line : List ℕ → List ℕ
as_line text = text ++ 10 ∷ []
