-- The lines of a script that say something, with their numbers.
use Rattle.std.specs.Prelude.{ℕ, ◌+◌, Bool, true, List, [], ◌∷◌, ◌==◌, if◌then◌else◌}

-- an empty line or a comment says nothing
abbrev pub is_passed_over : List ℕ → Bool
is_passed_over [] = true
is_passed_over (byte ∷ line) = byte == 35

-- the lines after the one of this number, without those that are passed over
abbrev pub spoken_after : ℕ → List (List ℕ) → List (ℕ × List ℕ)
spoken_after number [] = []
spoken_after number (line ∷ lines) = if is_passed_over line then spoken_after (number + 1) lines else
    (number + 1, line) ∷ spoken_after (number + 1) lines
