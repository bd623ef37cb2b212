-- What a drain of sealed lines took: what the lines that the drain within took since open to, and the text of the line
-- whose end didn't come.
use Rattle.std.specs.Prelude.{ℕ, ◌+◌, ◌-◌, ◌==◌, ◌&&◌, ◌||◌, Bool, true, if◌then◌else◌, List, [], ◌∷◌, ◌++◌}
use Rattle.std.specs.Prelude.{length, drop, Option, Some, None, is_some, option_and_then}
use Rattle.sealed_line.specs.Sealing.{Sealing, after_line}
use Rattle.sealed_ends.specs.Opened.{opened_line, opened, whole_lines}
use Rattle.sealed_ends.specs.declared.drain.SealedDrain.{SealedDrain}

-- each of these lines is sealed under its count
unfoldable pub all_open : Sealing → List (List ℕ) → Bool
all_open s [] = true
all_open s (line ∷ lines) = is_some (opened_line s line) && all_open (after_line s) lines

-- bytes that follow this one end with an LF
unfoldable pub ends_line : ℕ → List ℕ → Bool
ends_line before [] = before == 10
ends_line before (byte ∷ bytes) = ends_line byte bytes

-- whole lines, each sealed under its count, of which there are as many as were sealed
abbrev pub is_in_step : Sealing → ℕ → List ℕ → Bool
is_in_step s next bytes =
    ends_line 10 bytes && (all_open s (whole_lines bytes) && (s.count + length (whole_lines bytes) == next))

-- what bytes that were sent open to, and the text of a line whose end didn't come. It is known where the bytes are in
-- step, and after a line that was sent in part
abbrev pub written_texts : Sealing → ℕ → Bool → List ℕ → List ℕ → Option (List ℕ)
written_texts s next broken held bytes =
    if broken || is_in_step s next bytes then Some (opened s bytes ++ held) else None

-- the bytes that were sent last, of which there are so many
abbrev pub sent_last : ℕ → List ℕ → List ℕ
sent_last n bytes = drop (length bytes - n) bytes

-- what is taken, by what the drain within took
abbrev pub taken_by : {D : Type 0} → (D → Option (List ℕ)) → SealedDrain D → Option (List ℕ)
taken_by taken d =
    option_and_then (λ bytes. written_texts (record d.seal { count = d.first }) d.seal.count d.broken d.held.items (sent_last d.sent bytes)) (taken d.drain)

-- the drain within, and what seals the next line
abbrev pub drain_within : {D : Type 0} → SealedDrain D → D
drain_within d = d.drain

abbrev pub seals_under : {D : Type 0} → SealedDrain D → Sealing
seals_under d = d.seal

-- the writes that failed
abbrev pub writes_failed_by : {D : Type 0} → SealedDrain D → ℕ
writes_failed_by d = d.failures
