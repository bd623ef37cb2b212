-- Lines as they come from a source. A line ends at its LF; one carriage return before that is dropped.
use Rattle.std.specs.Prelude.{◌≡◌, ◌≢◌, ◌≤◌, ◌<◌, ◌+◌, ℕ, Bool, true, false, List, [], ◌++◌, Result, Ok, Err, length}
use Rattle.std.specs.Prelude.{take, drop, All}
use Rattle.std.proofs.Common.{sym, ap, ◌∙◌}
use Rattle.byte_ends.specs.Lines.{as_line, without_cr}
use Rattle.byte_ends.specs.declared.faults.BytesFault.{BytesFault}
use Rattle.byte_ends.specs.declared.faults.BytesFault.TheVariants.{TooLong, ReadFault, NoMemory}

-- the most bytes of a line of a session, of a journal and of what a site answers, without its line end
abbrev pub line_limit : ℕ
line_limit = 524288

abbrev pub HasNoLf : List ℕ → Type 0
HasNoLf bytes = All (λ byte. byte ≢ 10) bytes

-- the first LF of these bytes is at this place
pub record HasFirstLf (bytes : List ℕ) (at : ℕ) : Type 0 where
  pub within : at < length bytes
  pub before : HasNoLf (take at bytes)
  pub whole : bytes ≡ as_line (take at bytes) ++ drop (at + 1) bytes

-- bytes begin with the line that ends at their first LF
pub line_first : (rest piece later : List ℕ) (at : ℕ) → piece ≡ take at rest → later ≡ drop (at + 1) rest
    → HasFirstLf rest at → rest ≡ as_line piece ++ later
line_first rest piece later at front back first =
    first.whole ∙ ap (λ l. as_line l ++ drop (at + 1) rest) (sym front) ∙ ap (λ l. as_line piece ++ l) (sym back)

-- what a reader of lines shows: how long a line may be, the line that it handed out last, and what it read past that
pub record Reading : Type 0 where
  pub limit : ℕ
  pub line : List ℕ
  pub held : List ℕ

-- the bytes begin with a line: a piece with no LF, of at most so many bytes, and its LF
pub record BeginsWithLine (limit : ℕ) (bytes piece rest : List ℕ) : Type 0 where
  pub whole : bytes ≡ as_line piece ++ rest
  pub plain : HasNoLf piece
  pub short : length piece ≤ limit

-- the bytes are a line whose LF didn't come yet
pub record IsUnfinished (limit : ℕ) (bytes : List ℕ) : Type 0 where
  pub plain : HasNoLf bytes
  pub short : length bytes ≤ limit

-- the bytes begin with more bytes than a line may have, and no LF among those
pub record IsTooLong (limit : ℕ) (bytes : List ℕ) : Type 0 where
  pub more : limit < length bytes
  pub plain : HasNoLf (take (limit + 1) bytes)

-- what a call answers and leaves, where it reads these bytes
abbrev pub Hands : Reading → List ℕ → Result Bool BytesFault → Reading → Type 0
Hands old came (Ok true) new =
    (piece : List ℕ) × BeginsWithLine old.limit (old.held ++ came) piece new.held × (new.line ≡ without_cr piece)
Hands old came (Ok false) new = IsUnfinished old.limit (old.held ++ came) × (new.held ≡ old.held ++ came)
Hands old came (Err TooLong) new = IsTooLong old.limit (old.held ++ came) × (new.held ≡ old.held ++ came)
Hands old came (Err ReadFault) new = new.held ≡ old.held ++ came
Hands old came (Err NoMemory) new = new.held ≡ old.held ++ came

-- the fewest bytes of a line that is given up: those of 2^64 - 1 blocks of a byte
abbrev pub endless : ℕ
endless = 18446744073709551615

-- what a call that passes over a line answers, by what was held before and after, where it reads these bytes
abbrev pub PassesLine : List ℕ → List ℕ → Result Bool BytesFault → List ℕ → Type 0
PassesLine old came (Ok true) new = (piece : List ℕ) × HasNoLf piece × (old ++ came ≡ as_line piece ++ new)
PassesLine old came (Ok false) new = HasNoLf (old ++ came) × (new ≡ [])
PassesLine old came (Err TooLong) new = HasNoLf (old ++ came) × (new ≡ []) × (endless ≤ length came)
PassesLine old came (Err ReadFault) new = HasNoLf (old ++ came) × (new ≡ [])
PassesLine old came (Err NoMemory) new = HasNoLf (old ++ came) × (new ≡ [])

-- the same where nothing is read
abbrev pub PassesHeld : List ℕ → Bool → List ℕ → Type 0
PassesHeld old true new = (piece : List ℕ) × HasNoLf piece × (old ≡ as_line piece ++ new)
PassesHeld old false new = HasNoLf old × (new ≡ [])

-- the places of the line and of what follows it, among the bytes that were read; a block isn't empty
pub record IsPlaced (start stop next count block : ℕ) : Type 0 where
  pub ordered : start ≤ stop
  pub followed : stop ≤ next
  pub within : next ≤ count
  pub some : 0 < block
