-- Lines that begin with the time: what is written before a line, and what a write takes of a line.
use Rattle.std.specs.Prelude.{◌≡◌, ◌+◌, ◌<◌, ◌-◌, ◌==◌, ℕ, ℤ, Bool, true, false, not, List, [], ◌++◌, Option, None}
use Rattle.std.specs.Prelude.{Some, codes, length, slice_index, take}
use Rattle.std.specs.Io.KnownBytes.{Appends}
use Rattle.jiff_core.specs.DateTime.{civil_nanos}
use Rattle.jiff_core.specs.declared.civil.datetime.DateTime.{DateTime}
use Rattle.jiff_fmt.specs.Text.{datetime_text}

-- the text of a moment, in nanoseconds since 1970, as RFC 3339 has it: in UTC, with milliseconds; then a space. Where
-- there is none the text is empty
abbrev pub IsStamp : Option ℤ → List ℕ → Type 0
IsStamp None stamp = stamp ≡ []
IsStamp (Some moment) stamp =
    (date : DateTime) × (civil_nanos date ≡ moment) × (stamp ≡ datetime_text false 84 (Some 3) date ++ codes "Z ")

-- the first bytes, so many of them, are of one line: none but the last is an LF
abbrev pub IsWithinLine : List ℕ → ℕ → Type 0
IsWithinLine bytes count = (at : ℕ) → at + 1 < count → ¬ (slice_index bytes at ≡ 10)

-- whether a part of a line leaves the line open: it doesn't end with an LF
abbrev pub is_open : List ℕ → Bool
is_open part = not (slice_index part (length part - 1) == 10)

-- a clock, by its readings
module _ {M : Type 0} (reads : M → Option ℤ → M → Type 0) where
  -- what is written before the next byte: at the beginning of a line the clock is read, and it is the stamp of the
  -- moment; in a line it is nothing
  abbrev pub Stamps : Bool → M → List ℕ → M → Type 0
  Stamps true old stamp new = (new ≡ old) × (stamp ≡ [])
  Stamps false old stamp new = (moment : Option ℤ) × reads old moment new × IsStamp moment stamp

  -- so many of these bytes are written, of one line at most, after what is written before them
  abbrev pub WritesPart : List ℕ → ℕ → Bool → M → Option (List ℕ) → Bool → M → Option (List ℕ) → Type 0
  WritesPart bytes count in_line old taken now_in_line new now_taken =
      (stamp : List ℕ) × Stamps in_line old stamp new × Appends taken now_taken (stamp ++ take count bytes)
      × IsWithinLine bytes count × (now_in_line ≡ is_open (take count bytes))

  -- the write fails: a front of the stamp and the bytes is written at most, and a line is begun where one was before
  abbrev pub WritesFront : List ℕ → Bool → M → Option (List ℕ) → Bool → M → Option (List ℕ) → Type 0
  WritesFront bytes in_line old taken now_in_line new now_taken =
      (stamp : List ℕ) × (count : ℕ) × Stamps in_line old stamp new
      × Appends taken now_taken (take count (stamp ++ bytes)) × (now_in_line ≡ in_line)
