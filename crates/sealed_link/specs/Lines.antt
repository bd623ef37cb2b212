-- How lines that came are opened, and lines that go out are sealed, one after the other.
use Rattle.std.specs.Prelude.{◌≡◌, ◌⊎◌, ◌<◌, ◌≤◌, ℕ, List, [], ◌∷◌, ◌++◌, All, Some, Result, Ok, Err}
use Rattle.std.specs.Prelude.{length, take}
use Rattle.std.specs.List.{flat_map}
use Rattle.byte_ends.specs.Lines.{as_line}
use Rattle.line_reader.specs.Lines.{HasNoLf, IsTooLong}
use Rattle.sealed_ends.specs.Batches.{batch_bytes}
use Rattle.sealed_ends.specs.Unread.{sealed_limit}
use Rattle.sealed_line.specs.Sealing.{IsNoSeal, Opens, Sealing, after_line, crossed, last_count, most_line_bytes}
use Rattle.sealed_line.specs.Sealing.{sealed}
use Rattle.sealed_link.specs.Wires.{Wiring, waiting_limit}
use Rattle.sealed_link.specs.declared.fault.WireFault.{WireFault}
use Rattle.sealed_link.specs.declared.fault.WireFault.TheVariants.{BadLine, LongLine, Spent, NoMemory}

-- each of these lines is the seal of one under its count; their texts, each with its LF, are this text, and the next
-- line is opened under that seal
abbrev pub OpenTo : Sealing → List (List ℕ) → List ℕ → Sealing → Type 0
OpenTo s [] text next = (text ≡ []) × (next ≡ s)
OpenTo s (line ∷ lines) text next =
    (first : List ℕ) × (rest : List ℕ) × Opens s line first × (text ≡ as_line first ++ rest)
    × OpenTo (after_line s) lines rest next

-- the bytes begin with whole lines that open to this text; the rest follows them
pub record OpensFront (s : Sealing) (bytes text rest : List ℕ) (next : Sealing) : Type 0 where
  pub lines : List (List ℕ)
  pub plain : All HasNoLf lines
  pub front : bytes ≡ flat_map as_line lines ++ rest
  pub all : OpenTo s lines text next

-- why a line isn't opened
abbrev pub IsUnopenable : Sealing → List ℕ → WireFault → Type 0
IsUnopenable s line BadLine = IsNoSeal s line
IsUnopenable s line LongLine = sealed_limit < length line
IsUnopenable s line Spent = s.count ≡ last_count
IsUnopenable s line NoMemory = Unit {0}

-- why a piece of a line isn't held
abbrev pub IsUnheld : List ℕ → WireFault → Type 0
IsUnheld piece BadLine = ⊥
IsUnheld piece LongLine = sealed_limit < length piece
IsUnheld piece Spent = ⊥
IsUnheld piece NoMemory = Unit {0}

-- why the line at the front of these bytes isn't opened
abbrev pub IsFrontRefused : Sealing → List ℕ → WireFault → Type 0
IsFrontRefused s bytes BadLine =
    (line : List ℕ) × (rest : List ℕ) × (bytes ≡ as_line line ++ rest) × HasNoLf line × IsNoSeal s line
IsFrontRefused s bytes LongLine = IsTooLong sealed_limit bytes
IsFrontRefused s bytes Spent = s.count ≡ last_count
IsFrontRefused s bytes NoMemory = Unit {0}

-- whole lines at the front of the bytes open to this text, and what follows them isn't opened
abbrev pub IsRefusedAfter : Sealing → List ℕ → List ℕ → WireFault → Type 0
IsRefusedAfter s bytes text fault =
    (rest : List ℕ) × (next : Sealing) × OpensFront s bytes text rest next × IsFrontRefused next rest fault

-- what a refusal leaves as it was
pub record KeepsRest (old new : Wiring) : Type 0 where
  pub fault : new.fault ≡ old.fault
  pub outward : new.outward ≡ old.outward
  pub waiting : new.waiting ≡ old.waiting

-- the bytes that came, after those that were held, are lines that open to this text, and a piece of a line, which is
-- held
pub record OpensAll (old : Wiring) (came text : List ℕ) (new : Wiring) : Type 0 where
  pub front : OpensFront old.inward (old.held ++ came) text new.held new.inward
  pub piece : HasNoLf new.held
  pub kept : new ≡ record old { inward = new.inward; held = new.held }

-- or the lines that open to this text come before one that is refused
abbrev pub OpensLines : {T : Type 0} → Wiring → List ℕ → List ℕ → Result T WireFault → Wiring → Type 0
OpensLines old came text (Ok _) new = OpensAll old came text new
OpensLines old came text (Err fault) new = IsRefusedAfter old.inward (old.held ++ came) text fault × KeepsRest old new

-- the same, and nothing is opened after the refusal
abbrev pub OpensCame : {T : Type 0} → Wiring → List ℕ → List ℕ → Result T WireFault → Wiring → Type 0
OpensCame old came text (Ok _) new = OpensAll old came text new
OpensCame old came text (Err fault) new =
    IsRefusedAfter old.inward (old.held ++ came) text fault
    × (new.fault ≡ Some fault) × (new.outward ≡ old.outward) × (new.waiting ≡ old.waiting)

-- a wire after one text more was sealed
abbrev pub with_sealed : Wiring → List ℕ → Wiring
with_sealed w text =
    record w
    { outward = after_line w.outward; waiting = w.waiting ++ as_line (sealed w.outward (crossed w.outward text)) }

-- these texts were sealed, one after the other, each while less than 65,536 bytes waited
abbrev pub SealTo : Wiring → List (List ℕ) → Wiring → Type 0
SealTo old [] new = new ≡ old
SealTo old (text ∷ texts) new = (length old.waiting < waiting_limit) × SealTo (with_sealed old text) texts new

-- what is sealed as one text, which a line end follows: lines of 16,384 bytes at most, or one line
pub record IsBatch (text : List ℕ) : Type 0 where
  pub few : (length text < batch_bytes) ⊎ HasNoLf text
  pub short : length text ≤ most_line_bytes

-- so many bytes of the text are its first lines, which were sealed at once; they open to these lines
pub record SealsFirst (old : Wiring) (text : List ℕ) (count : ℕ) (new : Wiring) : Type 0 where
  pub lines : List ℕ
  pub batch : IsBatch lines
  pub within : count ≤ length text
  pub front : take count text ≡ as_line lines
  pub few : length old.waiting < waiting_limit
  pub all : new ≡ with_sealed old lines
  pub opens : Opens old.outward (sealed old.outward (crossed old.outward lines)) lines

-- so many bytes of the text are texts that were sealed, each with its line end
pub record SealsFront (old : Wiring) (text : List ℕ) (count : ℕ) (new : Wiring) : Type 0 where
  pub texts : List (List ℕ)
  pub batches : All IsBatch texts
  pub within : count ≤ length text
  pub front : take count text ≡ flat_map as_line texts
  pub all : SealTo old texts new

-- the bytes that wait since then are sealed lines, which open to so many bytes of the text and nothing else
pub record SendsSealed (old : Wiring) (text : List ℕ) (count : ℕ) (new : Wiring) : Type 0 where
  pub sent : List ℕ
  pub waits : new.waiting ≡ old.waiting ++ sent
  pub opens : OpensFront old.outward sent (take count text) [] new.outward

-- the one is the other side of a wire, where all that was sealed on this one was opened
pub record IsOtherSide (wire other : Wiring) : Type 0 where
  pub next : other.inward ≡ wire.outward
  pub held : other.held ≡ []

-- why a line isn't sealed
abbrev pub IsUnsealable : Sealing → List ℕ → WireFault → Type 0
IsUnsealable s line BadLine = ⊥
IsUnsealable s line LongLine = most_line_bytes < length line
IsUnsealable s line Spent = s.count ≡ last_count
IsUnsealable s line NoMemory = Unit {0}

-- why the line at the front of this text isn't sealed
abbrev pub IsHeldUp : Sealing → List ℕ → WireFault → Type 0
IsHeldUp s text fault =
    (line : List ℕ) × (rest : List ℕ) × (text ≡ as_line line ++ rest) × HasNoLf line × IsUnsealable s line fault
