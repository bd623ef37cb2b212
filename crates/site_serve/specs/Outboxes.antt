-- The output buffer of a session: a text is added, or memory is refused for it.
use Rattle.std.specs.Prelude.{◌≡◌, ◌⊎◌, ◌<◌, Bool, true, ℕ, suc, zero, List, ◌++◌, Err, Ok, Result, drop, length, take}
use Rattle.gossip_line.specs.Texts.{long_line}
use Rattle.gossip_line.specs.declared.fault.LineFault.{LineFault}
use Rattle.gossip_line.specs.declared.fault.LineFault.TheVariants.{LongLine, NoMemory, WriteFault}

-- the text is added, and the result is this one; or memory was refused for it, and a proper prefix of it is added
abbrev pub Adds : {T : Type 0} → List ℕ → Result T LineFault → List ℕ → List ℕ → Result T LineFault → Type 0
Adds text wanted old new result =
    ((result ≡ wanted) × (new ≡ old ++ text))
    ⊎ ((result ≡ Err NoMemory) × ((count : ℕ) × (count < length text) × (new ≡ old ++ take count text)))

-- a failed write to memory is reported as refused memory
abbrev pub IsRefusingMemory : {T : Type 0} → Result T LineFault → Result T LineFault → Type 0
IsRefusingMemory (Err WriteFault) result = result ≡ Err NoMemory
IsRefusingMemory said result = result ≡ said

-- nothing is answered, except that a line is too long
abbrev pub MaySayLong : List ℕ → List ℕ → Type 0
MaySayLong old new = (new ≡ old) ⊎ ((result : Result (Unit {0}) LineFault) × Adds long_line (Err LongLine) old new result)

-- the text is added so many times, each time as much of it as there is memory for
abbrev pub AddsEach : ℕ → List ℕ → List ℕ → List ℕ → Type 0
AddsEach zero text old new = new ≡ old
AddsEach (suc count) text old new =
    (mid : List ℕ) × AddsEach count text old mid × ((result : Result Bool LineFault) × Adds text (Ok true) mid new result)

-- the unsent bytes are a suffix of those before: nothing is added
abbrev pub IsRest : List ℕ → List ℕ → Type 0
IsRest old new = (count : ℕ) × (new ≡ drop count old)
