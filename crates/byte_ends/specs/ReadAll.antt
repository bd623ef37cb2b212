-- How reading all that a source has left is refused.
use Rattle.std.specs.Prelude.{◌≡◌, ℕ, List, Result, MatchResult, codes}
use Rattle.byte_ends.specs.Failures.{OneFailed}
use Rattle.byte_ends.specs.declared.faults.BytesFault.{BytesFault}
use Rattle.byte_ends.specs.declared.faults.BytesFault.TheVariants.{TooLong, ReadFault, NoMemory}

-- the numbers and names of faults are the project's own
abbrev pub number_of : BytesFault → ℕ
number_of TooLong = 6
number_of ReadFault = 7
number_of NoMemory = 8

abbrev pub name_of : BytesFault → List ℕ
name_of TooLong = codes "TooLong"
name_of ReadFault = codes "ReadFault"
name_of NoMemory = codes "NoMemory"

-- a source that fails counts one failure more, and any other fault leaves the count
abbrev pub CountsFault : ℕ → ℕ → BytesFault → Type 0
CountsFault old new ReadFault = OneFailed old new
CountsFault old new TooLong = new ≡ old
CountsFault old new NoMemory = new ≡ old

abbrev pub CountsRead : {T : Type 0} → ℕ → ℕ → Result T BytesFault → Type 0
CountsRead old new r = MatchResult r (λ _. new ≡ old) (CountsFault old new)
