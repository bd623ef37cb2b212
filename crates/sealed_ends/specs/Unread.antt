-- Why a sealed source isn't read.
use Rattle.std.specs.Prelude.{◌≡◌, ◌≢◌, ◌<◌, ℕ, List, [], ◌++◌, Option, Result, MatchResult, length}
use Rattle.std.specs.Io.KnownBytes.{IsAtEnd}
use Rattle.byte_ends.specs.Failures.{OneFailed}
use Rattle.byte_ends.specs.Lines.{as_line}
use Rattle.line_reader.specs.Lines.{HasNoLf}
use Rattle.sealed_line.specs.Sealing.{IsNoSeal, Sealing, last_count}
use Rattle.sealed_line.specs.declared.fault.SealFault.{SealFault}
use Rattle.sealed_line.specs.declared.fault.SealFault.TheVariants as seal
use Rattle.sealed_ends.specs.declared.fault.OpenFault.{OpenFault}
use Rattle.sealed_ends.specs.declared.fault.OpenFault.TheVariants.{ReadFault, BadLine, CutLine, LongLine, Spent, NoMemory}

abbrev pub open_fault : SealFault → OpenFault
open_fault seal.BadSeal = BadLine
open_fault seal.LongLine = LongLine
open_fault seal.Spent = Spent
open_fault seal.NoMemory = NoMemory

-- the most bytes of a sealed line
abbrev pub sealed_limit : ℕ
sealed_limit = 699096

-- why the first line that is held isn't opened
abbrev pub IsFrontUnopened : Sealing → List ℕ → OpenFault → Type 0
IsFrontUnopened s held ReadFault = ⊥
IsFrontUnopened s held BadLine = (line : List ℕ) × (rest : List ℕ) × (held ≡ as_line line ++ rest) × HasNoLf line × IsNoSeal s line
IsFrontUnopened s held CutLine = ⊥
IsFrontUnopened s held LongLine = ⊥
IsFrontUnopened s held Spent = s.count ≡ last_count
IsFrontUnopened s held NoMemory = Unit {0}

-- why what is held isn't opened, by the bytes that the source has left: its first line isn't the seal of one, it is a
-- piece of a line at the source's end, or a piece that is too long. That the source failed, its count says
abbrev pub IsUnreadSeal : Sealing → List ℕ → Option (List ℕ) → OpenFault → Type 0
IsUnreadSeal s held left ReadFault = Unit {0}
IsUnreadSeal s held left BadLine = IsFrontUnopened s held BadLine
IsUnreadSeal s held left CutLine = (held ≢ []) × HasNoLf held × IsAtEnd left
IsUnreadSeal s held left LongLine = HasNoLf held × (sealed_limit < length held)
IsUnreadSeal s held left Spent = s.count ≡ last_count
IsUnreadSeal s held left NoMemory = Unit {0}

-- no block was read
abbrev pub IsNoBlockRead : OpenFault → Type 0
IsNoBlockRead ReadFault = Unit {0}
IsNoBlockRead BadLine = ⊥
IsNoBlockRead CutLine = ⊥
IsNoBlockRead LongLine = ⊥
IsNoBlockRead Spent = ⊥
IsNoBlockRead NoMemory = Unit {0}

-- the source failed once where that is why, and else never
abbrev pub CountsOpenFault : ℕ → ℕ → OpenFault → Type 0
CountsOpenFault old new ReadFault = OneFailed old new
CountsOpenFault old new BadLine = new ≡ old
CountsOpenFault old new CutLine = new ≡ old
CountsOpenFault old new LongLine = new ≡ old
CountsOpenFault old new Spent = new ≡ old
CountsOpenFault old new NoMemory = new ≡ old

abbrev pub CountsOpenRead : {T : Type 0} → ℕ → ℕ → Result T OpenFault → Type 0
CountsOpenRead old new r = MatchResult r (λ _. new ≡ old) (CountsOpenFault old new)
