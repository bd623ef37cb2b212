-- What is known when a snapshot was read to its end, or too much of it came.
use Rattle.std.proofs.Common.{◌≡◌, ◌⊎◌, ◌<◌, ◌≤◌, ◌∙◌, ℕ, List, Option, None, Some, Result, Ok, Err, length}
use Rattle.std.proofs.Common.{inr, ap, refl, sym, subst, arith, length-append}
use Rattle.std.proofs.KnownBytes.{Consumes-whole}
use Rattle.std.specs.Prelude.{IfSome, IfOk, IfErr, MatchResult}
use Rattle.std.specs.Io.KnownBytes.{Consumes, IsAtEnd}
use Rattle.byte_ends.specs.Lines.{lines_of}
use Rattle.review_ops.specs.Operation.{Operation}
use Rattle.replica_core.specs.Journal.{all_arrived}
use Rattle.snapshot_text.specs.declared.fault.SnapFault.{SnapFault}
use Rattle.snapshot_text.specs.declared.fault.SnapFault.TheVariants.{BadHeader, BadLine, NoEnd, BadCount, AfterEnd}
use Rattle.snapshot_text.specs.declared.fault.SnapFault.TheVariants.{TooLong, ReadFault, NoMemory}
use Rattle.snapshot_text.specs.Progress.{IsFaultIn}
use Rattle.snapshot_text.specs.Snapshot.{SaysOperations, IsFirstSnapFault, IsOutside, CountsSnapFault}
use Rattle.snapshot_text.specs.Snapshot.{IsRefusedBy, IsWhole, most_bytes}
use Rattle.snapshot_text.proofs.OneReading.{one_reading}

-- lines that say operations are read so, unless memory was refused
pub only_reading : (r : Result (List Operation) SnapFault) (base : List Operation) (lines : List (List ℕ))
    → IfOk r (λ journal. (ops : List Operation) × SaysOperations lines ops × (journal ≡ all_arrived base ops))
    → IfErr r (IsFaultIn lines) → (ops : List Operation) → SaysOperations lines ops
    → MatchResult r (λ journal. journal ≡ all_arrived base ops) (λ fault. fault ≡ NoMemory)
only_reading (Ok journal) base lines ok err ops says =
    ok.2 ∙ ap (all_arrived base) (one_reading lines ok.0 ops ok.1 says)
only_reading (Err fault) base lines ok err ops says = err.only ops says

pub outside_only : (r : Result (List Operation) SnapFault) (P : List Operation → Type 0)
    → MatchResult r P (λ fault. fault ≡ NoMemory) → MatchResult r P IsOutside
outside_only (Ok journal) P is = is
outside_only (Err fault) P is = inr (inr is)

-- a fault of the lines isn't the source's
fault_counts : (lines : List (List ℕ)) (old new : ℕ) → new ≡ old → (fault : SnapFault) → IsFirstSnapFault lines fault
    → CountsSnapFault old new fault
fault_counts lines old new same BadHeader is = same
fault_counts lines old new same (BadLine n cause) is = same
fault_counts lines old new same NoEnd is = same
fault_counts lines old new same BadCount is = same
fault_counts lines old new same AfterEnd is = same
fault_counts lines old new same TooLong is = absurd is
fault_counts lines old new same ReadFault is = absurd is
fault_counts lines old new same NoMemory is = same

pub reading_counts : {T : Type 0} (r : Result T SnapFault) (lines : List (List ℕ)) (old new : ℕ) → new ≡ old
    → IfErr r (IsFaultIn lines) → MatchResult r (λ _. new ≡ old) (CountsSnapFault old new)
reading_counts (Ok x) lines old new same err = same
reading_counts (Err fault) lines old new same err = fault_counts lines old new same fault err.first

-- ---- what a source had
pub known_text : (left : Option (List ℕ)) (came text : List ℕ) → left ≡ Some text → IfSome left (λ t. came ≡ t)
    → came ≡ text
known_text left came text e same = let known : IfSome (Some text) (λ t. came ≡ t) = subst (λ o. IfSome o (λ t. came ≡ t)) e same in known

pub too_much : (left new : Option (List ℕ)) (came : List ℕ) (most : ℕ) → Consumes left new came → most < length came
    → IfSome left (λ text. most < length text)
too_much None new came most read more = tt
too_much (Some text) None came most read more = absurd read
too_much (Some text) (Some rest) came most read more = omega (arith, more, ap length read, length-append came rest)

-- ---- a source that was read to its end
pub all_came : (old new : Option (List ℕ)) (came : List ℕ) → Consumes old new came → IsAtEnd new
    → length came ≤ most_bytes → IsWhole old came
all_came old new came read at_end few = record {
  same = Consumes-whole old new came (λ bytes. came ≡ bytes) read at_end refl;
  within = few;
}

pub at_end_anyway : {T P : Type 0} (r : Result T SnapFault) → P
    → MatchResult r (λ _. P) (λ fault. IsOutside fault ⊎ P)
at_end_anyway (Ok x) p = p
at_end_anyway (Err fault) p = inr p

-- the first fault of a whole text refuses it
pub refused_by : (known : Option (List ℕ)) (text : List ℕ) (fault : SnapFault) → IsWhole known text
    → IsFirstSnapFault (lines_of text) fault → IsRefusedBy known fault
refused_by known text BadHeader whole is = (text, whole, is)
refused_by known text (BadLine n cause) whole is = (text, whole, is)
refused_by known text NoEnd whole is = (text, whole, is)
refused_by known text BadCount whole is = (text, whole, is)
refused_by known text AfterEnd whole is = (text, whole, is)
refused_by known text TooLong whole is = absurd is
refused_by known text ReadFault whole is = absurd is
refused_by known text NoMemory whole is = tt

-- ---- a journal whose state was joined, unless memory was refused for that
abbrev pub Joins : Result (List Operation) SnapFault → List Operation → Type 0
Joins r journal = MatchResult r (λ joined. joined ≡ journal) (λ fault. fault ≡ NoMemory)

pub joined_ok : (P : List Operation → Type 0) (r : Result (List Operation) SnapFault) (journal : List Operation)
    → Joins r journal → P journal → IfOk r P
joined_ok P (Ok joined) journal is p = subst P (sym is) p
joined_ok P (Err fault) journal is p = tt

pub joined_err : (Q : SnapFault → Type 0) (r : Result (List Operation) SnapFault) (journal : List Operation)
    → Joins r journal → Q NoMemory → IfErr r Q
joined_err Q (Ok joined) journal is q = tt
joined_err Q (Err fault) journal is q = subst Q (sym is) q

pub joined_both : (P : List Operation → Type 0) (Q : SnapFault → Type 0) (r : Result (List Operation) SnapFault)
    (journal : List Operation) → Joins r journal → P journal → Q NoMemory → MatchResult r P Q
joined_both P Q (Ok joined) journal is p q = subst P (sym is) p
joined_both P Q (Err fault) journal is p q = subst Q (sym is) q
