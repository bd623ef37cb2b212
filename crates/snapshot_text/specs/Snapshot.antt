-- The text of a snapshot, and what a text says when it is read. The form is the project's own.
use Rattle.std.specs.Prelude.{◌≡◌, ◌≢◌, ◌⊎◌, ◌+◌, ◌<◌, ◌≤◌, ℕ, List, [], ◌∷◌, ◌++◌, codes, length, flat_map}
use Rattle.std.specs.Prelude.{Option, IfSome}
use Rattle.std.specs.Fmt.{decimal}
use Rattle.std.specs.Str.Parse.{IsNumeral, digits_value}
use Rattle.byte_ends.specs.Failures.{OneFailed}
use Rattle.byte_ends.specs.Lines.{as_line, lines_of}
use Rattle.review_ops.specs.Operation.{Operation}
use Rattle.replica_core.specs.Journal.{all_arrived}
use Rattle.op_text.specs.declared.field.Form.TheVariants as form
use Rattle.op_text.specs.declared.fault.OpTextFault.{OpTextFault}
use Rattle.op_text.specs.declared.fault.OpTextFault.TheVariants as op_fault
use Rattle.op_text.specs.Spelling.{SpellsOperation, IsRefusalOf}
use Rattle.op_text.specs.Text.{operation_text}
use Rattle.snapshot_text.specs.declared.fault.WriteSnapFault.{WriteSnapFault}
use Rattle.snapshot_text.specs.declared.fault.WriteSnapFault.TheVariants as write
use Rattle.snapshot_text.specs.declared.fault.SnapFault.{SnapFault}
use Rattle.snapshot_text.specs.declared.fault.SnapFault.TheVariants.{BadHeader, BadLine, NoEnd, BadCount, AfterEnd}
use Rattle.snapshot_text.specs.declared.fault.SnapFault.TheVariants.{TooLong, ReadFault, NoMemory}

-- ---- what is written

-- the texts of operations, one a line
abbrev pub operation_lines : List Operation → List ℕ
operation_lines ops = flat_map (λ op. as_line (operation_text op)) ops

-- the header, the operations one a line, and the end line with their number
abbrev pub snapshot_text : List Operation → List ℕ
snapshot_text ops =
    as_line (codes "reviewgate 2") ++ operation_lines ops ++ as_line (codes "end " ++ decimal (length ops))

-- ---- what is read

-- the first line says the version: the texts of version 1 are read too
abbrev pub IsHeader : List ℕ → Type 0
IsHeader text = (text ≡ codes "reviewgate 1") ⊎ (text ≡ codes "reviewgate 2")

-- the line is `end `, 1 to 20 digits that write the number, and nothing else
pub record IsEndLine (text : List ℕ) (count : ℕ) : Type 0 where
  pub digits : List ℕ
  pub form : text ≡ codes "end " ++ digits
  pub numeral : IsNumeral 10 digits
  pub short : length digits ≤ 20
  pub value : digits_value 10 digits ≡ count

abbrev pub IsNoEndLine : List ℕ → Type 0
IsNoEndLine text = (count : ℕ) → ¬ IsEndLine text count

-- any other line has to spell an operation
pub record IsOperationLine (text : List ℕ) (op : Operation) : Type 0 where
  pub other : IsNoEndLine text
  pub spells : SpellsOperation text op

-- the lines are those of the operations, one a line, in this order, in which an operation may be repeated
abbrev pub AreOperationLines : List (List ℕ) → List Operation → Type 0
AreOperationLines [] [] = Unit {0}
AreOperationLines [] (op ∷ ops) = ⊥
AreOperationLines (text ∷ lines) [] = ⊥
AreOperationLines (text ∷ lines) (op ∷ ops) = IsOperationLine text op × AreOperationLines lines ops

-- the lines are a header, lines of the operations, and the rest
pub record BeginsWith (lines : List (List ℕ)) (ops : List Operation) (rest : List (List ℕ)) : Type 0 where
  pub first : List ℕ
  pub front : List (List ℕ)
  pub form : lines ≡ first ∷ (front ++ rest)
  pub header : IsHeader first
  pub operations : AreOperationLines front ops

-- A snapshot's lines: the header, the operations' lines, and the end line with their number, repeats counted.
abbrev pub SaysOperations : List (List ℕ) → List Operation → Type 0
SaysOperations lines ops = (last : List ℕ) × BeginsWith lines ops (last ∷ []) × IsEndLine last (length ops)

-- why a line that is no end line isn't an operation's
abbrev pub IsLineCause : List ℕ → OpTextFault → Type 0
IsLineCause text op_fault.NotJson = IsRefusalOf form.Operation text op_fault.NotJson
IsLineCause text (op_fault.BadShape key) = IsRefusalOf form.Operation text (op_fault.BadShape key)
IsLineCause text (op_fault.BadBody fault) = IsRefusalOf form.Operation text (op_fault.BadBody fault)
IsLineCause text op_fault.NoMemory = ⊥

-- Which fault is first in the lines: all lines before it are as they should be. `NoMemory` says nothing about them.
abbrev pub IsFirstSnapFault : List (List ℕ) → SnapFault → Type 0
IsFirstSnapFault lines BadHeader = (first : List ℕ) (rest : List (List ℕ)) → lines ≡ first ∷ rest → ¬ IsHeader first
IsFirstSnapFault lines (BadLine n cause) =
    (ops : List Operation) × (text : List ℕ) × (rest : List (List ℕ)) × BeginsWith lines ops (text ∷ rest)
    × (n ≡ length ops + 2) × IsNoEndLine text × IsLineCause text cause
IsFirstSnapFault lines NoEnd = (ops : List Operation) × BeginsWith lines ops []
IsFirstSnapFault lines BadCount =
    (ops : List Operation) × (last : List ℕ) × (rest : List (List ℕ)) × BeginsWith lines ops (last ∷ rest) × (count : ℕ)
    × IsEndLine last count × (count ≢ length ops)
IsFirstSnapFault lines AfterEnd =
    (ops : List Operation) × (last after : List ℕ) × (rest : List (List ℕ)) × BeginsWith lines ops (last ∷ after ∷ rest)
    × IsEndLine last (length ops)
IsFirstSnapFault lines TooLong = ⊥
IsFirstSnapFault lines ReadFault = ⊥
IsFirstSnapFault lines NoMemory = Unit {0}

-- ---- what a source's bytes say

-- the most bytes that a snapshot has: 1 GiB
abbrev pub most_bytes : ℕ
most_bytes = 1073741824

-- why a text isn't read: there is too much of it, or else its first fault. A failed source and `NoMemory` say nothing
-- about the text.
abbrev pub IsRefusal : List ℕ → SnapFault → Type 0
IsRefusal text BadHeader = (length text ≤ most_bytes) × IsFirstSnapFault (lines_of text) BadHeader
IsRefusal text (BadLine n cause) = (length text ≤ most_bytes) × IsFirstSnapFault (lines_of text) (BadLine n cause)
IsRefusal text NoEnd = (length text ≤ most_bytes) × IsFirstSnapFault (lines_of text) NoEnd
IsRefusal text BadCount = (length text ≤ most_bytes) × IsFirstSnapFault (lines_of text) BadCount
IsRefusal text AfterEnd = (length text ≤ most_bytes) × IsFirstSnapFault (lines_of text) AfterEnd
IsRefusal text TooLong = most_bytes < length text
IsRefusal text ReadFault = Unit {0}
IsRefusal text NoMemory = Unit {0}

-- the fault is one of the text, or `NoMemory`: neither `TooLong` nor a failed source
abbrev pub IsOfText : SnapFault → Type 0
IsOfText fault = (fault ≢ TooLong) × (fault ≢ ReadFault)

-- ---- what is read where the bytes may not be known

-- the text is all that was there, where that is known, and within the limit
pub record IsWhole (known : Option (List ℕ)) (text : List ℕ) : Type 0 where
  pub same : IfSome known (λ bytes. text ≡ bytes)
  pub within : length text ≤ most_bytes

-- a whole text says operations, and they have arrived after those of the base
abbrev pub Brings : Option (List ℕ) → List Operation → List Operation → Type 0
Brings known base both =
    (text : List ℕ) × IsWhole known text × (ops : List Operation) × SaysOperations (lines_of text) ops
    × (both ≡ all_arrived base ops)

-- why nothing was brought: there is too much, reading failed, memory was refused, or a whole text has this fault first
abbrev pub IsRefusedBy : Option (List ℕ) → SnapFault → Type 0
IsRefusedBy known TooLong = IfSome known (λ bytes. most_bytes < length bytes)
IsRefusedBy known ReadFault = Unit {0}
IsRefusedBy known NoMemory = Unit {0}
IsRefusedBy known fault = (text : List ℕ) × IsWhole known text × IsFirstSnapFault (lines_of text) fault

-- the fault says nothing of the lines
abbrev pub IsOutside : SnapFault → Type 0
IsOutside fault = (fault ≡ TooLong) ⊎ (fault ≡ ReadFault) ⊎ (fault ≡ NoMemory)

-- after a failing source the count is one failure more, and any other fault leaves it
abbrev pub CountsSnapFault : ℕ → ℕ → SnapFault → Type 0
CountsSnapFault old new BadHeader = new ≡ old
CountsSnapFault old new (BadLine n cause) = new ≡ old
CountsSnapFault old new NoEnd = new ≡ old
CountsSnapFault old new BadCount = new ≡ old
CountsSnapFault old new AfterEnd = new ≡ old
CountsSnapFault old new TooLong = new ≡ old
CountsSnapFault old new ReadFault = OneFailed old new
CountsSnapFault old new NoMemory = new ≡ old

-- so does a failing drain
abbrev pub CountsWriteFault : ℕ → ℕ → WriteSnapFault → Type 0
CountsWriteFault old new write.WriteFault = OneFailed old new
CountsWriteFault old new write.NoMemory = new ≡ old
