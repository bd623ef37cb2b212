-- Why the text of a journal isn't read, and the numbers and names of that. They are the project's own.
use Rattle.std.specs.Prelude.{◌≡◌, ◌+◌, ◌-◌, ◌^◌, ◌<◌, ℕ, List, ◌++◌, codes, decimal, length}
use Rattle.byte_ends.specs.Failures.{OneFailed}
use Rattle.byte_ends.specs.Lines.{as_line}
use Rattle.line_reader.specs.Lines.{HasNoLf, line_limit}
use Rattle.review_ops.specs.Operation.{Operation}
use Rattle.op_text.specs.Spelling.{SpellsOperation}
use Rattle.op_text.specs.Fault as operation
use Rattle.op_text.specs.declared.fault.OpTextFault.{OpTextFault}
use Rattle.op_text.specs.declared.fault.OpTextFault.TheVariants as text
use Rattle.snapshot_text.specs.Snapshot.{IsLineCause}
use Rattle.site_journal.specs.Prefixes.{IsPrefix}
use Rattle.site_journal.specs.Text.{header_line, SayOperations, whole_lines, IsFresh}
use Rattle.site_journal.specs.declared.fault.LineCause.{LineCause}
use Rattle.site_journal.specs.declared.fault.LineCause.TheVariants as cause
use Rattle.site_journal.specs.declared.fault.JournalFault.{JournalFault}
use Rattle.site_journal.specs.declared.fault.JournalFault.TheVariants.{BadHeader, BadLine, TooLong, Failed, NoMemory}

-- what begins with a line that isn't read, or with more bytes than a line has and no line end among them
abbrev pub IsNoLine : List ℕ → LineCause → Type 0
IsNoLine text cause.TooLong =
    (front later : List ℕ) × (text ≡ front ++ later) × HasNoLf front × (line_limit < length front)
IsNoLine text (cause.Text fault) =
    (piece later : List ℕ) × (text ≡ as_line piece ++ later) × HasNoLf piece × IsLineCause piece fault
    × ((op : Operation) → ¬ SpellsOperation piece op)

-- after the first line come lines of operations, and then what is no line, as that of this number, from 1
pub record IsBadLine (text : List ℕ) (number : ℕ) (why : LineCause) : Type 0 where
  pub pieces : List (List ℕ)
  pub ops : List Operation
  pub after : List ℕ
  pub whole : text ≡ header_line ++ (whole_lines pieces ++ after)
  pub says : SayOperations pieces ops
  pub count : number ≡ length pieces + 2
  pub bad : IsNoLine after why

-- the first line is another one
pub record IsBadHeader (text : List ℕ) : Type 0 where
  pub other : ¬ IsPrefix header_line text
  pub written : ¬ IsFresh text

-- the most bytes of a journal, of which no file has as many
abbrev pub most_text : ℕ
most_text = 2 ^ 64 - 131072

-- why a text isn't read; a failed end and `NoMemory` say nothing about the text
abbrev pub IsJournalRefusal : List ℕ → JournalFault → Type 0
IsJournalRefusal text BadHeader = IsBadHeader text
IsJournalRefusal text (BadLine number why) = IsBadLine text number why
IsJournalRefusal text TooLong = most_text < length text
IsJournalRefusal text Failed = Unit {0}
IsJournalRefusal text NoMemory = Unit {0}

-- after a call that failed the count is one more, and any other fault leaves it
abbrev pub CountsJournalFault : ℕ → ℕ → JournalFault → Type 0
CountsJournalFault old new BadHeader = new ≡ old
CountsJournalFault old new (BadLine number why) = new ≡ old
CountsJournalFault old new TooLong = new ≡ old
CountsJournalFault old new Failed = OneFailed old new
CountsJournalFault old new NoMemory = new ≡ old

-- ---- numbers and names

abbrev pub number_of : JournalFault → ℕ
number_of BadHeader = 1
number_of (BadLine number why) = 2
number_of TooLong = 3
number_of Failed = 4
number_of NoMemory = 5

abbrev pub name_of : JournalFault → List ℕ
name_of BadHeader = codes "BadHeader"
name_of (BadLine number why) = codes "BadLine"
name_of TooLong = codes "TooLong"
name_of Failed = codes "Failed"
name_of NoMemory = codes "NoMemory"

abbrev pub cause_words : LineCause → List ℕ
cause_words cause.TooLong = codes "TooLong"
cause_words (cause.Text fault) = operation.words_of fault

-- the name, and of a bad line its number and the words of the cause
abbrev pub words_of : JournalFault → List ℕ
words_of (BadLine number why) = codes "BadLine " ++ decimal number ++ codes " " ++ cause_words why
words_of fault = name_of fault

-- how a refused line is reported
abbrev pub line_fault_of : ℕ → OpTextFault → JournalFault
line_fault_of number text.NotJson = BadLine number (cause.Text text.NotJson)
line_fault_of number (text.BadShape key) = BadLine number (cause.Text (text.BadShape key))
line_fault_of number (text.BadBody fault) = BadLine number (cause.Text (text.BadBody fault))
line_fault_of number text.NoMemory = NoMemory
