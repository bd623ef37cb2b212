-- The text of a journal: what it says, and what of it counts. The form is the project's own: a first line, then one
-- operation a line, in the order in which they came. What follows the last line end is a line that was torn while it
-- was written, and says nothing.
use Rattle.std.specs.Prelude.{◌≡◌, ◌<◌, ◌≤◌, ℕ, List, [], ◌∷◌, ◌++◌, codes, length, flat_map}
use Rattle.byte_ends.specs.Lines.{as_line}
use Rattle.line_reader.specs.Lines.{HasNoLf, line_limit}
use Rattle.review_ops.specs.Operation.{Operation}
use Rattle.op_text.specs.Spelling.{SpellsOperation}
use Rattle.op_text.specs.Text.{operation_text}
use Rattle.snapshot_text.specs.Snapshot.{operation_lines}
use Rattle.site_journal.specs.Prefixes.{IsPrefix}

-- the first line, with its line end
unfoldable pub header_line : List ℕ
header_line = as_line (codes "reviewgate 2")

-- ---- what is written

abbrev pub journal_text : List Operation → List ℕ
journal_text ops = header_line ++ operation_lines ops

-- the operations whose texts are lines of a journal: none is too long
abbrev pub AreShort : List Operation → Type 0
AreShort [] = Unit {0}
AreShort (op ∷ ops) = (length (operation_text op) ≤ line_limit) × AreShort ops

-- ---- what is read

-- these bytes, followed by a line end, are the line of the operation
pub record IsJournalLine (piece : List ℕ) (op : Operation) : Type 0 where
  pub plain : HasNoLf piece
  pub short : length piece ≤ line_limit
  pub spells : SpellsOperation piece op

-- the lines are those of the operations, in this order, in which an operation may be repeated
abbrev pub SayOperations : List (List ℕ) → List Operation → Type 0
SayOperations [] [] = Unit {0}
SayOperations [] (op ∷ ops) = ⊥
SayOperations (piece ∷ pieces) [] = ⊥
SayOperations (piece ∷ pieces) (op ∷ ops) = IsJournalLine piece op × SayOperations pieces ops

-- a line whose end wasn't written
pub record IsTorn (rest : List ℕ) : Type 0 where
  pub plain : HasNoLf rest
  pub short : length rest ≤ line_limit

-- whole lines
abbrev pub whole_lines : List (List ℕ) → List ℕ
whole_lines pieces = flat_map as_line pieces

-- the text is a journal of these operations, and the torn rest
pub record SaysJournal (text : List ℕ) (ops : List Operation) (rest : List ℕ) : Type 0 where
  pub pieces : List (List ℕ)
  pub whole : text ≡ header_line ++ (whole_lines pieces ++ rest)
  pub says : SayOperations pieces ops
  pub torn : IsTorn rest

-- a journal whose first line wasn't written to its end
abbrev pub IsFresh : List ℕ → Type 0
IsFresh text = IsPrefix text header_line × (length text < length header_line)
