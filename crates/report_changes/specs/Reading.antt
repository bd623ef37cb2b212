-- What the text of groups says, line by line. The rank of an item that is left out isn't printed.
use Rattle.std.specs.Prelude.{◌<◌, ◌^◌, ℕ, List, [], ◌∷◌, ◌++◌, flat_map, map}
use Rattle.ready_core.specs.declared.verdicts.Left.{Left}
use Rattle.report_text.specs.Printed.{IsSmallItem, IsSmallLeft}
use Rattle.report_text.specs.Report.{end_line}
use Rattle.report_changes.specs.declared.lines.Line.{Line}
use Rattle.report_changes.specs.declared.lines.Line.TheVariants.{NotReady, Ready, Out, Gone}
use Rattle.report_changes.specs.Lines.{line_text}

-- a line of the text: one of a group, or one that ends a group
pub data GroupLine : Type 0 where
  says : Line → GroupLine
  ends : ℕ → ℕ → GroupLine

abbrev pub group_line_text : GroupLine → List ℕ
group_line_text (says line) = line_text line
group_line_text (ends ready out) = end_line ready out

abbrev pub entries_text : List GroupLine → List ℕ
entries_text = flat_map group_line_text

-- those of a group
abbrev pub group_lines : List Line → ℕ → ℕ → List GroupLine
group_lines [] ready out = []
group_lines (line ∷ lines) ready out = map says (line ∷ lines) ++ ends ready out ∷ []

-- what is read of a line
abbrev pub read_left : Left → Left
read_left left = record left { rank = 0 }

abbrev pub entry_read : GroupLine → GroupLine
entry_read (says (NotReady item)) = says (NotReady item)
entry_read (says (Ready item)) = says (Ready item)
entry_read (says (Out left)) = says (Out (read_left left))
entry_read (says (Gone item)) = says (Gone item)
entry_read (ends ready out) = ends ready out

-- its numbers have at most 64 bits
abbrev pub IsSmallEntry : GroupLine → Type 0
IsSmallEntry (says (NotReady item)) = IsSmallItem item
IsSmallEntry (says (Ready item)) = IsSmallItem item
IsSmallEntry (says (Out left)) = IsSmallLeft left
IsSmallEntry (says (Gone item)) = IsSmallItem item
IsSmallEntry (ends ready out) = (ready < 2 ^ 64) × (out < 2 ^ 64)
