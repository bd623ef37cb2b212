use Rattle.std.proofs.Common.{flat_map, take}
use Rattle.page_text.specs.Items.{row_tokens}
use Rattle.page_text.specs.Sheets.{NotesTokens}
use Rattle.page_text.proofs.json_items.add_rows.Given as goal

-- the rows so far are added
abbrev pub invariant-loop-row : goal.invariant-loop-row
invariant-loop-row l = NotesTokens (flat_map (row_tokens l.state) (take l.row-index l.rows)) l.initial.out l.out
