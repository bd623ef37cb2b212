use Rattle.std.proofs.Common.{take}
use Rattle.markup_text.specs.Growing.{Grows}
use Rattle.page_text.specs.Table.{AddsRows}
use Rattle.page_text.proofs.table.add_rows.Given as goal

-- the rows so far are added
abbrev pub invariant-loop-row : goal.invariant-loop-row
invariant-loop-row l = Grows (AddsRows l.gate l.state l.verdicts (take l.row-index l.rows)) l.initial.page l.page
