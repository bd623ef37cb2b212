use Rattle.std.proofs.Common.{map, take}
use Rattle.json_line.specs.Tokens.{AddsTokens}
use Rattle.page_text.specs.Sheets.{mark_token}
use Rattle.page_text.proofs.sheet.put_marks.Given as goal

-- the marks so far are added
abbrev pub invariant-loop-mark : goal.invariant-loop-mark
invariant-loop-mark l = AddsTokens l.initial.out l.out (map mark_token (take l.mark-index l.marks))
