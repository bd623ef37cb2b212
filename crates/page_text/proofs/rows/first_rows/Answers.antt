use Rattle.std.proofs.Common.{sym, arith}
use Rattle.std.proofs.lemmas.List.{length-take-le}
use Rattle.page_text.proofs.RowSteps.{take_whole}
use Rattle.page_text.proofs.rows.first_rows.Goals as goal

pub returns-then-rows-le-ROWS : goal.returns-then-rows-le-ROWS
returns-then-rows-le-ROWS c = sym (take_whole 100 c.args.rows.now c.if-rows-le-ROWS.true)

pub slice_bounds-result-end : goal.slice_bounds-result-end
slice_bounds-result-end c = sym (length-take-le 100 c.args.rows.now (omega arith))
