use Rattle.std.proofs.Common.{codes}
use Rattle.markup_text.specs.Adding.{adds_then2}
use Rattle.page_text.specs.Table.{reason_html}
use Rattle.page_text.proofs.table.add_why.Goals as goal

pub returns : goal.returns
returns c =
    adds_then2 c.args.cells.now c.add.new.self c.add_reason.new.cells c.add-2.new.self (codes "<td class=\"waits\">")
    (reason_html c.args.gate.now c.args.refusal) (codes "</td>") c.add.ensures c.add_reason.ensures c.add-2.ensures
