use Rattle.page_text.proofs.TableRows.{cells_end}
use Rattle.page_text.proofs.table.waiting_cells.Goals as goal

pub returns : goal.returns
returns c =
    cells_end c.args.gate.now c.args.state.now c.args.verdicts.now c.args.left c.new-cells.result c.add_why.new.cells c.add.new.self
    c.add_cause.new.cells c.add-2.new.self c.new-cells.ensures c.add_why.ensures c.add.ensures c.add_cause.ensures c.add-2.ensures
