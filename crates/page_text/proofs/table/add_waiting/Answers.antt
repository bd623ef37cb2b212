use Rattle.page_text.specs.declared.rows.Row.TheVariants.{Waits}
use Rattle.page_text.proofs.TableRows.{cells_added}
use Rattle.page_text.proofs.table.add_waiting.Goals as goal

pub returns : goal.returns
returns c =
    cells_added c.args.gate.now c.args.state.now c.args.verdicts.now (Waits c.args.left) c.args.page.now c.add.new.self c.add_about.new.page
    c.append.new.self c.waiting_cells-cells.result c.waiting_cells-cells.ensures c.add.ensures c.add_about.ensures c.append.ensures
