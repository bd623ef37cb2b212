use Rattle.page_text.proofs.TableRows.{end_added}
use Rattle.page_text.proofs.table.add_end.Goals as goal

pub returns-in-Ok : goal.returns-in-Ok
returns-in-Ok c =
    end_added c.args.state.now c.args.verdicts.now c.args.left.item c.in-Ok.cause c.args.cells.now c.add_left.new.page
    c.in-Ok.ensures c.add_left.ensures
