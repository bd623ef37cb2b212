use Rattle.page_text.proofs.RowlessSteps.{two_pieces}
use Rattle.page_text.proofs.list.add_ago.Goals as goal

pub returns : goal.returns
returns c = c.fill.ensures c.requires (two_pieces _ _ tt c.in_unit-number.ensures)
