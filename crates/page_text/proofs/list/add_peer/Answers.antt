use Rattle.std.proofs.Common.{refl}
use Rattle.page_text.specs.Rowless.{begun_in}
use Rattle.page_text.proofs.RowlessSteps.{three_pieces}
use Rattle.page_text.proofs.list.add_peer.Goals as goal

pub returns : goal.returns
unfolding begun_in
returns c = c.fill.ensures refl (three_pieces _ _ _ tt tt c.in_unit-number.ensures)
