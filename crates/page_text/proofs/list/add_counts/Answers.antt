use Rattle.std.proofs.Common.{refl}
use Rattle.page_text.specs.Rowless.{begun_in}
use Rattle.page_text.proofs.RowlessSteps.{two_pieces}
use Rattle.page_text.proofs.list.add_counts.Goals as goal

pub returns : goal.returns
unfolding begun_in
returns c = c.fill.ensures refl (two_pieces _ _ tt tt)
