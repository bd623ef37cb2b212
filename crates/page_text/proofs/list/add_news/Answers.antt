use Rattle.std.proofs.Common.{refl}
use Rattle.page_text.specs.Rowless.{begun_in}
use Rattle.page_text.proofs.RowlessSteps.{no_piece}
use Rattle.page_text.proofs.list.add_news.Goals as goal

pub add_ago-requires : goal.add_ago-requires
unfolding begun_in
add_ago-requires c = refl

pub returns-in-None : goal.returns-in-None
unfolding begun_in
returns-in-None c = c.fill.ensures refl no_piece
