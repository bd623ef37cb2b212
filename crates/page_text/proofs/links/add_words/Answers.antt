use Rattle.std.proofs.Common.{refl}
use Rattle.page_text.specs.Rowless.{begun_in}
use Rattle.page_text.proofs.RowlessSteps.{nothing_added, one_piece}
use Rattle.page_text.proofs.links.add_words.Goals as goal

pub returns-in-Some : goal.returns-in-Some
unfolding begun_in
returns-in-Some c = c.fill.ensures refl (one_piece _ tt)

pub returns-in_default : goal.returns-in_default
returns-in_default c = nothing_added c.args.page.now
