use Rattle.std.proofs.Common.{refl}
use Rattle.page_text.specs.Rowless.{begun_in}
use Rattle.page_text.proofs.RowlessSteps.{nothing_added}
use Rattle.page_text.proofs.list.add_previous.Goals as goal

pub add_link-requires : goal.add_link-requires
unfolding begun_in
add_link-requires c = refl

pub returns-else-number-gt1 : goal.returns-else-number-gt1
returns-else-number-gt1 c = nothing_added c.args.page.now
