use Rattle.std.proofs.Common.{refl}
use Rattle.page_text.specs.Rowless.{begun_in}
use Rattle.page_text.proofs.RowlessSteps.{nothing_added}
use Rattle.page_text.proofs.list.add_heard.Goals as goal

pub add_ago-requires : goal.add_ago-requires
unfolding begun_in
add_ago-requires c = refl

pub returns-in_default : goal.returns-in_default
returns-in_default c = nothing_added c.args.page.now
