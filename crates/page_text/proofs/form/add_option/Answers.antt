use Rattle.std.proofs.Common.{refl}
use Rattle.page_text.specs.Rowless.{begun_in}
use Rattle.page_text.proofs.RowlessSteps.{one_piece}
use Rattle.page_text.proofs.form.add_option.Goals as goal

pub returns-then-is_chosen : goal.returns-then-is_chosen
unfolding begun_in
returns-then-is_chosen c = c.fill.ensures refl (one_piece _ c.requires)

pub returns-else-is_chosen : goal.returns-else-is_chosen
unfolding begun_in
returns-else-is_chosen c = c.fill-else-is_chosen.ensures refl (one_piece _ c.requires)
