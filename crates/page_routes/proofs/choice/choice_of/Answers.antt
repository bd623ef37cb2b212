use Rattle.std.proofs.Common.{◌∙◌}
use Rattle.page_routes.proofs.Tables.{chosen_from}
use Rattle.page_routes.proofs.choice.choice_of.Goals as goal

pub returns : goal.returns
returns c =
    chosen_from _ _ _ _ _ _ _ _
    (c.as_str.ensures.value ∙ c.in_ok-show.ensures) (c.as_str-2.ensures.value ∙ c.in_ok-reason.ensures)
    c.in_ok-words.ensures (c.as_str-3.ensures.value ∙ c.in_ok-page.ensures) _ c.chosen.ensures
