-- Which of the items that are left out are counted. That an item is over is as in `report_changes`.
use Rattle.std.specs.Prelude.{Bool, not, ◌&&◌}
use Rattle.ready_core.specs.declared.verdicts.Refusal.{Refusal}
use Rattle.report_changes.specs.Over.{is_over}
use Rattle.page_text.specs.declared.counts.Counted.{Counted}
use Rattle.page_text.specs.declared.counts.Counted.TheVariants.{Open, For, By}
use Rattle.page_text.specs.Held.{is_held}
use Rattle.page_text.specs.Rows.{is_for}

abbrev pub is_counted : Counted → Refusal → Bool
is_counted Open refusal = not (is_over refusal)
is_counted (For reason) refusal = not (is_over refusal) && is_for reason refusal
is_counted (By held) refusal = is_held held refusal
