use Rattle.std.proofs.Common.{◌≡◌, true, sym, ap, ◌∙◌}
use Rattle.std.specs.List.{list_any}
use Rattle.gerrit_events.specs.Marks.{is_outdated_on}
use Rattle.gerrit_events.specs.Trees.{data_in}
use Rattle.gerrit_events.specs.Values.{listed_values}
use Rattle.gerrit_events.specs.Tests.{some_at}
use Rattle.gerrit_events.proofs.mark.has_outdated_parent.Goals as goal

pub returns-then-is_outdated_on : goal.returns-then-is_outdated_on
returns-then-is_outdated_on c =
    let outdated : is_outdated_on (data_in c.parent-item.result) ≡ true = cc in
    sym
    (sym (ap (list_any is_outdated_on) (c.listed-parents.ensures ∙ ap listed_values c.member.ensures))
    ∙ some_at is_outdated_on (λ v. data_in v) c.listed-parents.result.now c.loop-parent.parent-index
    c.parent-item.result c.loop-parent-test.true
    (ap (λ v. is_outdated_on (data_in v)) (sym c.parent-item.is) ∙ outdated))
