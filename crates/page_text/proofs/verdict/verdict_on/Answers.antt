use Rattle.std.proofs.Common.{subst, Contains, List, Some, ◌≡◌}
use Rattle.std.specs.Prelude.{slice_get}
use Rattle.state_core.specs.declared.item.Item.{Item}
use Rattle.ready_core.specs.declared.verdicts.Left.{Left}
use Rattle.page_text.proofs.OutSteps.{out_has, ready_has}
use Rattle.page_text.proofs.verdict.verdict_on.Goals as goal

pub returns-in-Some-clause-there : goal.returns-in-Some-clause-there
returns-in-Some-clause-there c =
    ready_has c.args.verdicts.now c.in-Some.place c.args.item
    (subst (λ (l : List Item). slice_get l c.in-Some.place ≡ Some c.args.item) c.ready.ensures c.in-Some.ensures)

pub returns-in_ok-left_at-in-None-clause-there : goal.returns-in_ok-left_at-in-None-clause-there
returns-in_ok-left_at-in-None-clause-there c =
    let left = c.in_ok-left_at-in-None.field-0 in
    out_has c.args.verdicts.now left
    (subst (λ (l : List Left). Contains l left) c.out.ensures c.in_ok-left_at-in-None.ensures.there)
