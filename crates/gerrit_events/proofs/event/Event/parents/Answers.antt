use Rattle.std.proofs.Common.{◌++◌, ◌∷◌, [], sym, ap, ◌∙◌}
use Rattle.gerrit_events.specs.Trees.{data_in}
use Rattle.gerrit_events.specs.Patches.{parent_in, project_in}
use Rattle.gerrit_events.proofs.Lists.{filtered_more, filtered_less}
use Rattle.gerrit_events.proofs.event.Event.parents.Goals as goal

pub loop-value-preserved-in_default : goal.loop-value-preserved-in_default
loop-value-preserved-in_default c =
    let known = c.args.self.now.known.now in
    let kind = c.args.self.now.line.kind in
    let parent = parent_in known (project_in kind (data_in c.args.self.now.line.value.now)) kind in
    c.loop-value.invariant
    ∙ sym
    (filtered_less parent c.parents_part-values.result.now c.loop-value.value-index c.value-item.result c.loop-value-test.true
    (ap (λ v. parent (data_in v)) (sym c.value-item.is)
    ∙ ap (λ p. parent_in known p kind (data_in c.value-item.result)) (sym c.project-project.ensures)
    ∙ sym c.in_ok-change.ensures ∙ c.in_default.is))

pub loop-value-preserved : goal.loop-value-preserved
loop-value-preserved c =
    let known = c.args.self.now.known.now in
    let kind = c.args.self.now.line.kind in
    let parent = parent_in known (project_in kind (data_in c.args.self.now.line.value.now)) kind in
    c.in_ok-push.ensures.items ∙ (λ k. c.loop-value.invariant k ++ c.in-Some.change ∷ [])
    ∙ sym
    (filtered_more parent c.parents_part-values.result.now c.loop-value.value-index c.value-item.result c.loop-value-test.true _
    (ap (λ v. parent (data_in v)) (sym c.value-item.is)
    ∙ ap (λ p. parent_in known p kind (data_in c.value-item.result)) (sym c.project-project.ensures)
    ∙ sym c.in_ok-change.ensures ∙ c.in-Some.is))
