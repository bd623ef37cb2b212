use Rattle.std.proofs.Common.{◌++◌, ◌∷◌, [], sym, ap, ◌∙◌}
use Rattle.std.proofs.lemmas.Int.{to_z-of_z}
use Rattle.serde_json.specs.View.{view}
use Rattle.gate_rules.specs.Reading.{vote_in}
use Rattle.std.specs.Int.{w8}
use Rattle.gate_rules.proofs.Lists.{filtered_more, filtered_less}
use Rattle.gate_rules.proofs.Votes.{vote_fits}
use Rattle.gate_rules.proofs.build.votes_of.Goals as goal

pub loop-value-preserved-in_default : goal.loop-value-preserved-in_default
loop-value-preserved-in_default c =
    c.loop-value.invariant ∙ sym
    (filtered_less vote_in c.args.values.now c.loop-value.value-index c.value-item.result c.loop-value-test.true
    (ap (λ v. vote_in (view v)) (sym c.value-item.is) ∙ sym c.in_default.ensures))

pub loop-value-preserved : goal.loop-value-preserved
loop-value-preserved c =
    let read = ap (λ v. vote_in (view v)) (sym c.value-item.is) ∙ sym c.in-Some.ensures in
    let kept = to_z-of_z w8 c.in-Some.vote (vote_fits (view c.value-item.result) c.in-Some.vote (sym c.in-Some.ensures)) in
    c.in_ok-push.ensures.items ∙ (λ k. c.loop-value.invariant k ++ kept k ∷ [])
    ∙ sym
    (filtered_more vote_in c.args.values.now c.loop-value.value-index c.value-item.result c.loop-value-test.true _ read)
