use Rattle.std.proofs.Common.{◌++◌, ◌∷◌, [], sym, ap, ◌∙◌, option_map}
use Rattle.serde_json.specs.View.{view}
use Rattle.serde_json.specs.Find.{as_object}
use Rattle.gate_rules.specs.Reading.{pattern_of}
use Rattle.gate_rules.proofs.Lists.{filtered_more, filtered_less}
use Rattle.gate_rules.proofs.build.patterns_of.Goals as goal

pub loop-value-preserved-in_default : goal.loop-value-preserved-in_default
loop-value-preserved-in_default c =
    c.loop-value.invariant ∙ sym (filtered_less (λ d. option_map pattern_of (as_object d)) c.args.values.now c.loop-value.value-index c.value-item.result c.loop-value-test.true
    (ap (option_map pattern_of) (ap (λ v. as_object (view v)) (sym c.value-item.is) ∙ sym c.in_default.ensures)))

pub loop-value-preserved : goal.loop-value-preserved
loop-value-preserved c =
    rw (c.in_ok-push.ensures.items) ((λ k. c.loop-value.invariant k ++ c.in_ok-pattern_of.ensures k ∷ [])
    ∙ sym (filtered_more (λ d. option_map pattern_of (as_object d)) c.args.values.now c.loop-value.value-index c.value-item.result c.loop-value-test.true _
    (ap (option_map pattern_of) (ap (λ v. as_object (view v)) (sym c.value-item.is) ∙ sym c.in-Some.ensures))))
