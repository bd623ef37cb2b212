use Rattle.std.proofs.Common.{◌++◌, ◌∷◌, [], sym, ap, ◌∙◌}
use Rattle.std.proofs.lemmas.List.{map-append}
use Rattle.serde_json.specs.View.{view}
use Rattle.serde_json.specs.Find.{as_str}
use Rattle.gate_rules.proofs.Lists.{filtered_more, filtered_less}
use Rattle.gate_rules.proofs.build.texts_of.Goals as goal

pub loop-value-preserved-in_default : goal.loop-value-preserved-in_default
loop-value-preserved-in_default c =
    c.loop-value.invariant ∙ sym
    (filtered_less as_str c.args.values.now c.loop-value.value-index c.value-item.result c.loop-value-test.true
    (ap (λ v. as_str (view v)) (sym c.value-item.is) ∙ sym c.in_default.ensures))

pub loop-value-preserved : goal.loop-value-preserved
loop-value-preserved c =
    rw (c.in_ok-push.ensures.items, map-append) ((λ k. c.loop-value.invariant k ++ c.in_ok-from_str.ensures.ok k ∷ [])
    ∙ sym (filtered_more as_str c.args.values.now c.loop-value.value-index c.value-item.result c.loop-value-test.true _
    (ap (λ v. as_str (view v)) (sym c.value-item.is) ∙ sym c.in-Some.ensures)))
