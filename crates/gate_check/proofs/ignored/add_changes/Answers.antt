use Rattle.std.proofs.Common.{◌∙◌, ap, flat_map, map, subst}
use Rattle.std.specs.FinMap.{entries}
use Rattle.std.specs.Map.Iter.{deref_pair}
use Rattle.std.proofs.lemmas.Map.Iter.{rest_more, rest_all}
use Rattle.change_core.specs.Change.{Change}
use Rattle.state_core.specs.State.{state_shown}
use Rattle.gate_check.specs.Gained.{GainsTexts}
use Rattle.gate_check.specs.Ignored.{MessageMisses}
use Rattle.gate_check.specs.Unused.{SomeIs, messages_in, messages_of, messages_on}
use Rattle.gate_check.proofs.Missed.{leaves_all, leaves_later, leaves_none}
use Rattle.gate_check.proofs.ignored.add_changes.Goals as goal

pub loop-number-init : goal.loop-number-init
loop-number-init c =
    leaves_all (MessageMisses c.args.bases.now) c.args.values.now (messages_in (state_shown c.args.changes.now)) _
    (ap (flat_map messages_on) c.into_iter-number-iterator.ensures.into_iter_gives.1)

pub loop-number-preserved : goal.loop-number-preserved
loop-number-preserved c =
    let P = MessageMisses c.args.bases.now in
    let first = ap (λ l. flat_map messages_on (map (λ pair. (pair.0, pair.1)) l)) (rest_more deref_pair _ _ _ _ c.in-Some.is c.next.ensures.steps) in
    let step = subst (λ sets. GainsTexts c.loop-number.values (λ value. SomeIs (P value) (messages_of (entries sets))) c.add_sets.new.values) (c.sets.ensures ∙ ap (λ (change : Change). change.sets) c.get.ensures) c.in_ok-add_sets.ensures in
    leaves_later P c.args.values.now (messages_in (state_shown c.args.changes.now)) _ c.loop-number.values
    c.add_sets.new.values (messages_on (c.in-Some.number.now, c.in-Some.change.now)) _ first step c.loop-number.invariant

pub returns : goal.returns
returns c =
    leaves_none (MessageMisses c.args.bases.now) c.args.values.now (messages_in (state_shown c.args.changes.now)) _
    c.loop-number.values
    (ap (λ l. flat_map messages_on (map (λ pair. (pair.0, pair.1)) l)) (rest_all deref_pair _ _ _ c.in-None.is c.next.ensures.steps))
    c.loop-number.invariant
