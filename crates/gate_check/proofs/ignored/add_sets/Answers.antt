use Rattle.std.proofs.Common.{[], ◌∷◌, ap, map}
use Rattle.std.specs.FinMap.{entries}
use Rattle.std.specs.Map.Iter.{deref_pair}
use Rattle.std.proofs.lemmas.Map.Iter.{rest_more, rest_all}
use Rattle.change_core.specs.Parts.{patch_of, sets_shown}
use Rattle.gate_check.specs.Ignored.{MessageMisses}
use Rattle.gate_check.specs.Unused.{messages_of}
use Rattle.gate_check.proofs.Missed.{gains_alone, leaves_all, leaves_later, leaves_none}
use Rattle.gate_check.proofs.ignored.add_sets.Goals as goal

pub loop-set-init : goal.loop-set-init
loop-set-init c =
    leaves_all (MessageMisses c.args.bases.now) c.args.values.now (messages_of (entries (sets_shown c.args.sets.now))) _
    (ap messages_of c.into_iter-set-iterator.ensures.into_iter_gives.1)

pub loop-set-preserved : goal.loop-set-preserved
loop-set-preserved c =
    let P = MessageMisses c.args.bases.now in
    let m = (patch_of c.in-Some.register.now.1).message in
    let first = ap (λ l. messages_of (map (λ pair. (pair.0, (pair.1.0, patch_of pair.1.1))) l)) (rest_more deref_pair _ _ _ _ c.in-Some.is c.next.ensures.steps) in
    leaves_later P c.args.values.now (messages_of (entries (sets_shown c.args.sets.now))) _ c.loop-set.values c.add_register.new.values (m ∷ []) _ first
    (gains_alone P c.loop-set.values c.add_register.new.values m c.in_ok-add_register.ensures) c.loop-set.invariant

pub returns : goal.returns
returns c =
    leaves_none (MessageMisses c.args.bases.now) c.args.values.now (messages_of (entries (sets_shown c.args.sets.now))) _
    c.loop-set.values
    (ap (λ l. messages_of (map (λ pair. (pair.0, (pair.1.0, patch_of pair.1.1))) l)) (rest_all deref_pair _ _ _ c.in-None.is c.next.ensures.steps))
    c.loop-set.invariant
