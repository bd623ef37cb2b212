use Rattle.std.proofs.Common.{subst}
use Rattle.std.proofs.lemmas.Option.{slice_get-get_or, get_or_from_slice_get}
use Rattle.lattice_core.specs.PlaceLaws.{Contains-at}
use Rattle.state_core.specs.declared.item.Item.{Item}
use Rattle.gate_rules.specs.Own.{IsOwn}
use Rattle.ready_core.proofs.OwnConditions.{own_as_before}
use Rattle.ready_core.proofs.causes.own_at.Goals as goal

pub returns-then-is_among_its_own : goal.returns-then-is_among_its_own
returns-then-is_among_its_own c =
    own_as_before c.args.gate.now c.args.state.now c.args.items.now c.requires.items c.args.place
    (c.is_among_its_own.ensures c.if-is_among_its_own.true) c.args.before c.requires.before

pub own-requires : goal.own-requires
own-requires c =
    let no_item : Item = record { change = 0; set = 0 } in
    c.requires.items.each _ (Contains-at c.args.items.now c.args.place _ (slice_get-get_or c.args.items.now c.args.place no_item c.requires.place))

pub returns : goal.returns
returns c = λ item here.
    let no_item : Item = record { change = 0; set = 0 } in
    subst (λ i. IsOwn c.args.gate.now c.args.state.now i c.own.result)
    (get_or_from_slice_get c.args.items.now c.args.place item no_item here) c.own.ensures
