use Rattle.std.proofs.Common.{◌<◌, ◌≤◌, None, length, get_or, subst, arith}
use Rattle.std.specs.List.{AllZip}
use Rattle.std.proofs.lemmas.List.{take_all}
use Rattle.std.proofs.lemmas.Option.{slice_get-get_or}
use Rattle.lattice_core.specs.PlaceLaws.{one_item}
use Rattle.lattice_core.specs.ZipLaws.{AllZip-at, AllZip-more, length-AllZip}
use Rattle.gate_rules.specs.Own.{IsOwn}
use Rattle.state_core.specs.declared.item.Item.{Item}
use Rattle.ready_core.specs.Causes.{IsCauseOf}
use Rattle.ready_core.proofs.causes.all_causes.Goals as goal

pub cause_of-requires-clause-place : goal.cause_of-requires-clause-place
cause_of-requires-clause-place c =
    omega (arith, length-AllZip (IsOwn c.args.gate.now c.args.state.now) c.args.graph.now.items c.args.owns.now c.requires.owns)

pub cause_of-requires-clause-own : goal.cause_of-requires-clause-own
cause_of-requires-clause-own c = λ item here.
    let gate = c.args.gate.now in
    let state = c.args.state.now in
    let owns = c.args.owns.now in
    let beside = AllZip-at (IsOwn gate state) c.args.graph.now.items owns c.requires.owns c.loop-place.place item here in
    subst (IsOwn gate state item) (one_item owns c.loop-place.place beside.0 (get_or owns c.loop-place.place None) beside.1 (slice_get-get_or owns c.loop-place.place None (omega arith))) beside.2

pub loop-place-preserved : goal.loop-place-preserved
loop-place-preserved c =
    let items = c.args.graph.now.items in
    let no_item : Item = record { change = 0; set = 0 } in
    let within : c.loop-place.place < length items = omega (arith, length-AllZip (IsOwn c.args.gate.now c.args.state.now) items c.args.owns.now c.requires.owns) in
    rw c.in_ok-push.ensures.items
    (AllZip-more (IsCauseOf c.args.gate.now c.args.state.now) items c.loop-place.causes.items c.loop-place.place no_item c.cause_of.result within
    c.loop-place.invariant (c.cause_of.ensures (get_or items c.loop-place.place no_item) (slice_get-get_or items c.loop-place.place no_item within)))

pub returns : goal.returns
returns c =
    let gate = c.args.gate.now in
    let state = c.args.state.now in
    let items = c.args.graph.now.items in
    let end : length items ≤ c.loop-place.place = omega (arith, length-AllZip (IsOwn gate state) items c.args.owns.now c.requires.owns) in
    subst (λ l. AllZip (IsCauseOf gate state) l c.loop-place.causes.items)
    (take_all c.loop-place.place items end) c.loop-place.invariant
