use Rattle.std.proofs.Common.{refl, subst}
use Rattle.lattice_core.specs.PlaceLaws.{at_below}
use Rattle.gate_rules.specs.Own.{IsOwn}
use Rattle.ready_core.proofs.Causing.{targets_here, eligible_here, least_here}
use Rattle.ready_core.proofs.causes.cause_of.Goals as goal

pub returns-in-Some : goal.returns-in-Some
returns-in-Some c =
    λ item here. (subst (IsOwn c.args.gate.now c.args.state.now item) c.in-Some.is (c.requires.own item here), refl)

pub returns-then-is_barred : goal.returns-then-is_barred
returns-then-is_barred c = λ item here.
    (subst (IsOwn c.args.gate.now c.args.state.now item) c.in_default.is (c.requires.own item here), c.if-is_barred.ensures c.args.state.now item c.requires.graph here, refl)

pub first_unknown-requires : goal.first_unknown-requires
first_unknown-requires c =
    let here = at_below c.args.graph.now.items c.args.place c.requires.place in
    let are = targets_here c.args.gate.now c.args.state.now c.args.graph.now c.requires.graph c.args.place here.0 here.1 c.targets_at.result.now c.targets_at.ensures in
    are.increasing

pub returns-in_default-first_unknown : goal.returns-in_default-first_unknown
returns-in_default-first_unknown c = λ item here.
    let gate = c.args.gate.now in
    let state = c.args.state.now in
    eligible_here gate state c.args.graph.now c.requires.graph c.args.place item here c.targets_at.result.now c.targets_at.ensures
    (subst (IsOwn gate state item) c.in_default.is (c.requires.own item here))
    (c.if-is_barred.ensures state item c.requires.graph here) c.in_default-first_unknown.ensures

pub returns : goal.returns
returns c = λ item here.
    let gate = c.args.gate.now in
    let state = c.args.state.now in (
      subst (IsOwn gate state item) c.in_default.is (c.requires.own item here),
      c.if-is_barred.ensures state item c.requires.graph here,
      least_here gate state c.args.graph.now c.requires.graph c.args.place item here c.targets_at.result.now c.in-Some-first_unknown.unknown c.targets_at.ensures c.in-Some-first_unknown.ensures,
      refl,
    )
