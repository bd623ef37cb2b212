use Rattle.std.proofs.Common.{◌≡◌, ◌<◌, length, arith}
use Rattle.walk_core.specs.Components.{place_of}
use Rattle.walk_core.specs.declared.component.Place.TheVariants.{Waiting}
use Rattle.walk_core.specs.Edges.{HasEdge-starts}
use Rattle.walk_core.proofs.Places.{place_is, place_is_unless}
use Rattle.walk_core.proofs.Labelling.{found_component, found_alone}
use Rattle.walk_core.proofs.cycles.Components.settle.Goals as goal
use Rattle.walk_core.proofs.cycles.Components.settle.Goals.{then-eq+in_ok-push, else-eq}

pub label-requires : goal.label-requires
label-requires g c = λ x here.
    let member = (c.in_ok-members.ensures.members x).0 (rw c.as_slice-2.ensures.value at here) in
    let within = HasEdge-starts c.args.graph.now x member.back.1.0 member.back.1.1 in
    omega (arith, within, c.requires.found.size)

pub returns-clause-found : goal.returns-clause-found
returns-clause-found g c =
    let before : c.args.node < length c.args.self.now.places.items = omega (arith, c.requires.found.settled.size, c.requires.node) in
    let waits = place_is_unless c.args.self.now.places.items c.args.node _ Waiting before c.index.ensures c.ne.result c.ne.ensures c.if-ne.false in
    let members = c.in_ok-members.members.items in
    let least = rw c.as_slice.ensures.value at c.least-first.ensures in
    let labelled = rw c.as_slice-2.ensures.value at c.label.ensures in
    elim c.if-eq.branch [
      | then-eq+in_ok-push w ↦
          let inside : c.args.node < length c.find_component.new.places.items = omega (arith, c.in_ok-members.ensures.places.size, before) in
          let waiting : place_of c.find_component.new.places.items c.args.node ≡ Waiting = place_is c.find_component.new.places.items c.args.node _ Waiting inside c.index-2.ensures c.eq.result c.eq.ensures w.if-eq.true in
          rw (w.self-is, w.in_ok-push.ensures.items, c.in_ok-extend_from_slice.ensures.items, c.as_slice-3.ensures.value)
          (found_alone c.args.graph.now c.args.node _ _ _ _ c.requires.found waits c.in_ok-members.ensures.places members c.in_ok-members.ensures.members _ least _ labelled waiting c.requires.node)
      | else-eq w ↦
          rw (w.self-is, c.in_ok-extend_from_slice.ensures.items, c.as_slice-3.ensures.value)
          (found_component c.args.graph.now c.args.node _ _ _ _ c.requires.found waits c.in_ok-members.ensures.places members c.in_ok-members.ensures.members _ least _ labelled)
    ]
