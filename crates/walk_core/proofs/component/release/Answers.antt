use Rattle.std.proofs.Common.{◌<◌, arith, length, get_or}
use Rattle.std.proofs.lemmas.List.Elements.{Contains-get_or}
use Rattle.walk_core.specs.declared.component.Place.TheVariants.{Behind}
use Rattle.walk_core.proofs.Places.{place_is, place_is_not}
use Rattle.walk_core.proofs.Released.{released_other, released_more}
use Rattle.walk_core.proofs.component.release.Goals as goal
use Rattle.walk_core.proofs.component.release.Goals.{then-eq, else-eq}

pub index-requires : goal.index-requires
index-requires g c =
    let within = c.requires _ (Contains-get_or c.args.nodes.now c.loop-node.node-index 0 c.loop-node-test.true) in
    omega (arith, within, c.loop-node.invariant.size, c.loop-node.places.ok.0)

pub index_mut-requires : goal.index_mut-requires
index_mut-requires g c =
    let within = c.requires _ (Contains-get_or c.args.nodes.now c.loop-node.node-index 0 c.loop-node-test.true) in
    omega (arith, within, c.loop-node.invariant.size, c.loop-node.places.ok.0)

pub loop-node-preserved : goal.loop-node-preserved
loop-node-preserved g c =
    let places = c.loop-node.places.items in
    let x = get_or c.args.nodes.now c.loop-node.node-index 0 in
    let listed = c.requires x (Contains-get_or c.args.nodes.now c.loop-node.node-index 0 c.loop-node-test.true) in
    let within : x < length places = omega (arith, listed, c.loop-node.invariant.size) in
    elim c.if-eq.branch [
      | then-eq w ↦
          let behind = place_is places x _ Behind within c.index.ensures c.eq.result c.eq.ensures w.if-eq.true in
          rw w.places-is (released_more _ _ c.loop-node-test.true _ _ c.loop-node.invariant within behind)
      | else-eq w ↦
          let other = place_is_not places x _ Behind within c.index.ensures c.eq.result c.eq.ensures w.if-eq.false in
          rw w.places-is (released_other _ _ c.loop-node-test.true _ _ c.loop-node.invariant other)
    ]
