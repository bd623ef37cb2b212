use Rattle.std.proofs.Common.{◌^◌, ◌<◌, length, ◌∙◌, arith}
use Rattle.std.proofs.lemmas.List.Elements.{All-append}
use Rattle.walk_core.specs.Components.{sought_place}
use Rattle.walk_core.proofs.Places.{place_is, place_is_not}
use Rattle.walk_core.proofs.Places.{count_at-found, sought_found}
use Rattle.walk_core.proofs.Spreading.{taken_within, spreading_starts, spreading_passes, spreading_takes}
use Rattle.walk_core.proofs.component.spread.Goals as goal

pub loop-node-init : goal.loop-node-init
loop-node-init g c = record {
  spreading =
      rw (c.new-found.ensures.items, c.in_ok-ahead.ensures.items) (spreading_starts _ _ _ _ _ _ c.steps.ensures.row);
  within = rw c.in_ok-ahead.ensures.items c.steps.ensures.within;
}

pub loop-node-smaller-in-Continue-branch-3 : goal.loop-node-smaller-in-Continue-branch-3
loop-node-smaller-in-Continue-branch-3 g c =
    let places = c.loop-node.places.items in
    let way = c.args.way in
    let node = c.in-Some.node in
    let taken = taken_within (length c.args.graph.now) c.loop-node.ahead.items c.pop.new.self.items node c.in-Some.ensures.items c.loop-node.invariant.within in
    let within : node < length places = omega (arith, taken.0, c.loop-node.invariant.spreading.size, c.requires.nodes) in
    let told = rw c.sought.ensures at c.eq.ensures in
    let is = place_is places node _ (sought_place way) within c.index.ensures c.eq.result told c.if-eq.true in
    let fewer = count_at-found (sought_place way) c.found.result places node (λ same. sought_found way (same ∙ c.found.ensures)) within is in
    let short : length c.extend_from_slice.new.self.items < 2 ^ 64 = omega (arith, c.extend_from_slice.new.self.ok, c.extend_from_slice.new.self.small) in
    omega (arith, fewer, short)

pub loop-node-preserved-in-Continue-branch-3 : goal.loop-node-preserved-in-Continue-branch-3
loop-node-preserved-in-Continue-branch-3 g c =
    let size = length c.args.graph.now in
    let places = c.loop-node.places.items in
    let way = c.args.way in
    let node = c.in-Some.node in
    let old = rw c.in-Some.ensures.items at c.loop-node.invariant.spreading in
    let taken = taken_within size c.loop-node.ahead.items c.pop.new.self.items node c.in-Some.ensures.items c.loop-node.invariant.within in
    let within : node < length places = omega (arith, taken.0, c.loop-node.invariant.spreading.size, c.requires.nodes) in
    let told = rw c.sought.ensures at c.eq.ensures in
    let is = place_is places node _ (sought_place way) within c.index.ensures c.eq.result told c.if-eq.true in
    record {
      spreading = rw (c.found.ensures, c.in_ok-push.ensures.items, c.in_ok-extend_from_slice.ensures.items)
          (spreading_takes _ _ _ _ _ _ _ _ _ old (sought_found way) within is _ c.steps-then-eq.ensures.row);
      within = rw c.in_ok-extend_from_slice.ensures.items
          (All-append (λ x. x < size) _ _ taken.1 c.steps-then-eq.ensures.within);
    }

pub loop-node-preserved : goal.loop-node-preserved
loop-node-preserved g c =
    let places = c.loop-node.places.items in
    let node = c.in-Some.node in
    let old = rw c.in-Some.ensures.items at c.loop-node.invariant.spreading in
    let taken = taken_within (length c.args.graph.now) c.loop-node.ahead.items c.pop.new.self.items node c.in-Some.ensures.items c.loop-node.invariant.within in
    let within : node < length places = omega (arith, taken.0, c.loop-node.invariant.spreading.size, c.requires.nodes) in
    let told = rw c.sought.ensures at c.eq.ensures in
    let other = place_is_not places node _ (sought_place c.args.way) within c.index.ensures c.eq.result told c.if-eq.false in
    record {
      spreading = spreading_passes _ _ _ _ _ _ _ _ _ old other;
      within = taken.1;
    }
