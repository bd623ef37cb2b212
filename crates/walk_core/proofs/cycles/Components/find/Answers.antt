use Rattle.std.proofs.Common.{◌≢◌, ℕ, arith}
use Rattle.walk_core.specs.Components.{place_of}
use Rattle.walk_core.specs.declared.component.Place.TheVariants.{Waiting}
use Rattle.walk_core.proofs.Places.{place_within}
use Rattle.walk_core.proofs.Marks.{node_taken, rest_within, ahead_settled}
use Rattle.walk_core.proofs.Labelling.{firsts_found, all_found}
use Rattle.walk_core.proofs.cycles.Components.find.Goals as goal

pub loop-node-init : goal.loop-node-init
loop-node-init g c =
    let found = c.in_ok-components.ensures in
    record {
      found = found;
      ahead = λ x is. let inside = place_within c.in_ok-components.components.places.items x Waiting (λ same. cc (same)) is in
          (c.in_ok-order.ensures x).1 (omega (arith, inside, found.settled.size));
      within = λ x here. (c.in_ok-order.ensures x).0 here;
    }

pub settle-requires-clause-node : goal.settle-requires-clause-node
settle-requires-clause-node g c = node_taken _ _ _ _ c.in-Some.ensures.items c.loop-node.invariant.within

pub loop-node-preserved : goal.loop-node-preserved
loop-node-preserved g c = record {
  found = c.in_ok-settle.ensures.found;
  ahead = ahead_settled _ _ _ c.in-Some.ensures.items _ _ c.loop-node.invariant.ahead c.in_ok-settle.ensures.waits_no_longer;
  within = rest_within _ _ _ _ c.in-Some.ensures.items c.loop-node.invariant.within;
}

pub returns : goal.returns
returns g c =
    let places = c.loop-node.components.places.items in
    let found = c.loop-node.invariant.found in
    let none : (x : ℕ) → place_of places x ≢ Waiting = λ x is. let here = c.loop-node.invariant.ahead x is in omega (arith, here.1, c.in_default.ensures.cases.0, c.loop-node.order.ok) in
    record {
      settled = found.settled;
      none = none;
      firsts = firsts_found c.args.graph.now places _ _ found none;
      nodes = λ x. (λ here. found.within x here, λ within. all_found c.args.graph.now places _ _ found none x within);
    }
