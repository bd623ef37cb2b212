use Rattle.std.proofs.Common.{◌≡◌, ◌<◌, true, length, subst, ◌∙◌, arith}
use Rattle.std.proofs.lemmas.List.{get_or-replicate, length-replicate}
use Rattle.std.proofs.lemmas.Option.{slice_get-get_or}
use Rattle.std.specs.List.{slice_get}
use Rattle.std.proofs.Common.{replicate, Some, ap}
use Rattle.walk_tests.proofs.orders.order_of.Goals as goal

pub in_rank_order-requires-clause-closed : goal.in_rank_order-requires-clause-closed
in_rank_order-requires-clause-closed g c = λ x y kept edge.
    let within : y < c.args.nodes = let less = c.in_ok-graph.ensures.within x y edge in omega (arith, less, c.in_ok-graph.ensures.nodes) in
    let all = c.in_ok-kept.ensures.items_if_clones_equal (λ flag same. same) in
    let inside : y < length (replicate c.args.nodes true) = omega (arith, within, length-replicate c.args.nodes true) in
    let at : slice_get (replicate c.args.nodes true) y ≡ Some true = slice_get-get_or (replicate c.args.nodes true) y true inside ∙ ap Some (get_or-replicate c.args.nodes y true true within) in
    rw (c.as_slice.ensures.value, all) at
