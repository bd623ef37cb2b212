use Rattle.std.proofs.Common.{◌≡◌, ◌↔◌, ◌+◌, ℕ, List, Contains, Vec, map, sym, subst, arith}
use Rattle.walk_core.specs.Digraphs.{HasEdge}
use Rattle.walk_core.proofs.Reaching.{AreNamers, more_namers, all_named}
use Rattle.walk_core.proofs.reach.all_namers.Goals as goal

pub loop-node-preserved : goal.loop-node-preserved
loop-node-preserved g c =
    let graph = c.args.graph.now in
    let node = c.loop-node.node in
    let shown : Vec ℕ g.row.A.Denot → List ℕ = λ row. row.items in
    let same : c.in_ok-to_vec.field-0.items ≡ c.namers.result.now = c.in_ok-to_vec.ensures.items_if_clones_equal (λ x y e. e) in
    subst (λ rows. AreNamers graph (node + 1) (map shown rows)) (sym c.in_ok-push.ensures.items)
    (more_namers shown graph node c.loop-node.rows.items c.in_ok-to_vec.field-0 c.loop-node.invariant
    (λ y. subst (λ names. Contains names y ↔ HasEdge graph y node) (sym same) (c.namers.ensures.row y)))

pub returns : goal.returns
returns g c = all_named c.args.graph.now _ c.loop-node.node c.requires (omega arith) (omega arith) c.loop-node.invariant
