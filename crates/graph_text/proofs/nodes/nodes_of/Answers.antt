use Rattle.std.proofs.Common.{List, subst}
use Rattle.ready_core.specs.declared.verdicts.Left.{Left}
use Rattle.graph_text.specs.Places.{IsNodeAt}
use Rattle.graph_text.proofs.PlaceByPlace.{node_less, node_more}
use Rattle.graph_text.proofs.nodes.nodes_of.Goals as goal

pub loop-place-preserved-then-not-is_shown : goal.loop-place-preserved-then-not-is_shown
loop-place-preserved-then-not-is_shown c =
    node_less c.args.state.now c.args.graph.now c.args.verdicts.now.out c.args.near.now.ahead.items c.args.near.now.behind.items c.firsts-firsts.result.now c.loop-place.place
    c.loop-place.nodes.items c.loop-place.invariant c.if-not-is_shown.ensures

pub loop-place-preserved : goal.loop-place-preserved
loop-place-preserved c =
    let state = c.args.state.now in
    let graph = c.args.graph.now in
    let ahead = c.args.near.now.ahead.items in
    let behind = c.args.near.now.behind.items in
    let firsts = c.firsts-firsts.result.now in
    let place = c.loop-place.place in
    let node = c.in_ok-node.node in
    let drawn = subst (λ (out : List Left). IsNodeAt state graph out ahead behind firsts place node) c.out.ensures c.in_ok-node.ensures in
    node_more state graph c.args.verdicts.now.out ahead behind firsts place c.loop-place.nodes.items c.loop-place.invariant c.if-not-is_shown.ensures node drawn
    c.push.new.self.items c.in_ok-push.ensures.items
