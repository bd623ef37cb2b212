use Rattle.std.proofs.Common.{◌≡◌, flat_map, ap, ◌∙◌}
use Rattle.std.proofs.lemmas.List.{take_all}
use Rattle.graph_text.specs.declared.node.Node.{Node}
use Rattle.graph_text.proofs.PlaceByPlace.{all_unknown}
use Rattle.graph_text.proofs.text.unknown_of.Goals as goal

pub returns : goal.returns
returns c =
    let named : c.loop-node.unknown.items ≡ flat_map (λ (node : Node). node.unknown.items) c.args.nodes.now =
    c.loop-node.invariant ∙ ap (flat_map (λ (node : Node). node.unknown.items)) (take_all c.loop-node.node-index c.args.nodes.now c.loop-node-test.false) in
    all_unknown c.args.nodes.now _ _ _ named c.sort_unstable.ensures.permutation c.sort_unstable.ensures.sorted c.dedup.ensures.filtered
