use Rattle.std.proofs.Common.{◌≡◌, ◌<◌, ℕ, Vec, length, map, [], sym, subst, ◌∙◌}
use Rattle.std.proofs.lemmas.List.{length-map, length-replicate}
use Rattle.std.specs.List.{All}
use Rattle.walk_core.specs.Digraphs.{ends_of}
use Rattle.walk_core.specs.Edges.{IsWithin-row}
use Rattle.walk_core.specs.EdgeLaws.{Turned-more, Turned-all, ends_of-read}
use Rattle.walk_core.proofs.edges.turned_round.Goals as goal

pub name_ends-requires : goal.name_ends-requires
name_ends-requires g c =
    let items = λ (row : Vec ℕ g.row.A.Denot). row.items in
    let rows = c.args.ends.now in
    let graph = map items rows in
    let at : ends_of graph c.loop-node.node ≡ c.as_slice.result.now =
    ends_of-read items rows c.loop-node.node c.index-ends-node.result c.loop-node-test.true c.index-ends-node.is
    ∙ sym c.as_slice.ensures.value in
    let many : length graph ≡ length c.loop-node.namers.items =
    length-map rows items ∙ sym (length-replicate (length rows) []) ∙ sym c.loop-node.invariant.nodes
    ∙ length-map c.loop-node.namers.items items in
    subst (λ n. All (λ y. y < n) c.as_slice.result.now) many
    (subst (All (λ y. y < length graph)) at (IsWithin-row graph c.requires c.loop-node.node))

pub loop-node-preserved : goal.loop-node-preserved
loop-node-preserved g c =
    let items = λ (row : Vec ℕ g.row.A.Denot). row.items in
    let rows = c.args.ends.now in
    let at : ends_of (map items rows) c.loop-node.node ≡ c.as_slice.result.now =
    ends_of-read items rows c.loop-node.node c.index-ends-node.result c.loop-node-test.true c.index-ends-node.is
    ∙ sym c.as_slice.ensures.value in
    Turned-more (map items rows) c.loop-node.node c.as_slice.result.now _ _ _ at c.loop-node.invariant c.in_ok-name_ends.ensures

pub returns : goal.returns
returns g c =
    let items = λ (row : Vec ℕ g.row.A.Denot). row.items in
    let rows = c.args.ends.now in
    Turned-all (map items rows) (length rows) c.loop-node.node _
    (sym (length-map rows items)) c.loop-node-test.false c.loop-node.invariant
