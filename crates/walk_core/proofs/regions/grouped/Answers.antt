use Rattle.std.proofs.Common.{◌≡◌, ◌<◌, ◌++◌, ◌∷◌, [], Some, Vec, ℕ, length, map, set, slice_index, refl, ap, sym, ◌∙◌}
use Rattle.std.proofs.Common.{subst, arith}
use Rattle.std.proofs.lemmas.List.{get_or_default, length-map, map-set}
use Rattle.std.proofs.lemmas.List.Elements.{Contains-get_or}
use Rattle.walk_core.specs.Regions.{AreGrouped, label_of}
use Rattle.walk_core.specs.EdgeLaws.{ends_of-read}
use Rattle.walk_core.proofs.Labels.{grouped_none, grouped_skips, grouped_takes}
use Rattle.walk_core.proofs.regions.grouped.Goals as goal

pub bounds : goal.bounds
bounds g c = c.requires.nodes _ (Contains-get_or c.args.nodes.now c.loop-node.node-index 0 c.loop-node-test.true)

pub offset_bounds-labels-node : goal.offset_bounds-labels-node
offset_bounds-labels-node g c =
    let inside = c.requires.nodes _ (Contains-get_or c.args.nodes.now c.loop-node.node-index 0 c.loop-node-test.true) in
    omega (arith, inside)

pub index_mut-requires : goal.index_mut-requires
index_mut-requires g c =
    let items = λ (row : Vec ℕ g.row.A.Denot). row.items in
    let named : label_of c.args.labels.now (slice_index c.args.nodes.now c.loop-node.node-index) ≡ Some c.in-Some.label = c.in-Some.is in
    let within = c.requires.within _ c.in-Some.label named in
    omega (arith, within, c.loop-node.invariant.size, length-map c.loop-node.rows.items items, c.loop-node.rows.ok.0)

pub loop-node-preserved : goal.loop-node-preserved
loop-node-preserved g c =
    let items = λ (row : Vec ℕ g.row.A.Denot). row.items in
    let rows = c.loop-node.rows.items in
    let nodes = c.args.nodes.now in
    let node = slice_index nodes c.loop-node.node-index in
    let label = c.in-Some.label in
    let was = c.index_mut.result.now in
    let named : label_of c.args.labels.now node ≡ Some label = c.in-Some.is in
    let named_within = c.requires.within node label named in
    let inside : label < length (map items rows) = omega (arith, named_within, c.loop-node.invariant.size) in
    let within : label < length rows = omega (arith, inside, length-map rows items) in
    let more = grouped_takes c.args.labels.now nodes c.loop-node.node-index node c.loop-node-test.true
    (get_or_default nodes c.loop-node.node-index 0 _ c.loop-node-test.true)
    (map items rows) c.loop-node.invariant label named inside was.items (ends_of-read items rows label was within c.index_mut.ensures.value) in
    let written : map items (set rows label c.push.new.self) ≡ set (map items rows) label (was.items ++ node ∷ []) =
    map-set items rows label c.push.new.self ∙ ap (set (map items rows) label) c.in_ok-push.ensures.items in
    subst (AreGrouped c.args.labels.now _) (sym written) more

pub loop-node-init : goal.loop-node-init
loop-node-init g c = grouped_none c.args.labels.now _ _ c.in_ok-rows.ensures refl

pub loop-node-preserved-in_default : goal.loop-node-preserved-in_default
loop-node-preserved-in_default g c =
    let items = λ (row : Vec ℕ g.row.A.Denot). row.items in
    let nodes = c.args.nodes.now in
    let node = slice_index nodes c.loop-node.node-index in
    grouped_skips c.args.labels.now nodes c.loop-node.node-index node c.loop-node-test.true
    (get_or_default nodes c.loop-node.node-index 0 _ c.loop-node-test.true)
    (map items c.loop-node.rows.items) c.loop-node.invariant c.in_default.is
