use Rattle.std.proofs.Common.{◌≡◌, ◌+◌, ◌<◌, slice_index, set, take, length, sym, subst, ◌∙◌, arith}
use Rattle.std.proofs.lemmas.List.{get_or-replicate, get_or_default, length-set}
use Rattle.std.proofs.lemmas.List.Elements.{Contains-get_or}
use Rattle.walk_core.specs.Sums.{AreSizes}
use Rattle.walk_core.proofs.Exits.{sizes_none, sizes_more, size_small}
use Rattle.walk_core.proofs.sums.sizes_of.Goals as goal

pub loop-node-init : goal.loop-node-init
loop-node-init g c =
    let zeros = c.in_ok-sizes.ensures.items_if_clones_equal (λ size same. same) in
    record {
      size = omega (arith, c.in_ok-sizes.ensures.len, c.in_ok-sizes.sizes.ok.0);
      each = rw zeros (sizes_none c.args.firsts.now _ (λ first within. get_or-replicate _ first 0 0 within));
    }

pub bounds-firsts-node : goal.bounds-firsts-node
bounds-firsts-node g c =
    c.requires.nodes _ (Contains-get_or c.args.nodes.now c.loop-node.node-index 0 c.loop-node-test.true)

pub offset_bounds-firsts-node : goal.offset_bounds-firsts-node
offset_bounds-firsts-node g c =
    let inside = c.requires.nodes _ (Contains-get_or c.args.nodes.now c.loop-node.node-index 0 c.loop-node-test.true) in
    omega (arith, inside)

pub index_mut-requires : goal.index_mut-requires
index_mut-requires g c =
    let inside = c.requires.firsts _ (Contains-get_or c.args.nodes.now c.loop-node.node-index 0 c.loop-node-test.true) in
    omega (arith, inside, c.loop-node.invariant.size, c.loop-node.sizes.ok.0)

pub overflow_add-index_mut : goal.overflow_add-index_mut
overflow_add-index_mut g c =
    let nodes = c.args.nodes.now in
    let first = slice_index c.args.firsts.now (slice_index nodes c.loop-node.node-index) in
    let inside = c.requires.firsts _ (Contains-get_or nodes c.loop-node.node-index 0 c.loop-node-test.true) in
    let few = size_small c.args.firsts.now nodes c.loop-node.node-index c.requires.in_order first _ (c.loop-node.invariant.each first inside) in
    let count = c.index_mut.result.now in
    let read : count ≡ slice_index c.loop-node.sizes.items first = c.index_mut.ensures.value ∙ get_or_default c.loop-node.sizes.items first count 0 (omega (arith, inside, c.loop-node.invariant.size)) in
    omega (arith, few, c.loop-node-test.true, read)

pub loop-node-preserved : goal.loop-node-preserved
loop-node-preserved g c =
    let nodes = c.args.nodes.now in
    let firsts = c.args.firsts.now in
    let sizes = c.loop-node.sizes.items in
    let node = slice_index nodes c.loop-node.node-index in
    let first = slice_index firsts node in
    let inside = c.requires.firsts node (Contains-get_or nodes c.loop-node.node-index 0 c.loop-node-test.true) in
    let within : first < length sizes = omega (arith, inside, c.loop-node.invariant.size) in
    let count = c.index_mut.result.now in
    let read : count ≡ slice_index sizes first = c.index_mut.ensures.value ∙ get_or_default sizes first count 0 within in
    let more = sizes_more firsts nodes c.loop-node.node-index node c.loop-node-test.true (get_or_default nodes c.loop-node.node-index 0 _ c.loop-node-test.true) c.requires.in_order sizes within c.loop-node.invariant.each in
    record {
      size = length-set sizes first (count + 1) ∙ c.loop-node.invariant.size;
      each = subst (λ n. AreSizes firsts (take (c.loop-node.node-index + 1) nodes) (set sizes first (n + 1)))
          (sym read) more;
    }
