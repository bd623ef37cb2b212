use Rattle.std.proofs.Common.{◌<◌, ◌-◌, length, slice_index, arith}
use Rattle.std.proofs.lemmas.List.{drop_all, get_or_default}
use Rattle.std.proofs.lemmas.List.Elements.{Contains-get_or}
use Rattle.walk_core.proofs.Kept.{marked_of, unmarked_of, keeps_none, keeps_skips, keeps_takes, keeps_all}
use Rattle.walk_core.proofs.ranks.kept_from_last.Goals as goal

pub loop-left-init : goal.loop-left-init
loop-left-init g c = record {
  within = omega arith;
  keeps = rw c.new-found.ensures.items
      (keeps_none c.args.kept.now c.args.nodes.now _ (drop_all _ c.args.nodes.now (omega arith)));
}

pub bounds-kept-nodes : goal.bounds-kept-nodes
bounds-kept-nodes g c = (c.requires _).0 (Contains-get_or c.args.nodes.now (c.loop-left.left - 1) 0 (omega (arith, c.loop-left-test.true, c.loop-left.invariant.within)))

pub loop-left-preserved-then-not-kept-nodes : goal.loop-left-preserved-then-not-kept-nodes
loop-left-preserved-then-not-kept-nodes g c =
    let nodes = c.args.nodes.now in
    let here : c.loop-left.left - 1 < length nodes = omega (arith, c.loop-left-test.true, c.loop-left.invariant.within) in
    let inside = (c.requires _).0 (Contains-get_or nodes (c.loop-left.left - 1) 0 here) in
    record {
      within = omega (arith, c.loop-left.invariant.within);
      keeps = keeps_skips c.args.kept.now nodes _ c.loop-left.left
          (slice_index nodes (c.loop-left.left - 1)) c.loop-left-test.true c.loop-left.invariant.within
          (get_or_default nodes (c.loop-left.left - 1) 0 _ here) c.loop-left.invariant.keeps
          (unmarked_of _ _ _ inside c.if-not-kept-nodes.true);
    }

pub loop-left-preserved : goal.loop-left-preserved
loop-left-preserved g c =
    let nodes = c.args.nodes.now in
    let here : c.loop-left.left - 1 < length nodes = omega (arith, c.loop-left-test.true, c.loop-left.invariant.within) in
    let inside = (c.requires _).0 (Contains-get_or nodes (c.loop-left.left - 1) 0 here) in
    record {
      within = omega (arith, c.loop-left.invariant.within);
      keeps = rw c.in_ok-push.ensures.items (keeps_takes c.args.kept.now nodes _ c.loop-left.left (slice_index nodes (c.loop-left.left - 1)) c.loop-left-test.true c.loop-left.invariant.within (get_or_default nodes (c.loop-left.left - 1) 0 _ here) c.loop-left.invariant.keeps
          (marked_of _ _ _ inside c.if-not-kept-nodes.false));
    }

pub returns : goal.returns
returns g c = keeps_all c.args.kept.now c.args.nodes.now _ c.loop-left.left
    (omega (arith, c.loop-left-test.false)) c.loop-left.invariant.keeps c.requires
