use Rattle.std.proofs.Common.{◌≡◌, ◌+◌, ◌-◌, [], take, drop, inl, inr, refl, sym, ◌∙◌, subst, arith}
use Rattle.std.proofs.lemmas.List.{take_all}
use Rattle.walk_core.specs.Marks.{CountsBlock, LeadsToCount}
use Rattle.walk_core.proofs.Blocks.{count_none, block_within, next_counts}
use Rattle.walk_core.proofs.counts.count_targets.Goals as goal

pub loop-start-init : goal.loop-start-init
loop-start-init g c = record {
  within = omega arith;
  rows = c.requires.rows;
  bare = c.requires.bare;
  counts = c.requires.counts;
  each = λ x here. subst (LeadsToCount c.args.graph.now [] x) (sym (c.requires.zero x here))
      (count_none c.args.graph.now x);
  elsewhere = λ row. inr refl;
}

pub count_block-requires-clause-targets : goal.count_block-requires-clause-targets
count_block-requires-clause-targets g c =
    λ target here. c.requires.targets target (block_within c.loop-start.start _ c.args.targets.now target here)

pub loop-start-preserved : goal.loop-start-preserved
loop-start-preserved g c =
    let start = c.loop-start.start in
    let targets = c.args.targets.now in
    let same : (start + c.min.result) - start ≡ c.min.result = omega arith in
    let adds : CountsBlock c.args.graph.now c.args.firsts.now c.args.nodes.now (take c.min.result (drop start targets)) c.loop-start.counts.items c.count_block.new.counts.items =
    subst (λ n. CountsBlock c.args.graph.now c.args.firsts.now c.args.nodes.now (take n (drop start targets)) c.loop-start.counts.items c.count_block.new.counts.items) same c.count_block.ensures.each in
    record {
      within = omega (arith, c.min.ensures, c.loop-start.invariant.within);
      rows = c.count_block.ensures.rows;
      bare = c.count_block.ensures.bare;
      counts = c.count_block.ensures.counts;
      each = next_counts c.args.graph.now c.args.firsts.now c.args.nodes.now targets _ _ start c.min.result c.requires.in_order (omega arith) adds c.loop-start.invariant.each;
      elsewhere = λ row. elim (c.count_block.ensures.elsewhere row) [
        | inl here ↦ inl here
        | inr kept ↦ elim (c.loop-start.invariant.elsewhere row) [ inl here ↦ inl here | inr was ↦ inr (kept ∙ was) ]
      ];
    }

pub returns-clause-each : goal.returns-clause-each
returns-clause-each g c =
    rw (take_all c.loop-start.start c.args.targets.now c.loop-start-test.false) at c.loop-start.invariant.each
