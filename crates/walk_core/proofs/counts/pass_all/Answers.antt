use Rattle.std.proofs.Common.{◌≡◌, ◌<◌, ◌≤◌, ◌*◌, ◌^◌, length, MatchBool, subst, arith}
use Rattle.walk_core.specs.Marks.{AreGathered, total_of}
use Rattle.walk_core.proofs.Passing.{passed_none, passed_more, passed_all, total_bound}
use Rattle.walk_core.proofs.counts.pass_all.Goals as goal

pub sweeps-init : goal.sweeps-init
sweeps-init g c = passed_none c.args.graph.now c.args.firsts.now c.args.nodes.now _

pub sweeps-smaller : goal.sweeps-smaller
sweeps-smaller g c =
    let before = c.sweeps.rows.items in
    let after = c.pass_once.new.rows.items in
    let rises : total_of before < total_of after = subst (λ b. MatchBool b (total_of before < total_of after) ((after ≡ before) × AreGathered c.args.graph.now c.args.firsts.now c.args.nodes.now after)) c.sweeps-test.true c.pass_once.ensures.step in
    let size : length after ≡ length c.args.rows.now.items = omega (arith, c.pass_once.ensures.size, c.sweeps.invariant.size) in
    let bound : total_of after ≤ length c.args.rows.now.items * (8 * 2 ^ 64) = subst (λ n. total_of after ≤ n * (8 * 2 ^ 64)) size (total_bound after) in
    omega (arith, rises, bound)

pub sweeps-preserved : goal.sweeps-preserved
sweeps-preserved g c = passed_more c.args.graph.now c.args.firsts.now c.args.nodes.now _ _ _ c.pass_once.result c.sweeps.invariant c.pass_once.ensures

pub returns : goal.returns
returns g c = passed_all c.args.graph.now c.args.firsts.now c.args.nodes.now _ _ _ c.pass_once.result c.sweeps-test.false c.sweeps.invariant c.pass_once.ensures
