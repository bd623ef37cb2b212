use Rattle.walk_core.proofs.Kept.{marked_of, unmarked_of, kept_none, kept_skips, kept_takes, kept_all}
use Rattle.walk_core.proofs.ranks.kept_numbers.Goals as goal

pub loop-node-init : goal.loop-node-init
loop-node-init g c = rw c.new-nodes.ensures.items (kept_none c.args.kept.now)

pub loop-node-preserved-then-not-kept-node : goal.loop-node-preserved-then-not-kept-node
loop-node-preserved-then-not-kept-node g c =
    kept_skips _ _ _ c.loop-node.invariant (unmarked_of _ _ _ c.loop-node-test.true c.if-not-kept-node.true)

pub loop-node-preserved : goal.loop-node-preserved
loop-node-preserved g c = rw c.in_ok-push.ensures.items
    (kept_takes _ _ _ c.loop-node.invariant (marked_of _ _ _ c.loop-node-test.true c.if-not-kept-node.false))

pub returns-clause-just : goal.returns-clause-just
returns-clause-just g c = kept_all _ _ _ c.loop-node.invariant c.loop-node-test.false
