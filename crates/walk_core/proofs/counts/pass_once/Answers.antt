use Rattle.std.proofs.Common.{◌≡◌, ◌||◌, Bool, true, false, refl, slice_index}
use Rattle.std.proofs.lemmas.List.{get_or_default}
use Rattle.std.proofs.lemmas.List.Elements.{Contains-get_or}
use Rattle.walk_core.proofs.Passing.{passes_more}
use Rattle.walk_core.proofs.counts.pass_once.Goals as goal

neither : (a b : Bool) → a ≡ false → b ≡ false → (a || b) ≡ false
neither true b p q = cc
neither false b p q = q

first : (a b : Bool) → a ≡ true → (a || b) ≡ true
first true b p = refl
first false b p = cc

second : (a b : Bool) → b ≡ true → (a || b) ≡ true
second true b p = refl
second false b p = p

pub gather-changes-requires-clause-node : goal.gather-changes-requires-clause-node
gather-changes-requires-clause-node g c =
    c.requires.nodes.within _ (Contains-get_or c.args.nodes.now c.loop-node.node-index 0 c.loop-node-test.true)

pub loop-node-preserved : goal.loop-node-preserved
loop-node-preserved g c =
    let nodes = c.args.nodes.now in
    passes_more c.args.graph.now c.args.firsts.now nodes c.loop-node.node-index
    (slice_index nodes c.loop-node.node-index) c.loop-node-test.true
    (get_or_default nodes c.loop-node.node-index 0 _ c.loop-node-test.true)
    _ _ _ c.loop-node.changes c.gather-changes.result _ c.loop-node.invariant c.gather-changes.ensures
    (neither c.loop-node.changes c.gather-changes.result) (first c.loop-node.changes c.gather-changes.result)
    (second c.loop-node.changes c.gather-changes.result)
