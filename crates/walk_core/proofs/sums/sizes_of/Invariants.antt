use Rattle.std.proofs.Common.{◌≡◌, length, take}
use Rattle.walk_core.specs.Sums.{AreSizes}
use Rattle.walk_core.proofs.sums.sizes_of.Given as goal

abbrev pub invariant-loop-node : goal.invariant-loop-node
invariant-loop-node g l = record {
  size : length l.sizes.items ≡ length l.firsts;
  each : AreSizes l.firsts (take l.node-index l.nodes) l.sizes.items;
}
