use Rattle.std.proofs.Common.{arith}
use Rattle.lattice_core.specs.ZipLaws.{AllZip-more}
use Rattle.graph_core.proofs.targets.all_targets.Goals as goal

pub loop-item-preserved : goal.loop-item-preserved
loop-item-preserved c =
    rw c.in_ok-push.ensures.items
    (AllZip-more _ c.args.items.now c.loop-item.rows.items c.loop-item.item-index _ c.in_ok-targets_of.field-0 (omega arith) c.loop-item.invariant c.in_ok-targets_of.ensures)
