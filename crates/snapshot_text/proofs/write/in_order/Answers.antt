use Rattle.snapshot_text.proofs.Sorted.{in_order}
use Rattle.snapshot_text.proofs.write.in_order.Goals as goal

pub returns : goal.returns
returns c =
    in_order (λ op. op.now) c.args.journal c.in_ok-sorted.sorted.items c.sort_unstable.new.self.items
    c.in_ok-sorted.ensures
    c.requires c.sort_unstable.ensures.permutation c.sort_unstable.ensures.sorted
