use Rattle.std.proofs.Common.{◌≡◌, refl, arith}
use Rattle.std.specs.List.{range_with_len}
use Rattle.std.proofs.lemmas.Iterator.{items_from_collect, YieldsList-from_range}
use Rattle.std.proofs.lemmas.Result.{IfOk-at_ok}
use Rattle.walk_core.proofs.finish.all_nodes.Goals as goal

pub returns : goal.returns
returns g c =
    let collected = items_from_collect c.collect.result c.collect.ensures.ran (YieldsList-from_range 0 c.args.count c.args.count refl (omega arith)) in
    IfOk-at_ok (λ nodes. nodes.items ≡ range_with_len 0 c.args.count) c.in_ok-nodes.was collected
