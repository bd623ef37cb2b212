use Rattle.std.proofs.Common.{◌∙◌, map, sym}
use Rattle.std.proofs.lemmas.Result.{IfOk-weaker}
use Rattle.replica_core.proofs.Gathered.{state_of-permuted}
use Rattle.replica_core.proofs.gathering.consume_later.Goals as goal

pub returns : goal.returns
returns g c = IfOk-weaker c.move_each.result _ _
    (λ joined is before was. is before was
    ∙ sym (state_of-permuted before c.args.ops.now (map (λ one. one.1.now) c.in_ok-sorted.sorted.items) c.in_ok-sorted.ensures))
    c.move_each.ensures
