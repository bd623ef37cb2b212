use Rattle.std.proofs.Common.{◌∙◌, ◌++◌, map, ap, sym}
use Rattle.std.proofs.lemmas.Result.{IfOk-weaker}
use Rattle.state_core.specs.State.{state_of}
use Rattle.replica_core.proofs.Gathered.{state_of-permuted}
use Rattle.replica_core.proofs.gathering.join_later.Goals as goal

pub returns : goal.returns
returns g c = IfOk-weaker c.take_each.result _ _
    (λ joined is before was. is before was
    ∙ ap (λ l. state_of (before ++ map (λ one. one.1.now) l)) c.as_slice.ensures.value
    ∙ sym (state_of-permuted before c.args.ops (map (λ one. one.1.now) c.in_ok-sorted.sorted.items) c.in_ok-sorted.ensures))
    c.take_each.ensures
