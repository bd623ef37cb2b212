use Rattle.std.proofs.Common.{◌∙◌, ◌∷◌, [], ap, sym, arith}
use Rattle.std.specs.Prelude.{fold}
use Rattle.std.proofs.lemmas.Iterator.Adapters.{YieldsList-from_vec}
use Rattle.std.proofs.lemmas.Iterator.Consumers.{YieldsList-end}
use Rattle.std.proofs.lemmas.List.{map-id}
use Rattle.std.proofs.lemmas.List.Sums.{fold-append}
use Rattle.state_core.specs.State.{with_effect}
use Rattle.replica_core.proofs.joining.consume_each.Goals as goal

pub loop-op-preserved : goal.loop-op-preserved
loop-op-preserved g c =
    c.in_ok-consume.ensures.ok ∙ ap (λ s. with_effect s c.in-Some.op) c.loop-op.invariant
    ∙ sym (fold-append with_effect c.args.state.now c.loop-op.yielded (c.in-Some.op ∷ []))

pub returns : goal.returns
returns g c =
    let items = c.args.ops.items in
    let gives = c.into_iter-op-iterator.ensures.into_iter_gives in
    let yields = YieldsList-from_vec {s = c.into_iter-op-iterator.result} items gives.0 (omega (arith, gives.1, c.args.ops.ok.0)) in
    let whole = YieldsList-end yields c.loop-op.yielded c.loop-op.op-iterator c.loop-op.yielded_by c.next.result c.next.new.self c.in-None.is c.next.ensures.steps in
    c.loop-op.invariant ∙ ap (fold with_effect c.args.state.now) (sym (map-id c.loop-op.yielded) ∙ whole.0)
