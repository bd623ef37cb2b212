use Rattle.std.proofs.Common.{◌≡◌, ◌∙◌, ◌++◌, ◌∷◌, [], map, ap, sym, arith, append-nil}
use Rattle.std.proofs.lemmas.Iterator.Adapters.{YieldsList-from_vec}
use Rattle.std.proofs.lemmas.Iterator.Consumers.{YieldsList-end}
use Rattle.std.proofs.lemmas.List.{map-append, map-id}
use Rattle.state_core.specs.State.{state_of, with_effect}
use Rattle.replica_core.proofs.Gathered.{state_of-more}
use Rattle.replica_core.proofs.joiner.move_each.Goals as goal

pub loop-op-init : goal.loop-op-init
loop-op-init g c = λ before is. is ∙ ap state_of (sym (append-nil before))

pub loop-op-preserved : goal.loop-op-preserved
loop-op-preserved g c = λ before is.
    let came = c.in_ok-add.ensures ∙ ap (with_effect c.loop-op.joining) c.taken_out.ensures in
    state_of-more before (map (λ one. one.1.now) c.loop-op.yielded) c.in-Some.op.now c.loop-op.joining c.add.new.self (c.loop-op.invariant before is) came
    ∙ ap (λ l. state_of (before ++ l)) (sym (map-append (λ one. one.1.now) c.loop-op.yielded ((c.in-Some.field-0-0, c.in-Some.op) ∷ [])))

pub returns : goal.returns
returns g c = λ before is.
    let items = c.args.ops.items in
    let gives = c.into_iter-op-iterator.ensures.into_iter_gives in
    let yields = YieldsList-from_vec {s = c.into_iter-op-iterator.result} items gives.0 (omega (arith, gives.1, c.args.ops.ok.0)) in
    let whole = YieldsList-end yields c.loop-op.yielded c.loop-op.op-iterator c.loop-op.yielded_by c.next.result c.next.new.self c.in-None.is c.next.ensures.steps in
    let each : map (λ one. one.1.now) items ≡ map (λ one. one.1.now) c.loop-op.yielded =
    sym (ap (map (λ one. one.1.now)) (sym (map-id c.loop-op.yielded) ∙ whole.0)) in
    c.in_ok-joined.ensures ∙ c.loop-op.invariant before (c.in_ok-joining.ensures ∙ is) ∙ ap (λ l. state_of (before ++ l)) (sym each)
