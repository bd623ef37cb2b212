use Rattle.std.proofs.Common.{◌≡◌, ◌+◌, ◌∙◌, ◌++◌, ◌∷◌, [], map, take, ap, sym, append-nil}
use Rattle.std.proofs.lemmas.List.{take_all, take_more, map-append}
use Rattle.state_core.specs.State.{state_of}
use Rattle.replica_core.proofs.Gathered.{state_of-more}
use Rattle.replica_core.proofs.joiner.take_each.Goals as goal

pub loop-op-init : goal.loop-op-init
loop-op-init g c = λ before is. is ∙ ap state_of (sym (append-nil before))

pub loop-op-preserved : goal.loop-op-preserved
loop-op-preserved g c = λ before is.
    let items = c.args.ops.now in
    let one = c.loop-op-item.result in
    let done = map (λ one. one.1.now) (take c.loop-op.op-index items) in
    let grown : map (λ one. one.1.now) (take (c.loop-op.op-index + 1) items) ≡ done ++ one.1.now ∷ [] = ap (map (λ one. one.1.now)) (take_more items c.loop-op.op-index one c.loop-op-test.true ∙ ap (λ x. take c.loop-op.op-index items ++ x ∷ []) (sym c.loop-op-item.is))
    ∙ map-append (λ one. one.1.now) (take c.loop-op.op-index items) (one ∷ []) in
    state_of-more before done one.1.now c.loop-op.joined c.take.new.self (c.loop-op.invariant before is) c.in_ok-take.ensures.ok
    ∙ ap (λ l. state_of (before ++ l)) (sym grown)

pub returns : goal.returns
returns g c = λ before is.
    c.loop-op.invariant before is
    ∙ ap (λ l. state_of (before ++ map (λ one. one.1.now) l)) (take_all c.loop-op.op-index c.args.ops.now c.loop-op-test.false)
