use Rattle.std.proofs.Common.{◌∙◌, ap, refl, reverse, arith}
use Rattle.std.proofs.lemmas.List.{reverse-reverse, nil_from_length}
use Rattle.replica_core.proofs.Absorbing.{at_err, at_ok, one_more_in, one_was_left, all_in, in_order}
use Rattle.replica_core.proofs.replica.Replica.take_in_order.Goals as goal

pub returns-then-is_err : goal.returns-then-is_err
returns-then-is_err g c =
    let turned = c.reverse.new.self.items in (
      reverse turned,
      in_order c.args.ops.items c.args.ops.items c.sort_unstable.new.self.items turned refl c.requires c.sort_unstable.ensures.permutation c.sort_unstable.ensures.sorted (ap reverse c.reverse.ensures.items ∙ reverse-reverse c.sort_unstable.new.self.items),
      (
        at_err c.take.result c.is_err.result c.is_err.ensures.value c.if-is_err.true c.take.ensures.err
            ∙ c.loop-op.invariant.done,
        one_was_left c.args.self.now (reverse turned) c.loop-op.taken c.loop-op.ops.items c.pop.new.self.items c.in-Some.op c.in-Some.ensures.items c.loop-op.invariant.left,
      ),
    )

pub loop-op-preserved : goal.loop-op-preserved
loop-op-preserved g c =
    let more = one_more_in c.args.self.now (reverse c.reverse.new.self.items) c.loop-op.taken c.loop-op.ops.items c.pop.new.self.items c.in-Some.op c.loop-op.self c.take.new.self
    c.in-Some.ensures.items c.loop-op.invariant.left c.loop-op.invariant.done (at_ok c.take.result c.is_err.result c.is_err.ensures.value c.if-is_err.false (λ x h. h.0) c.take.ensures.ok) in
    record { left = more.0; done = more.1 }

pub returns : goal.returns
returns g c =
    let turned = c.reverse.new.self.items in (
      reverse turned,
      in_order c.args.ops.items c.args.ops.items c.sort_unstable.new.self.items turned refl c.requires c.sort_unstable.ensures.permutation c.sort_unstable.ensures.sorted (ap reverse c.reverse.ensures.items ∙ reverse-reverse c.sort_unstable.new.self.items),
      all_in c.args.self.now (reverse turned) c.loop-op.taken c.loop-op.ops.items c.loop-op.self (nil_from_length c.loop-op.ops.items (omega (arith, c.loop-op.ops.ok.0, c.in_default.ensures.cases.0))) c.loop-op.invariant.left c.loop-op.invariant.done,
    )
