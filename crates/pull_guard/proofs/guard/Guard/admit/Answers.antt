use Rattle.std.proofs.Common.{subst, sym}
use Rattle.std.proofs.lemmas.List.{take_all}
use Rattle.std.proofs.lemmas.List.Elements.{All-more}
use Rattle.std.proofs.lemmas.Result.{err_from_is_err_and}
use Rattle.pull_guard.specs.Guards.{AreAllowed, AreBarred, IsAllowed, IsBarred}
use Rattle.pull_guard.proofs.Firsts.{first_barred}
use Rattle.pull_guard.proofs.guard.Guard.admit.Goals as goal

pub loop-op-preserved : goal.loop-op-preserved
loop-op-preserved c =
    let op = c.op-item.result in
    All-more (λ one. IsAllowed c.args.self.now c.args.latest one.stamp) c.args.ops.now c.loop-op.op-index op
    c.loop-op-test.true c.loop-op.invariant
    (subst (λ one. IsAllowed c.args.self.now c.args.latest one.stamp) c.op-item.is
    (subst (IsAllowed c.args.self.now c.args.latest) c.stamp.ensures.value c.in_ok-judge.ensures.ok))

pub returns-in_err-judge-clause-first : goal.returns-in_err-judge-clause-first
returns-in_err-judge-clause-first c =
    let refused = err_from_is_err_and c.from_residual.result c.from_residual.ensures.1 in
    rw refused.1
    (subst (AreBarred c.args.self.now c.args.latest c.args.ops.now) (sym refused.2)
    (first_barred c.args.self.now c.args.latest c.args.ops.now c.loop-op.op-index c.op-item.result
    c.in_err-judge.field-0.0 c.loop-op-test.true c.op-item.is c.loop-op.invariant
    (subst (λ stamp. IsBarred c.args.self.now c.args.latest stamp c.in_err-judge.field-0.0) c.stamp.ensures.value
    c.in_err-judge.ensures.err)))

pub returns-clause-all : goal.returns-clause-all
returns-clause-all c =
    subst (AreAllowed c.args.self.now c.args.latest)
    (take_all c.loop-op.op-index c.args.ops.now c.loop-op-test.false) c.loop-op.invariant
