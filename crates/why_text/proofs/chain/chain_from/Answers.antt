use Rattle.std.proofs.Common.{◌++◌, ◌∷◌, [], List, length, sym, ap, ◌∙◌, subst, arith, length-append}
use Rattle.std.specs.Prelude.{slice_get}
use Rattle.ready_core.specs.declared.verdicts.Left.{Left}
use Rattle.why_text.specs.Chain.{Path, WaitsFor}
use Rattle.why_text.proofs.Steps.{Path-push, first-push, cause_at}
use Rattle.why_text.proofs.chain.chain_from.Goals as goal

pub loop-left-preserved : goal.loop-left-preserved
loop-left-preserved c =
    let next = c.step_after-left.result in
    let pushed = c.in_ok-push.ensures.items in
    let waiting = c.loop-left.waiting.items in
    record {
      begins = ap (λ (l : List Left). slice_get (l ++ next ∷ []) 0) pushed ∙ first-push waiting c.loop-left.left next
          ∙ c.loop-left.invariant.begins;
      path =
          subst (λ (l : List Left). Path (WaitsFor c.args.state.now c.args.verdicts.now) (l ++ next ∷ [])) (sym pushed)
          (Path-push (WaitsFor c.args.state.now c.args.verdicts.now) waiting c.loop-left.left next c.loop-left.invariant.path c.step_after-left.ensures.next);
      out = c.step_after-left.ensures.next.out;
      steps = omega (arith, ap length pushed, length-append waiting (c.loop-left.left ∷ []), c.step_after-left.ensures.rank, c.loop-left.invariant.steps);
    }

pub returns : goal.returns
returns c =
    let left = c.loop-left.left in
    let cause = cause_at c.args.state.now c.args.verdicts.now left.refusal left.rank (c.requires.leads left c.loop-left.invariant.out) c.in_default.not-Dependency in
    record {
      begins = c.loop-left.invariant.begins;
      path = c.loop-left.invariant.path;
      ends = cause.0;
      out = c.loop-left.invariant.out;
      steps = omega (arith, c.loop-left.invariant.steps, cause.1);
    }
