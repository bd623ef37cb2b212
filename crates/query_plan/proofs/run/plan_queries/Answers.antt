use Rattle.std.proofs.Common.{◌∙◌, [], Bool, Ok, Result, ap, arith, inl, inr, refl}
use Rattle.query_plan.specs.declared.fault.PlanFault.{PlanFault}
use Rattle.query_plan.proofs.Talking.{answered_one, ran_nowhere, ran_out, ran_to}
use Rattle.query_plan.proofs.run.plan_queries.Goals as goal

pub returns-in_default : goal.returns-in_default
returns-in_default g c = (c.new-plan.result, c.new-plan.ensures, c.new-plan.result, [], inl (ran_nowhere 4096 _))

pub returns-in-Ok-false : goal.returns-in-Ok-false
returns-in-Ok-false g c =
    let whole : Bool → Result Bool PlanFault = λ more. Ok more in (
      c.new-plan.result,
      c.new-plan.ensures,
      c.answer_next.new.plan,
      c.answer_next.new.reader.held,
      ran_to 4096 c.loop-number.reader.limit c.loop-number.number _ _ _ _ _ c.loop-number.invariant.0
          (ap whole c.in-Ok-false.field-0-test)
          c.loop-number.invariant.1 c.in-Ok-false.ensures.ends,
    )

pub returns-in-Err : goal.returns-in-Err
returns-in-Err g c = (
  c.new-plan.result,
  c.new-plan.ensures,
  c.answer_next.new.plan,
  c.answer_next.new.reader.held,
  inl (ran_to 4096 c.loop-number.reader.limit c.loop-number.number _ _ _ _ _ c.loop-number.invariant.0 refl
      c.loop-number.invariant.1 c.in-Err.ensures.ends),
)

pub loop-number-preserved : goal.loop-number-preserved
loop-number-preserved g c = (
  c.answer_next.ensures.limit ∙ c.loop-number.invariant.0,
  answered_one 4096 c.loop-number.reader.limit c.loop-number.number _ _ _ c.in-Ok-true.field-0
      c.loop-number.invariant.0 c.in-Ok-true.field-0-test c.loop-number.invariant.1 c.in-Ok-true.ensures.ends,
)

pub returns : goal.returns
returns g c = (
  c.new-plan.result,
  c.new-plan.ensures,
  c.loop-number.plan,
  c.loop-number.reader.held,
  inr (refl, ran_out 4096 c.loop-number.number _ _ (omega arith) c.loop-number.invariant.1),
)
