use Rattle.std.proofs.Common.{◌≡◌, []}
use Rattle.query_plan.specs.Running.{AreLinesAnswered}
use Rattle.query_plan.proofs.run.plan_queries.Given as goal

-- so many lines were answered
abbrev pub invariant-loop-number : goal.invariant-loop-number
invariant-loop-number g l = (l.reader.limit ≡ 4096) × AreLinesAnswered 4096 l.number
    (record {
      plan = l.initial.plan;
      held = [];
      left = g.S.Source.left l.initial.source;
      unread = g.S.Source.failed l.initial.source;
      output = record { taken = g.D.Drain.taken l.initial.output; failed = g.D.Drain.failed l.initial.output };
      errors = record { taken = g.E.Drain.taken l.initial.errors; failed = g.E.Drain.failed l.initial.errors };
    })
    (record {
      plan = l.plan;
      held = l.reader.held;
      left = g.S.Source.left l.source;
      unread = g.S.Source.failed l.source;
      output = record { taken = g.D.Drain.taken l.output; failed = g.D.Drain.failed l.output };
      errors = record { taken = g.E.Drain.taken l.errors; failed = g.E.Drain.failed l.errors };
    })
