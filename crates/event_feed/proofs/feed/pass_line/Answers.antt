use Rattle.std.proofs.Common.{Ok, inl, inr, ap, refl}
use Rattle.event_feed.proofs.LinesRead.{passed_all}
use Rattle.event_feed.proofs.feed.pass_line.Goals as goal

pub returns-in-Ok-false-clause-passes : goal.returns-in-Ok-false-clause-passes
returns-in-Ok-false-clause-passes g c =
    let passes = c.in-Ok-false.ensures.passes in
    inr (inl (record {
      came = passes.0;
      read = record { consumed = passes.1; none_failed = c.in-Ok-false.ensures.counted };
      plain = passed_all _ passes.0 _ c.in-Ok-false.field-0 c.in-Ok-false.field-0-test passes.2;
      end = c.in-Ok-false.ensures.end (ap Ok c.in-Ok-false.field-0-test);
      same = refl;
      last = c.refuse_last.result;
      refused = rw c.end.ensures at c.refuse_last.ensures;
      goes_on = c.and_more.ensures;
    }))
