-- What is written at once is of one line.
use Rattle.std.proofs.Common.{◌++◌, ◌≤◌, [], ap, false, length, refl, subst, sym, take}
use Rattle.std.specs.Io.KnownBytes.{Appends}
use Rattle.timed_lines.specs.Times.{Stamps}
use Rattle.timed_lines.proofs.Stamping.{at_any_error, grown_by_nothing, writes_front, writes_part}
use Rattle.timed_lines.proofs.timed.TimedDrain.write.Goals as goal
use Rattle.timed_lines.proofs.timed.TimedDrain.write.Goals.{then-self+in_ok-count, else-self+in_ok-count-2}

pub returns-in_err-count-clause-cut : goal.returns-in_err-count-clause-cut
returns-in_err-count-clause-cut g c =
    let old = c.args.self.now in
    let part = c.line_part-line.result.now in
    at_any_error c.from_residual.result
    (writes_front g.M.Moments.reads _ _ _ _ old.is_in_line [] c.args.bytes.now part 0 (length part) _
    (subst (λ in_line. Stamps g.M.Moments.reads in_line old.moments [] old.moments) (sym c.if-self.true) (refl, refl))
    (grown_by_nothing _ _ part c.in_err-count.ensures.bytes) c.line_part-line.ensures.front refl)

pub returns-in_err-count-2-clause-cut : goal.returns-in_err-count-2-clause-cut
returns-in_err-count-2-clause-cut g c =
    let old = c.args.self.now in
    let part = c.line_part-line.result.now in
    let cut = c.in_err-count-2.ensures.cut in
    at_any_error c.from_residual-in_err-count-2.result
    (writes_front g.M.Moments.reads _ _ _ _ old.is_in_line cut.0 c.args.bytes.now part cut.1 (length part) _
    (subst (λ in_line. Stamps g.M.Moments.reads in_line old.moments cut.0 c.begin.new.self.moments)
    (sym c.if-self.false) cut.2) cut.3 c.line_part-line.ensures.front c.in_err-count-2.ensures.same)

pub returns-clause-part : goal.returns-clause-part
returns-clause-part g c some =
    let reads = g.M.Moments.reads in
    let taken = g.D.Drain.taken in
    let old = c.args.self.now in
    let new = c.if-self.self in
    let part = c.line_part-line.result.now in
    let count = c.if-self.count in
    elim c.if-self.branch [
      | then-self+in_ok-count w ↦
          writes_part reads old.moments new.moments (taken old.inner) (taken new.inner) old.is_in_line [] c.args.bytes.now
          part count (length part) c.is_open-self.result
          (subst (λ in_line. Stamps reads in_line old.moments [] new.moments) (sym w.if-self.true)
          (ap (λ timed. timed.moments) w.self-is, refl))
          (subst (λ timed. Appends (taken old.inner) (taken timed.inner) (take count part)) (sym w.self-is)
          (subst (λ n. Appends (taken old.inner) (taken w.write.new.self) (take n part)) (sym w.count-is)
          w.in_ok-count.ensures.bytes))
          c.line_part-line.ensures.front (subst (λ n. n ≤ length part) (sym w.count-is) w.in_ok-count.ensures.bound)
          c.line_part-line.ensures.line c.is_open-self.ensures
      | else-self+in_ok-count-2 w ↦
          let begun = w.in_ok-count-2.ensures.begun in
          writes_part reads old.moments new.moments (taken old.inner) (taken new.inner) old.is_in_line begun.0
          c.args.bytes.now part count (length part) c.is_open-self.result
          (subst (λ in_line. Stamps reads in_line old.moments begun.0 new.moments) (sym w.if-self.false)
          (subst (λ timed. Stamps reads false old.moments begun.0 timed.moments) (sym w.self-is) begun.1))
          (subst (λ timed. Appends (taken old.inner) (taken timed.inner) (begun.0 ++ take count part)) (sym w.self-is)
          (subst (λ n. Appends (taken old.inner) (taken w.begin.new.self.inner) (begun.0 ++ take n part))
          (sym w.count-is) begun.2))
          c.line_part-line.ensures.front (subst (λ n. n ≤ length part) (sym w.count-is) w.in_ok-count-2.ensures.few.1)
          c.line_part-line.ensures.line c.is_open-self.ensures
    ]
