-- A front of what was to be written at once is a front of the time and the line.
use Rattle.std.proofs.Common.{◌++◌, ◌∙◌, ap, subst, take}
use Rattle.std.specs.Io.KnownBytes.{Appends}
use Rattle.timed_lines.proofs.Stamping.{at_any_error, front_of_both}
use Rattle.timed_lines.proofs.timed.Timed.begin.Goals as goal

pub returns-in_err-write_all-clause-cut : goal.returns-in_err-write_all-clause-cut
returns-in_err-write_all-clause-cut g c =
    let stamp = c.stamp_of-stamp.result.bytes in
    let line = c.args.line.now in
    let cut = c.in_err-write_all.ensures.err in
    let both = front_of_both stamp line cut.0 c.min.result in
    let time = c.as_bytes.ensures.value ∙ c.as_str.ensures.value in
    let whole = c.as_slice.ensures.value ∙ c.joined-text.ensures ∙ ap (λ text. text ++ take c.min.result line) time in
    let same = ap (take cut.0) whole ∙ both.1 in
    at_any_error c.from_residual.result (
      stamp,
      both.0,
      (_, c.moment.ensures, c.stamp_of-stamp.ensures),
      subst (Appends (g.D.Drain.taken c.args.self.now.inner) (g.D.Drain.taken c.write_all.new.drain)) same cut.2,
    )
