use Rattle.std.proofs.Common.{IsUtf8, sym, subst}
use Rattle.enqueue_lines.proofs.Numbers.{site_line_utf8}
use Rattle.enqueue_lines.proofs.site_line.likely_line.Goals as goal

pub returns-in_default-clause-likely : goal.returns-in_default-clause-likely
returns-in_default-clause-likely c = λ parsed short something is.
    absurd (c.in_default.ensures.cases.0 (subst IsUtf8 (sym is) (site_line_utf8 parsed short)))
