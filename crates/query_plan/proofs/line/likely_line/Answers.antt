use Rattle.std.proofs.Common.{IsUtf8, subst, sym}
use Rattle.query_plan.proofs.Texts.{line_utf8}
use Rattle.query_plan.proofs.line.likely_line.Goals as goal

pub returns-in-Err : goal.returns-in-Err
returns-in-Err c = λ line fits is. absurd (c.in-Err.ensures.cases.0 (subst IsUtf8 (sym is) (line_utf8 line fits)))
