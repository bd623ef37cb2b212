use Rattle.std.proofs.Common.{rules}
use Rattle.footer_text.proofs.Blanks.{front_more}
use Rattle.footer_text.proofs.footer.without_first_blanks.Goals as goal

pub loop-after-preserved : goal.loop-after-preserved
loop-after-preserved c =
    let found = c.in-Some.ensures in
    (search rules, front_more _ _ _ found.0 found.1 c.loop-after.invariant.1 found.2)
