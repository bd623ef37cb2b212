use Rattle.std.proofs.Common.{refl}
use Rattle.report_changes.proofs.lines.lines_of.Goals as goal

pub returns : goal.returns
returns c =
    rw (c.in_ok-add_gone_out.ensures, c.in_ok-add_gone_ready.ensures, c.in_ok-add_out.ensures, c.in_ok-add_ready.ensures, c.in_ok-add_not_ready.ensures, c.new-lines.ensures.items, c.out-2.ensures, c.ready-3.ensures, c.out.ensures, c.ready-2.ensures, c.ready.ensures) refl
