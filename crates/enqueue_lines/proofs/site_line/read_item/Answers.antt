use Rattle.std.proofs.Common.{◌≡◌, IsUtf8, sym, subst}
use Rattle.enqueue_lines.proofs.Numbers.{item_utf8}
use Rattle.enqueue_lines.proofs.site_line.read_item.Goals as goal

pub returns-in_default : goal.returns-in_default
returns-in_default c = λ item short is.
    absurd (c.in_default.ensures.cases.0 (subst IsUtf8 (sym is) (item_utf8 item short)))
