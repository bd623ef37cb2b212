use Rattle.std.proofs.Common.{lit<}
use Rattle.enqueue_lines.proofs.Numbers.{cut_so}
use Rattle.enqueue_lines.proofs.site_line.cut_at_blank.Goals as goal

pub returns : goal.returns
returns c = λ front rest lacks is. cut_so 32 front rest c.args.text.now c.split_once.result c.split_once.ensures.cases
    (lit< tt) lacks is
