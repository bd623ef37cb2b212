use Rattle.std.proofs.Common.{◌∙◌}
use Rattle.page_text.proofs.Counting.{counted_so}
use Rattle.page_text.proofs.statuses.status_count.Goals as goal

pub returns : goal.returns
returns c = c.count_among.ensures ∙ counted_so c.args.status _ _ _ c.iter.ensures.entries c.changes.ensures
