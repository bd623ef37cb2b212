use Rattle.std.proofs.Common.{ap, ◌∙◌}
use Rattle.std.specs.FinMap.{len}
use Rattle.page_text.proofs.metrics.starts_of.Goals as goal

pub returns : goal.returns
returns c = (c.in_ok-front.front, c.in_ok-front.ensures, c.len.ensures ∙ ap len c.rows.ensures.rows)
