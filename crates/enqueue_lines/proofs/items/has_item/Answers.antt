use Rattle.std.proofs.Common.{◌∙◌}
use Rattle.report_changes.specs.Searching.{searched}
use Rattle.enqueue_lines.proofs.items.has_item.Goals as goal

pub returns : goal.returns
returns c =
    c.is_ok.ensures.value ∙ searched c.args.item c.args.ordered.now c.binary_search.result c.requires c.binary_search.ensures.bound c.binary_search.ensures.position
