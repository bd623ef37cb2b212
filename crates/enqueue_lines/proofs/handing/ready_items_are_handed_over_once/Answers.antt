use Rattle.enqueue_lines.proofs.Once.{handed_once}
use Rattle.enqueue_lines.proofs.handing.ready_items_are_handed_over_once.Goals as goal

pub returns : goal.returns
returns c = handed_once
