use Rattle.enqueue_lines.proofs.Begins.{begins_so}
use Rattle.enqueue_lines.proofs.site_line.begins.Goals as goal

pub returns : goal.returns
returns c = begins_so c.args.word.now c.args.line.now c.starts_with.result c.starts_with.ensures.value
