use Rattle.std.proofs.Common.{◌≡◌, rules, lit<}
use Rattle.enqueue_lines.proofs.Braces.{brace_parts}
use Rattle.enqueue_lines.proofs.template.next_brace.Goals as goal

pub returns : goal.returns
returns c = brace_parts c.args.rest.now c.split_once.result c.split_once.ensures.cases
