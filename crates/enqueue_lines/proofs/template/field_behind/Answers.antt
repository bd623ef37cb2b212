use Rattle.enqueue_lines.specs.Shell.{after_bytes}
use Rattle.enqueue_lines.specs.declared.shell.ShellState.TheVariants.{Bare}
use Rattle.enqueue_lines.proofs.template.field_behind.Goals as goal

pub returns-in-Err-clause-refused : goal.returns-in-Err-clause-refused
returns-in-Err-clause-refused c = c.in-Err.ensures.refused (after_bytes Bare c.args.plain.now)
