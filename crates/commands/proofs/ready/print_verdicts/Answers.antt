use Rattle.std.proofs.Common.{◌≡◌, subst, sym}
use Rattle.command_line.specs.declared.asked.OutputFormat.{OutputFormat}
use Rattle.commands.specs.Answers.{IsPrintedWhole, MissesNone, report_as}
use Rattle.commands.specs.Ending.{Finishes}
use Rattle.commands.proofs.ready.print_verdicts.Goals as goal

pub returns-in-Json : goal.returns-in-Json
returns-in-Json g c =
    subst (λ (format : OutputFormat). Finishes (IsPrintedWhole (λ answer. answer ≡ report_as format c.args.verdicts.now) MissesNone) (g.C.Console.state c.args.console.now) (g.C.Console.state c.print_line.new.console) c.print_line.result) (sym c.in-Json.is) c.print_line.ensures

pub returns-in-Text : goal.returns-in-Text
returns-in-Text g c =
    subst (λ (format : OutputFormat). Finishes (IsPrintedWhole (λ answer. answer ≡ report_as format c.args.verdicts.now) MissesNone) (g.C.Console.state c.args.console.now) (g.C.Console.state c.print_text.new.console) c.print_text.result) (sym c.in-Text.is) c.print_text.ensures
