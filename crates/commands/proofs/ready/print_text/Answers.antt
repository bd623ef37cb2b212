use Rattle.std.proofs.Common.{◌≡◌, refl}
use Rattle.command_line.specs.declared.asked.OutputFormat.TheVariants.{Text}
use Rattle.commands.specs.Answers.{IsPrintedWhole, MissesNone, report_as}
use Rattle.commands.proofs.HowItEnds.{finishes}
use Rattle.commands.proofs.ready.print_text.Goals as goal

pub returns : goal.returns
returns g c =
    finishes (IsPrintedWhole (λ answer. answer ≡ report_as Text c.args.verdicts.now) MissesNone) (report_as Text c.args.verdicts.now)
    _ _ c.print_report.result refl c.print_report.ensures
