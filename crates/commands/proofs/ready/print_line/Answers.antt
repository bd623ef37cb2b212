use Rattle.std.proofs.Common.{◌≡◌, ◌∙◌, List, ℕ, refl, subst}
use Rattle.console.specs.Printing.{Prints}
use Rattle.command_line.specs.declared.asked.OutputFormat.TheVariants.{Json}
use Rattle.commands.specs.Answers.{IsPrintedWhole, MissesNone, report_as}
use Rattle.commands.proofs.HowItEnds.{finishes, stops}
use Rattle.commands.proofs.ready.print_line.Goals as goal

pub returns-in-Ok : goal.returns-in-Ok
returns-in-Ok g c =
    finishes (IsPrintedWhole (λ answer. answer ≡ report_as Json c.args.verdicts.now) MissesNone) (report_as Json c.args.verdicts.now)
    _ _ c.print.result refl
    (subst (λ (text : List ℕ). Prints text (g.C.Console.state c.args.console.now) (g.C.Console.state c.print.new.self) c.print.result) (c.as_slice.ensures.value ∙ c.in-Ok.ensures) c.print.ensures)

pub returns-in-Err : goal.returns-in-Err
returns-in-Err g c = stops (λ answer. answer ≡ report_as Json c.args.verdicts.now) _
