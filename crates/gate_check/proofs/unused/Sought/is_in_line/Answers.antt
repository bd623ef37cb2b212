use Rattle.gate_check.specs.Unused.{IsSought}
use Rattle.gate_check.proofs.Sought.{line_told}
use Rattle.gate_check.proofs.unused.Sought.is_in_line.Goals as goal

pub returns-in-Some : goal.returns-in-Some
returns-in-Some c =
    line_told (IsSought c.args.self) c.args.line.now c.in-Some.value.now c.is.result
    (λ other footer. c.footers_are_unique.ensures.line c.args.line.now other c.in-Some.value.now footer c.in-Some.ensures)
    c.in-Some.ensures c.is.ensures

pub returns-in-None : goal.returns-in-None
returns-in-None c = λ h. c.in-None.ensures h.0 h.1
