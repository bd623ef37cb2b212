-- The numbers and names of faults in reports. They are the project's own.
use Rattle.std.specs.Prelude.{◌≡◌, ℕ, List, codes}
use Rattle.byte_ends.specs.Failures.{OneFailed}
use Rattle.report_text.specs.declared.fault.WriteReportFault.{WriteReportFault}
use Rattle.report_text.specs.declared.fault.WriteReportFault.TheVariants as report
use Rattle.report_text.specs.declared.fault.WriteStateFault.{WriteStateFault}
use Rattle.report_text.specs.declared.fault.WriteStateFault.TheVariants as state

abbrev pub report_number_of : WriteReportFault → ℕ
report_number_of report.WriteFault = 1

abbrev pub report_name_of : WriteReportFault → List ℕ
report_name_of report.WriteFault = codes "WriteFault"

abbrev pub state_number_of : WriteStateFault → ℕ
state_number_of state.WriteFault = 1
state_number_of state.NoMemory = 2

abbrev pub state_name_of : WriteStateFault → List ℕ
state_name_of state.WriteFault = codes "WriteFault"
state_name_of state.NoMemory = codes "NoMemory"

-- a failing drain shows in a count of one failure more, and refused memory leaves the count
abbrev pub CountsStateFault : ℕ → ℕ → WriteStateFault → Type 0
CountsStateFault old new state.WriteFault = OneFailed old new
CountsStateFault old new state.NoMemory = new ≡ old
