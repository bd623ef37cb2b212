-- What a fault leaves of a drain's count of failures.
use Rattle.std.specs.Prelude.{◌≡◌, ℕ}
use Rattle.byte_ends.specs.Failures.{OneFailed}
use Rattle.report_changes.specs.declared.fault.WriteChangesFault.{WriteChangesFault}
use Rattle.report_changes.specs.declared.fault.WriteChangesFault.TheVariants.{WriteFault, NoMemory}

-- a failing drain shows in a count of one failure more, and refused memory leaves the count
abbrev pub CountsChangesFault : ℕ → ℕ → WriteChangesFault → Type 0
CountsChangesFault old new WriteFault = OneFailed old new
CountsChangesFault old new NoMemory = new ≡ old
