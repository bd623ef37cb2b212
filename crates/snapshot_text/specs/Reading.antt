-- What the steps of reading say of a line that is no end line.
use Rattle.std.specs.Prelude.{◌≡◌, ℕ, List}
use Rattle.review_ops.specs.Operation.{Operation}
use Rattle.op_text.specs.Spelling.{SpellsOperation}
use Rattle.op_text.specs.declared.fault.OpTextFault.{OpTextFault}
use Rattle.op_text.specs.declared.fault.OpTextFault.TheVariants as op_fault
use Rattle.snapshot_text.specs.declared.fault.SnapFault.{SnapFault}
use Rattle.snapshot_text.specs.declared.fault.SnapFault.TheVariants.{BadHeader, BadLine, NoEnd, BadCount, AfterEnd}
use Rattle.snapshot_text.specs.declared.fault.SnapFault.TheVariants.{TooLong, ReadFault, NoMemory}
use Rattle.snapshot_text.specs.Snapshot.{IsLineCause}

-- how a refused line is reported
abbrev pub line_fault_of : ℕ → OpTextFault → SnapFault
line_fault_of number op_fault.NotJson = BadLine number op_fault.NotJson
line_fault_of number (op_fault.BadShape key) = BadLine number (op_fault.BadShape key)
line_fault_of number (op_fault.BadBody fault) = BadLine number (op_fault.BadBody fault)
line_fault_of number op_fault.NoMemory = NoMemory

-- the line of this number isn't an operation's, unless memory was refused
abbrev pub IsLineFault : List ℕ → ℕ → SnapFault → Type 0
IsLineFault text number BadHeader = ⊥
IsLineFault text number (BadLine n cause) =
    (n ≡ number) × IsLineCause text cause × ((op : Operation) → ¬ SpellsOperation text op)
IsLineFault text number NoEnd = ⊥
IsLineFault text number BadCount = ⊥
IsLineFault text number AfterEnd = ⊥
IsLineFault text number TooLong = ⊥
IsLineFault text number ReadFault = ⊥
IsLineFault text number NoMemory = Unit {0}
