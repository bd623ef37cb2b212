-- The numbers and names of faults in reports. They are the project's own.
use Rattle.std.specs.Prelude.{ℕ, List, ◌++◌, codes, decimal}
use Rattle.byte_ends.specs.declared.faults.BytesFault.{BytesFault}
use Rattle.byte_ends.specs.declared.faults.BytesFault.TheVariants as bytes
use Rattle.op_text.specs.Fault as operation
use Rattle.snapshot_text.specs.declared.fault.SnapFault.{SnapFault}
use Rattle.snapshot_text.specs.declared.fault.SnapFault.TheVariants.{BadHeader, BadLine, NoEnd, BadCount, AfterEnd}
use Rattle.snapshot_text.specs.declared.fault.SnapFault.TheVariants.{TooLong, ReadFault, NoMemory}
use Rattle.snapshot_text.specs.declared.fault.WriteSnapFault.{WriteSnapFault}
use Rattle.snapshot_text.specs.declared.fault.WriteSnapFault.TheVariants as write

abbrev pub number_of : SnapFault → ℕ
number_of BadHeader = 1
number_of (BadLine n cause) = 2
number_of NoEnd = 3
number_of BadCount = 4
number_of AfterEnd = 5
number_of TooLong = 6
number_of ReadFault = 7
number_of NoMemory = 8

abbrev pub name_of : SnapFault → List ℕ
name_of BadHeader = codes "BadHeader"
name_of (BadLine n cause) = codes "BadLine"
name_of NoEnd = codes "NoEnd"
name_of BadCount = codes "BadCount"
name_of AfterEnd = codes "AfterEnd"
name_of TooLong = codes "TooLong"
name_of ReadFault = codes "ReadFault"
name_of NoMemory = codes "NoMemory"

-- the name, and of a bad line its number and the words of the cause
abbrev pub words_of : SnapFault → List ℕ
words_of (BadLine line cause) = codes "BadLine " ++ decimal line ++ codes " " ++ operation.words_of cause
words_of fault = name_of fault

-- where bytes aren't handed out, a snapshot is refused so, with the same number and name
abbrev pub snap_fault_of : BytesFault → SnapFault
snap_fault_of bytes.TooLong = TooLong
snap_fault_of bytes.ReadFault = ReadFault
snap_fault_of bytes.NoMemory = NoMemory

abbrev pub write_number_of : WriteSnapFault → ℕ
write_number_of write.WriteFault = 1
write_number_of write.NoMemory = 2

abbrev pub write_name_of : WriteSnapFault → List ℕ
write_name_of write.WriteFault = codes "WriteFault"
write_name_of write.NoMemory = codes "NoMemory"
