-- The numbers and names of faults. They are the project's own.
use Rattle.std.specs.Prelude.{ℕ, List, codes}
use Rattle.gossip_line.specs.declared.fault.LineFault.{LineFault}
use Rattle.gossip_line.specs.declared.fault.LineFault.TheVariants.{LongLine, BadVersion, ReadFault, WriteFault}
use Rattle.gossip_line.specs.declared.fault.LineFault.TheVariants.{NoMemory, BadAnswer, Closed, NotListed}
use Rattle.gossip_line.specs.declared.fault.LineFault.TheVariants.{FarAhead}

abbrev pub number_of : LineFault → ℕ
number_of LongLine = 1
number_of BadVersion = 2
number_of ReadFault = 3
number_of WriteFault = 4
number_of NoMemory = 5
number_of BadAnswer = 6
number_of Closed = 7
number_of NotListed = 11
number_of FarAhead = 12

abbrev pub name_of : LineFault → List ℕ
name_of LongLine = codes "LongLine"
name_of BadVersion = codes "BadVersion"
name_of ReadFault = codes "ReadFault"
name_of WriteFault = codes "WriteFault"
name_of NoMemory = codes "NoMemory"
name_of BadAnswer = codes "BadAnswer"
name_of Closed = codes "Closed"
name_of NotListed = codes "NotListed"
name_of FarAhead = codes "FarAhead"
