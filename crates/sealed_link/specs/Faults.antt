-- Why a line isn't sealed or opened.
use Rattle.sealed_line.specs.declared.fault.SealFault.{SealFault}
use Rattle.sealed_line.specs.declared.fault.SealFault.TheVariants as seal
use Rattle.sealed_link.specs.declared.fault.WireFault.{WireFault}
use Rattle.sealed_link.specs.declared.fault.WireFault.TheVariants as wire

abbrev pub wire_fault : SealFault → WireFault
wire_fault seal.BadSeal = wire.BadLine
wire_fault seal.LongLine = wire.LongLine
wire_fault seal.Spent = wire.Spent
wire_fault seal.NoMemory = wire.NoMemory
