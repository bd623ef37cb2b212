-- The numbers and names of faults. They are the project's own.
use Rattle.std.specs.Prelude.{ℕ, List, codes}
use Rattle.site_port.specs.declared.fault.PortFault.{PortFault}
use Rattle.site_port.specs.declared.fault.PortFault.TheVariants as port
use Rattle.site_port.specs.declared.fault.SinkFault.{SinkFault}
use Rattle.site_port.specs.declared.fault.SinkFault.TheVariants as sink

abbrev pub port_number_of : PortFault → ℕ
port_number_of port.ClockSpent = 1
port_number_of (port.BadBody cause) = 2
port_number_of port.NoMemory = 3
port_number_of port.Closed = 4

abbrev pub port_name_of : PortFault → List ℕ
port_name_of port.ClockSpent = codes "ClockSpent"
port_name_of (port.BadBody cause) = codes "BadBody"
port_name_of port.NoMemory = codes "NoMemory"
port_name_of port.Closed = codes "Closed"

abbrev pub sink_number_of : SinkFault → ℕ
sink_number_of sink.NoMemory = 3
sink_number_of sink.Closed = 4
sink_number_of sink.NotListed = 11
sink_number_of sink.FarAhead = 12

abbrev pub sink_name_of : SinkFault → List ℕ
sink_name_of sink.NoMemory = codes "NoMemory"
sink_name_of sink.Closed = codes "Closed"
sink_name_of sink.NotListed = codes "NotListed"
sink_name_of sink.FarAhead = codes "FarAhead"
