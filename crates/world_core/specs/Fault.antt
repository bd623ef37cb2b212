-- How a refusal of the world is printed.
use Rattle.std.specs.Prelude.{ℕ, List, codes}
use Rattle.world_core.specs.declared.event.WorldFault.{WorldFault}
use Rattle.world_core.specs.declared.event.WorldFault.TheVariants.{NoSite, NoPacket, StartUsed, ClockSpent, BadBody}
use Rattle.world_core.specs.declared.event.WorldFault.TheVariants.{NoMemory}

abbrev pub number_of : WorldFault → ℕ
number_of NoSite = 1
number_of NoPacket = 2
number_of StartUsed = 3
number_of ClockSpent = 4
number_of (BadBody cause) = 5
number_of (NoMemory taken) = 6

abbrev pub name_of : WorldFault → List ℕ
name_of NoSite = codes "NoSite"
name_of NoPacket = codes "NoPacket"
name_of StartUsed = codes "StartUsed"
name_of ClockSpent = codes "ClockSpent"
name_of (BadBody cause) = codes "BadBody"
name_of (NoMemory taken) = codes "NoMemory"
