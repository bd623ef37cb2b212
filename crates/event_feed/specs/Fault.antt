-- The numbers and names of faults, after those of events; 6 is that of a body that a site refused. They are the
-- project's own.
use Rattle.std.specs.Prelude.{ℕ, List, codes}
use Rattle.event_feed.specs.declared.fault.FeedFault.{FeedFault}
use Rattle.event_feed.specs.declared.fault.FeedFault.TheVariants.{Dropped, ReadFault, WriteFault, NoMemory, NoSite, Ended}
use Rattle.event_feed.specs.declared.fault.FeedFault.TheVariants.{Incomplete, NoEnd, NoKey, NotAllowed, NotProved}

abbrev pub number_of : FeedFault → ℕ
number_of Dropped = 2
number_of ReadFault = 3
number_of WriteFault = 4
number_of NoMemory = 5
number_of NoSite = 7
number_of Ended = 8
number_of Incomplete = 9
number_of NoKey = 10
number_of NotProved = 11
number_of NotAllowed = 12
number_of NoEnd = 13

abbrev pub name_of : FeedFault → List ℕ
name_of Dropped = codes "Dropped"
name_of ReadFault = codes "ReadFault"
name_of WriteFault = codes "WriteFault"
name_of NoMemory = codes "NoMemory"
name_of NoSite = codes "NoSite"
name_of Ended = codes "Ended"
name_of Incomplete = codes "Incomplete"
name_of NoKey = codes "NoKey"
name_of NotProved = codes "NotProved"
name_of NotAllowed = codes "NotAllowed"
name_of NoEnd = codes "NoEnd"
