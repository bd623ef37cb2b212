-- How a feed ends whose connection can't be sealed.
use Rattle.event_feed.specs.declared.fault.FeedFault.{FeedFault}
use Rattle.event_feed.specs.declared.fault.FeedFault.TheVariants as feed
use Rattle.sealed_link.specs.declared.fault.DialFault.{DialFault}
use Rattle.sealed_link.specs.declared.fault.DialFault.TheVariants.{ReadFault, WriteFault, BadAnswer, NoKey, NotProved, NoMemory}

-- the site has no such key, or doesn't prove that it has it; else nothing that came was an answer
abbrev pub ending_of_dial : DialFault → FeedFault
ending_of_dial ReadFault = feed.Ended
ending_of_dial WriteFault = feed.Ended
ending_of_dial BadAnswer = feed.Ended
ending_of_dial NoKey = feed.NoKey
ending_of_dial NotProved = feed.NotProved
ending_of_dial NoMemory = feed.NoMemory
