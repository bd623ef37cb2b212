-- What a clause reads of a source as a feed.
use Rattle.site_journal.specs.declared.tape.SourceFeed.{SourceFeed}

abbrev pub feed_source : {S : Type 0} → SourceFeed S → S
feed_source feed = feed.source
