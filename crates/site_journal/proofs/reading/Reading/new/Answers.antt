use Rattle.site_journal.proofs.Steps.{read_none}
use Rattle.site_journal.proofs.reading.Reading.new.Goals as goal

pub returns : goal.returns
returns c = rw (c.onto.ensures, c.new.ensures, c.new-2.ensures.items) read_none
