use Rattle.site_journal.proofs.Lines.{one_reading, not_fresh}
use Rattle.site_journal.proofs.laws.journals_have_one_reading.Goals as goal

pub returns : goal.returns
returns c = record { one = one_reading c.texts_spell_once.ensures.operation; fresh = not_fresh }
