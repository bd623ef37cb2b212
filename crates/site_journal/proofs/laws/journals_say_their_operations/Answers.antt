use Rattle.site_journal.proofs.Lines.{says_first, says_more}
use Rattle.site_journal.proofs.laws.journals_say_their_operations.Goals as goal

pub returns : goal.returns
returns c = record {
  first = says_first c.operations_are_spelled.ensures.line c.operations_are_spelled.ensures.spells;
  more = says_more c.operations_are_spelled.ensures.line c.operations_are_spelled.ensures.spells;
}
