use Rattle.site_journal.proofs.Crashes.{crash_of_lines, crash_of_header}
use Rattle.site_journal.proofs.laws.crashes_lose_nothing_acknowledged.Goals as goal

pub returns : goal.returns
returns c = record {
  lines = crash_of_lines c.operations_are_spelled.ensures.line c.operations_are_spelled.ensures.spells;
  first = crash_of_header;
}
