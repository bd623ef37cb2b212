use Rattle.event_filter.proofs.RowsRead.{read_says}
use Rattle.event_filter.proofs.laws.what_a_row_says_is_what_the_record_says.Goals as goal

pub returns : goal.returns
returns c = read_says
