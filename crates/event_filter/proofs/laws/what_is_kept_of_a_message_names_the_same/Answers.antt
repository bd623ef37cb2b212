use Rattle.event_filter.proofs.Messages.{kept_names_all, kept_names_no_more}
use Rattle.event_filter.proofs.laws.what_is_kept_of_a_message_names_the_same.Goals as goal

pub returns : goal.returns
returns c = record { no_more = kept_names_no_more; all = kept_names_all }
