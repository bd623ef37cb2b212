use Rattle.event_filter.proofs.Messages.{kept_fits}
use Rattle.event_filter.proofs.laws.what_is_kept_of_a_message_fits_a_body.Goals as goal

pub returns : goal.returns
returns c = kept_fits
