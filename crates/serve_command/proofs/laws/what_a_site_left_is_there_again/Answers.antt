use Rattle.serve_command.proofs.Restarting.{left_again}
use Rattle.serve_command.proofs.laws.what_a_site_left_is_there_again.Goals as goal

pub returns : goal.returns
returns c = left_again
