use Rattle.serve_command.proofs.Restarting.{all_again}
use Rattle.serve_command.proofs.laws.sites_that_begin_again_have_all.Goals as goal

pub returns : goal.returns
returns c = all_again
