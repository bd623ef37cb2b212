use Rattle.site_serve.proofs.PassingOn.{held_the_same}
use Rattle.site_serve.proofs.laws.sites_that_pulled_print_the_same.Goals as goal

pub returns : goal.returns
returns c = held_the_same c.later_journals_go_on.ensures.keeps c.equal_states_print_the_same.ensures
