use Rattle.site_serve.proofs.PassingOn.{passed_on}
use Rattle.site_serve.proofs.laws.pulls_of_sites_pass_on_all.Goals as goal

pub returns : goal.returns
returns c = passed_on c.later_journals_go_on.ensures.keeps
