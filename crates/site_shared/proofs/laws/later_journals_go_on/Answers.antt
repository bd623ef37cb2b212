use Rattle.site_shared.proofs.PublishLaws.{begins, keeps}
use Rattle.site_shared.proofs.laws.later_journals_go_on.Goals as goal

pub returns-clause-begins : goal.returns-clause-begins
returns-clause-begins c = begins

pub returns-clause-keeps : goal.returns-clause-keeps
returns-clause-keeps c = keeps
