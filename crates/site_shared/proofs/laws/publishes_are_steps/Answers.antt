use Rattle.site_shared.proofs.PublishLaws.{step, union}
use Rattle.site_shared.proofs.laws.publishes_are_steps.Goals as goal

pub returns-clause-step : goal.returns-clause-step
returns-clause-step c = step

pub returns-clause-set : goal.returns-clause-set
returns-clause-set c = union
