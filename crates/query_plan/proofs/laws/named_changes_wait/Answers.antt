use Rattle.query_plan.proofs.Portions.{portions}
use Rattle.query_plan.proofs.laws.named_changes_wait.Goals as goal

pub returns : goal.returns
returns c = portions
