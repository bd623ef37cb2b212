use Rattle.query_plan.proofs.Keeping.{kept}
use Rattle.query_plan.proofs.laws.what_waits_is_kept.Goals as goal

pub returns : goal.returns
returns c = kept
