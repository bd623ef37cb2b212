use Rattle.ready_core.proofs.Following.{leads_from, rank_is_short}
use Rattle.ready_core.proofs.laws.dependencies_lead_to_a_cause.Goals as goal

pub returns-clause-leads : goal.returns-clause-leads
returns-clause-leads c =
    λ gate state verdicts are left has. leads_from gate state verdicts are left.item left.refusal left.rank
    (are.refused left has)

pub returns-clause-short : goal.returns-clause-short
returns-clause-short c = λ gate state verdicts are left has. rank_is_short gate state verdicts are left has
