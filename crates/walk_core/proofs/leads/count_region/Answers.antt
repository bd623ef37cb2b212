use Rattle.walk_core.proofs.Gathering.{firsts_within}
use Rattle.walk_core.proofs.leads.count_region.Goals as goal

pub have_sums-requires-clause-nodes : goal.have_sums-requires-clause-nodes
have_sums-requires-clause-nodes g c = rw c.requires.firsts.size c.requires.region.within

pub have_sums-requires-clause-firsts : goal.have_sums-requires-clause-firsts
have_sums-requires-clause-firsts g c = rw c.requires.sums (firsts_within c.requires.firsts c.requires.region)
