use Rattle.std.proofs.Common.{◌∙◌}
use Rattle.walk_core.proofs.Regional.{all_counted}
use Rattle.walk_core.proofs.leads.lead_counts.Goals as goal

pub returns : goal.returns
returns g c = (
  c.put_sums.ensures.size ∙ c.in_ok-counts.ensures.0,
  all_counted c.requires.firsts c.requires.nodes c.in_ok-sums.ensures
      (rw c.as_slice.ensures.value at c.in_ok-counts.ensures.1) (rw c.as_slice-2.ensures.value at c.put_sums.ensures),
)
