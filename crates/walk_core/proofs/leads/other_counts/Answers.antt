use Rattle.std.proofs.Common.{arith, rules}
use Rattle.walk_core.proofs.Blocks.{bare_rows}
use Rattle.walk_core.proofs.Gathering.{firsts_within}
use Rattle.walk_core.proofs.Regional.{counted_none, is_region, region_zero, region_counted, regions_counted}
use Rattle.walk_core.proofs.leads.other_counts.Goals as goal

pub have_sums-requires-clause-nodes : goal.have_sums-requires-clause-nodes
have_sums-requires-clause-nodes g c = rw c.requires.firsts.size c.requires.nodes.within

pub have_sums-requires-clause-firsts : goal.have_sums-requires-clause-firsts
have_sums-requires-clause-firsts g c = rw c.requires.sums (firsts_within c.requires.firsts c.requires.nodes)

pub grouped-requires-clause-nodes : goal.grouped-requires-clause-nodes
grouped-requires-clause-nodes g c = rw (c.as_slice.ensures.value, c.in_ok-labels.ensures.size) c.requires.nodes.within

pub grouped-requires-2-clause-nodes : goal.grouped-requires-2-clause-nodes
grouped-requires-2-clause-nodes g c =
    rw (c.as_slice-2.ensures.value, c.in_ok-labels.ensures.size)
    (λ x here. c.requires.nodes.within x ((c.requires.targets x).0 here))

pub loop-label-init : goal.loop-label-init
loop-label-init g c =
    let zeros = c.in_ok-counts.ensures.items_if_clones_equal (λ count same. same) in
    let marks = c.in_ok-rows.ensures.items_if_clones_equal (λ marks same. same) in
    record {
      rows = search rules;
      bare = rw marks (bare_rows c.len-2.result c.none.result c.none.ensures);
      counts = search rules;
      regions = is_region c.requires.firsts c.requires.nodes c.requires.are_kept c.in_ok-labels.ensures
          c.requires.targets c.requires.in_order (rw c.as_slice.ensures.value at c.in_ok-node_rows.ensures)
          (rw c.as_slice-2.ensures.value at c.in_ok-target_rows.ensures);
      counted = rw zeros (counted_none c.len.result);
    }

pub count_region-requires-clause-region : goal.count_region-requires-clause-region
count_region-requires-clause-region g c =
    rw (c.row_of-region.ensures, c.as_slice-in-loop-label.ensures.value) (c.loop-label.invariant.regions c.loop-label.label (omega arith)).holds

pub count_region-requires-clause-targets : goal.count_region-requires-clause-targets
count_region-requires-clause-targets g c =
    rw (c.row_of-region.ensures, c.as_slice-in-loop-label.ensures.value, c.row_of-inside.ensures, c.as_slice-in-loop-label-2.ensures.value)
    (c.loop-label.invariant.regions c.loop-label.label (omega arith)).inside

pub count_region-requires-clause-zero : goal.count_region-requires-clause-zero
count_region-requires-clause-zero g c =
    rw (c.row_of-region.ensures, c.as_slice-in-loop-label.ensures.value)
    (region_zero (c.loop-label.invariant.regions c.loop-label.label (omega arith)) c.loop-label.invariant.counted)

pub loop-label-preserved : goal.loop-label-preserved
loop-label-preserved g c = record {
  rows = c.count_region.ensures.rows;
  bare = c.count_region.ensures.bare;
  counts = c.count_region.ensures.counts;
  regions = c.loop-label.invariant.regions;
  counted = region_counted (c.loop-label.invariant.regions c.loop-label.label (omega arith))
      c.loop-label.invariant.counted _
      (rw (c.row_of-region.ensures, c.as_slice-in-loop-label.ensures.value, c.row_of-inside.ensures, c.as_slice-in-loop-label-2.ensures.value) at c.count_region.ensures.each)
      (rw (c.row_of-region.ensures, c.as_slice-in-loop-label.ensures.value) at c.count_region.ensures.elsewhere);
}

pub returns : goal.returns
returns g c = (
  c.loop-label.invariant.counts,
  regions_counted c.requires.are_kept c.in_ok-labels.ensures (omega arith) c.loop-label.invariant.counted,
)
