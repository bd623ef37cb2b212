use Rattle.std.proofs.Common.{◌≡◌, ◌↔◌, ◌<◌, ℕ, length, arith}
use Rattle.std.specs.List.{Contains}
use Rattle.std.proofs.lemmas.Option.{slice_get_within}
use Rattle.walk_core.specs.Components.{AreFirsts}
use Rattle.walk_core.specs.FirstLaws.{first_within}
use Rattle.walk_core.proofs.Ordered.{ranks_in_order}
use Rattle.walk_core.proofs.digraph.Digraph.ranks.Goals as goal

pub kept_from_last-requires : goal.kept_from_last-requires
kept_from_last-requires g c = λ x.
    let found : Contains c.as_slice.result.now x ↔ x < length c.args.self.now = rw c.as_slice.ensures.value (c.components-components.ensures.nodes x) in (
      λ here. let within = found.0 here in omega (arith, within, c.requires.sized),
      λ within. found.1 (omega (arith, within, c.requires.sized)),
    )

pub lead_counts-requires-clause-nodes : goal.lead_counts-requires-clause-nodes
lead_counts-requires-clause-nodes g c =
    let kept = c.in_ok-nodes.ensures in
    rw c.as_slice-2.ensures.value (record {
      within = λ x here. let within = slice_get_within c.args.kept.now x _ ((kept x).0 here) in omega
          (arith, within, c.requires.sized);
      ends = λ x y here edge. (kept y).1 (c.requires.closed x y ((kept x).0 here) edge);
    })

pub lead_counts-requires-clause-are_kept : goal.lead_counts-requires-clause-are_kept
lead_counts-requires-clause-are_kept g c = λ x here. (c.in_ok-nodes.ensures x).0 (rw c.as_slice-2.ensures.value at here)

pub lead_counts-requires-clause-targets : goal.lead_counts-requires-clause-targets
lead_counts-requires-clause-targets g c = rw (c.as_slice-2.ensures.value, c.as_slice-3.ensures.value) (λ x. (
  λ here. (c.in_ok-nodes.ensures x).1 ((c.in_ok-targets.ensures.just x).0 here),
  λ here. (c.in_ok-targets.ensures.just x).1 ((c.in_ok-nodes.ensures x).0 here),
))

pub ranks_of-requires-clause-firsts : goal.ranks_of-requires-clause-firsts
ranks_of-requires-clause-firsts g c = λ x here.
    let within = slice_get_within c.args.kept.now x _ ((c.in_ok-targets.ensures.just x).0 (rw c.as_slice-5.ensures.value at here)) in
    let sized : length c.as_slice-firsts.result.now ≡ length c.args.self.now = rw c.as_slice-firsts.ensures.value c.components-components.ensures.firsts.size in
    omega (arith, within, c.requires.sized, sized)

pub ranks_of-requires-clause-counts : goal.ranks_of-requires-clause-counts
ranks_of-requires-clause-counts g c = λ x here.
    let within = slice_get_within c.args.kept.now x _ ((c.in_ok-targets.ensures.just x).0 (rw c.as_slice-5.ensures.value at here)) in
    let firsts : AreFirsts c.args.self.now c.as_slice-firsts.result.now = rw c.as_slice-firsts.ensures.value c.components-components.ensures.firsts in
    let first = first_within c.args.self.now c.as_slice-firsts.result.now firsts x (omega (arith, within, c.requires.sized)) in
    let sized : length c.as_slice-4.result.now ≡ length c.args.self.now = rw c.as_slice-4.ensures.value c.in_ok-counts.ensures.0 in
    omega (arith, first, sized)

pub returns : goal.returns
returns g c =
    let kept = c.in_ok-targets.ensures.just in
    let marked_within : (x : ℕ) → Contains c.in_ok-targets.targets.items x → x < length c.args.self.now = λ x here.
    let within = slice_get_within c.args.kept.now x _ ((kept x).0 here) in omega (arith, within, c.requires.sized) in
    let firsts : AreFirsts c.args.self.now c.as_slice-firsts.result.now = rw c.as_slice-firsts.ensures.value c.components-components.ensures.firsts in
    let counted = rw (c.as_slice-2.ensures.value, c.as_slice-3.ensures.value) at c.in_ok-counts.ensures.1 in
    let moved = rw (c.in_ok-ranks.ensures, c.as_slice-4.ensures.value, c.as_slice-5.ensures.value) at c.sort_unstable.ensures.permutation in
    ranks_in_order c.args.self.now c.args.kept.now c.as_slice-firsts.result.now c.in_ok-counts.counts.items c.in_ok-targets.targets.items c.sort_unstable.new.self.items firsts kept
    c.in_ok-targets.ensures.in_order marked_within
    (λ x here. counted x ((c.in_ok-nodes.ensures x).1 ((kept x).0 here))) moved c.sort_unstable.ensures.sorted
