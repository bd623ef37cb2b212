use Rattle.std.proofs.Common.{◌≡◌, ◌∙◌, List, ap, map, subst, sym}
use Rattle.ready_core.specs.declared.verdicts.Left.{Left}
use Rattle.ready_core.specs.ItemRanks.{to_rank}
use Rattle.ready_core.specs.RankedVerdicts.{RankedVerdicts}
use Rattle.ready_core.specs.Verdicts.{Judged}
use Rattle.watch_core.specs.BroughtUp.{IsBroughtUp}
use Rattle.watch_core.specs.Namers.{is_again}
use Rattle.watch_core.specs.Placed.{FindsAgain, IsOneEach, node_of}
use Rattle.watch_core.proofs.Outcomes.{both_if}
use Rattle.watch_core.proofs.Renewing.{again_all, one_each_rank, renewed, renewed_whole}
use Rattle.watch_core.proofs.bring.put_in_place.Goals as goal

pub put_all_ready-requires-clause-one_each : goal.put_all_ready-requires-clause-one_each
put_all_ready-requires-clause-one_each c =
    subst (IsOneEach node_of) (sym c.as_slice.ensures.value)
    (one_each_rank _ (subst (IsOneEach (λ rank. rank.node)) (sym c.into_lists-new_ranks.ensures.ranks) c.requires.once.ranks))

pub returns-then-reach-clause-up : goal.returns-then-reach-clause-up
returns-then-reach-clause-up c =
    let again = is_again c.args.touched.now c.args.reach.now.all c.args.reach.now.items in
    let kept : RankedVerdicts = record { ranks = map to_rank c.args.ranks.now.items; out = c.args.kept.out } in
    let new_ranks = map to_rank c.taken_whole.new.ranks.items in
    both_if c.taken_whole.result (λ verdicts. new_ranks ≡ c.args.found.ranks)
    (λ verdicts. verdicts.out ≡ c.args.found.out)
    (λ verdicts. IsBroughtUp again kept c.args.found (record { ranks = new_ranks; out = verdicts.out }))
    (λ verdicts same_ranks same_out.
    renewed_whole again kept c.args.found new_ranks verdicts.out (again_all c.args.touched.now c.args.reach.now.all c.args.reach.now.items c.if-reach.true) same_ranks same_out c.requires.rising c.requires.out_in_order)
    c.taken_whole.ensures.ranks c.taken_whole.ensures.out

pub returns-clause-up : goal.returns-clause-up
returns-clause-up c =
    let again = is_again c.args.touched.now c.args.reach.now.all c.args.reach.now.items in
    let kept_ranks = c.args.ranks.now.items in
    let kept_out = c.into_lists-ready.result.1.items in
    let new_ranks = c.put_all_left.new.ranks.items in
    let found : RankedVerdicts = c.args.found in
    let finds = subst (λ (l : List Left). FindsAgain again (record { ranks = map to_rank kept_ranks; out = l }) found) (sym c.into_lists-ready.ensures.out) c.requires.finds in
    let up = renewed again kept_ranks c.as_slice.result.now c.put_all_ready.new.ranks.items new_ranks kept_out c.as_slice-2.result.now c.put_all_ready.new.out.items c.put_all_left.new.out.items found
    (ap (map to_rank) c.as_slice.ensures.value ∙ c.into_lists-new_ranks.ensures.ranks) (c.as_slice-2.ensures.value ∙ c.into_lists-new_ranks.ensures.out) c.requires.once finds c.put_all_left.new.ready.items
    c.in_ok-put_all_ready.ensures.ranks c.in_ok-put_all_left.ensures.ranks c.in_ok-put_all_ready.ensures.out c.in_ok-put_all_left.ensures.out c.in_ok-put_all_left.ensures.lists in
    subst (λ (l : List Left). IsBroughtUp again (record { ranks = map to_rank kept_ranks; out = l }) found (record { ranks = map to_rank new_ranks; out = c.new.result.out })) c.into_lists-ready.ensures.out
    (subst (λ (l : List Left). IsBroughtUp again (record { ranks = map to_rank kept_ranks; out = kept_out }) found (record { ranks = map to_rank new_ranks; out = l })) (sym (ap (λ (j : Judged). j.out) c.new.ensures)) up)
