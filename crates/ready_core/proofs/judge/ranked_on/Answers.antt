use Rattle.std.proofs.Common.{◌∙◌, sym, ap, subst, length, is_some}
use Rattle.std.proofs.lemmas.List.{length-map}
use Rattle.std.proofs.lemmas.Result.{IfOk-weaker}
use Rattle.walk_core.specs.Digraphs.{AreDistances}
use Rattle.graph_core.specs.Dependencies.{IsDependency}
use Rattle.graph_core.specs.WalkLaws.{ends_within}
use Rattle.lattice_core.specs.ZipLaws.{length-AllZip}
use Rattle.ready_core.specs.Causes.{IsCauseOf, AreCauses, IsJudgement, flags_of}
use Rattle.ready_core.specs.RankedVerdicts.{AreRankedVerdictsOn}
use Rattle.std.specs.List.Sorted.{IsStrictlySortedBy}
use Rattle.state_core.specs.Items.{item_cmp}
use Rattle.walk_core.specs.Ranks.{rank_cmp}
use Rattle.ready_core.proofs.GateVerdicts.{all_ordered, ordered}
use Rattle.ready_core.proofs.judge.ranked_on.Goals as goal

pub distances-requires : goal.distances-requires
distances-requires c =
    let gate = c.args.gate.now in
    let state = c.args.state.now in
    ap length (c.as_slice-2.ensures.value ∙ c.in_ok-ineligible.ensures ∙ ap flags_of c.as_slice.ensures.value)
    ∙ length-map c.in_ok-causes.causes.items is_some
    ∙ length-AllZip (IsCauseOf gate state) c.args.graph.now.items c.in_ok-causes.causes.items c.in_ok-causes.ensures
    ∙ sym c.digraph.ensures.nodes ∙ ap length (sym c.digraph.ensures.ends)

pub judged-requires : goal.judged-requires
judged-requires c =
    let gate = c.args.gate.now in
    let state = c.args.state.now in
    let is = c.requires.graph in
    record {
      causes_of_all = ap length c.as_slice-3.ensures.value ∙ length-AllZip
          (IsCauseOf gate state) c.args.graph.now.items c.in_ok-causes.causes.items c.in_ok-causes.ensures;
      nodes = c.digraph.ensures.nodes;
      within = ends_within (IsDependency gate state) c.args.graph.now.items c.args.graph.now.ends is.ends;
      distances =
          subst (λ l. AreDistances c.args.graph.now.ends (flags_of l) c.as_slice-4.result.now)
          (sym c.as_slice-3.ensures.value)
          (subst (AreDistances c.args.graph.now.ends (flags_of c.in_ok-causes.causes.items)) (sym c.as_slice-4.ensures.value)
          (subst (λ graph. AreDistances graph (flags_of c.in_ok-causes.causes.items) c.in_ok-ranks.ranks.items) c.digraph.ensures.ends
          (subst (λ l. AreDistances c.digraph.result.now l c.in_ok-ranks.ranks.items) (c.as_slice-2.ensures.value ∙ c.in_ok-ineligible.ensures ∙ ap flags_of c.as_slice.ensures.value) c.in_ok-ranks.ensures)));
    }

pub returns-clause-verdicts : goal.returns-clause-verdicts
returns-clause-verdicts c =
    let gate = c.args.gate.now in
    let state = c.args.state.now in
    IfOk-weaker c.judged.result
    (λ ranked. IsJudgement c.args.graph.now c.as_slice-3.result.now c.as_slice-4.result.now ranked.ranks ranked.out)
    (AreRankedVerdictsOn gate state c.args.graph.now.items)
    (λ ranked are.
    let of = subst (AreCauses gate state c.args.graph.now.items) (sym c.as_slice-3.ensures.value) c.in_ok-causes.ensures in
    all_ordered gate state c.args.graph.now c.as_slice-3.result.now c.as_slice-4.result.now ranked c.requires.graph of are)
    c.judged.ensures

pub returns-clause-rising : goal.returns-clause-rising
returns-clause-rising c =
    let gate = c.args.gate.now in
    let state = c.args.state.now in
    IfOk-weaker c.judged.result
    (λ ranked. IsJudgement c.args.graph.now c.as_slice-3.result.now c.as_slice-4.result.now ranked.ranks ranked.out)
    (λ ranked. IsStrictlySortedBy (rank_cmp item_cmp) ranked.ranks)
    (λ ranked are.
    let of = subst (AreCauses gate state c.args.graph.now.items) (sym c.as_slice-3.ensures.value) c.in_ok-causes.ensures in
    let order = ordered gate state c.args.graph.now c.as_slice-3.result.now c.as_slice-4.result.now ranked c.requires.graph of are in
    order.rising)
    c.judged.ensures
