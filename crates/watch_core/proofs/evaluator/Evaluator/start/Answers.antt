use Rattle.std.proofs.Common.{◌≡◌, ◌∙◌, ap, map, refl, subst, sym}
use Rattle.std.specs.List.Sorted.{IsStrictlySortedBy}
use Rattle.walk_core.specs.Ranks.{rank_cmp}
use Rattle.state_core.specs.State.{state_of}
use Rattle.state_core.specs.Items.{item_cmp}
use Rattle.graph_core.specs.ItemGraph.{AreItems, IsGraphOf}
use Rattle.ready_core.specs.RankedVerdicts.{AreRankedVerdictsOn}
use Rattle.ready_core.specs.Verdicts.{Judged}
use Rattle.watch_core.specs.Placed.{node_of}
use Rattle.watch_core.proofs.Following.{kept_on, names_all, ranked_all}
use Rattle.watch_core.proofs.evaluator.Evaluator.start.Goals as goal

pub returns-clause-follows : goal.returns-clause-follows
returns-clause-follows c =
    let gate = c.self.inside.gate in
    let state = state_of c.args.replica.now in
    let graph = c.in_ok-graph.graph in
    let found = c.in_ok-found.found in
    let ranks = c.into_lists-ranks.result.0.items in
    let whole = subst (λ s. AreItems s graph.items) c.state-state.ensures c.in_ok-graph.ensures.whole in
    let is = subst (λ s. IsGraphOf gate s graph) c.state-state.ensures c.in_ok-graph.ensures.graph in
    let are = subst (λ s. AreRankedVerdictsOn gate s graph.items found) c.state-state.ensures c.in_ok-found.ensures.verdicts in
    let out : found.out ≡ c.new.result.out = sym c.into_lists-ranks.ensures.out ∙ sym (ap (λ (j : Judged). j.out) c.new.ensures) in
    let nodes : c.new.result.ready ≡ map node_of ranks = ap (λ (j : Judged). j.ready) c.new.ensures ∙ c.in_ok-ready.ensures ∙ ap (map node_of) c.as_slice-2.ensures.value in
    let kept = kept_on gate state c.new.result ranks c.add_graph.new.namers (ranked_all gate state graph.items found whole are ranks c.new.result.out c.into_lists-ranks.ensures.ranks out) nodes
    (subst (IsStrictlySortedBy (rank_cmp item_cmp)) (sym c.into_lists-ranks.ensures.ranks) c.in_ok-found.ensures.rising) (names_all gate state graph is c.add_graph.new.namers c.in_ok-add_graph.ensures.names whole) in
    record {
      seen = c.len-self-inside.ensures;
      judged = c.new.result;
      there = refl;
      verdicts = kept.0;
      kept = kept.1;
    }
