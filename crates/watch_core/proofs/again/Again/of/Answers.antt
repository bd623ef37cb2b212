use Rattle.std.proofs.Common.{◌≡◌, ℕ, List, drop, subst}
use Rattle.std.specs.BTreeSet.{contains}
use Rattle.std.specs.Ordering.{nat_cmp}
use Rattle.review_ops.specs.Operation.{Operation}
use Rattle.graph_core.specs.ItemGraph.{IsGraphOf}
use Rattle.watch_core.specs.BroughtUp.{HoldsItems}
use Rattle.watch_core.specs.Namers.{HoldNamers, is_reached}
use Rattle.watch_core.specs.Touched.{touches}
use Rattle.watch_core.proofs.Following.{again_reached, held_wide}
use Rattle.watch_core.proofs.again.Again.of.Goals as goal

pub returns-clause-again : goal.returns-clause-again
returns-clause-again c =
    let seen = c.args.seen in
    let later = drop seen c.args.replica.now in
    let reach = c.in_ok-reach.reach in
    let changes = c.in_ok-touched.touched in
    let touched : (number : ℕ) → contains nat_cmp changes number ≡ touches later number =
    subst (λ (l : List Operation). (number : ℕ) → contains nat_cmp changes number ≡ touches l number) c.since.ensures
    c.in_ok-touched.ensures in record {
      touched = touched;
      graph = subst (λ state. IsGraphOf c.args.gate.now state c.in_ok-graph.graph) c.state-state.ensures
          c.in_ok-graph.ensures.graph;
      holds = subst (λ state. HoldsItems state (is_reached later reach.all reach.items) c.in_ok-graph.graph.items)
          c.state-state.ensures
          (subst (λ f. HoldsItems c.state-state.result.now f c.in_ok-graph.graph.items)
          (again_reached changes later reach.all reach.items touched) c.in_ok-graph.ensures.holds);
    }

pub returns-clause-waiting : goal.returns-clause-waiting
returns-clause-waiting c =
    let seen = c.args.seen in
    let journal = c.args.replica.now in
    let near = c.in_ok-near.near in
    let reach = c.in_ok-reach.reach in
    let state = c.state-state.result.now in
    let nearly = subst (λ (l : List Operation). HoldNamers state c.args.namers.now l (is_reached l near.all near.items))
    c.since-2.ensures c.in_ok-near.ensures in
    subst
    (λ s. HoldNamers s c.args.namers.now (drop seen journal) (is_reached (drop seen journal) reach.all reach.items))
    c.state-state.ensures
    (held_wide state c.args.namers.now (drop seen journal) near.all reach.all near.items reach.items
    c.in_ok-reach.ensures.items c.in_ok-reach.ensures.all nearly)
