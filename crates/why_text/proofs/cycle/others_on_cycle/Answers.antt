use Rattle.std.proofs.Common.{◌≡◌, List, Bool, length, map, sym, ap, ◌∙◌, subst}
use Rattle.std.specs.Prelude.{ℕ}
use Rattle.std.proofs.lemmas.Result.{IfOk-weaker}
use Rattle.walk_core.specs.Digraphs.{IsWithin}
use Rattle.state_core.specs.declared.item.Item.{Item}
use Rattle.graph_core.specs.Dependencies.{IsDependency}
use Rattle.graph_core.specs.WalkLaws.{ends_within}
use Rattle.walk_core.specs.Reach.{AreLeading, AreReached}
use Rattle.why_text.specs.Cycle.{AreOnItsCycle, AreTaken, is_item}
use Rattle.why_text.proofs.Cycles.{others_are}
use Rattle.why_text.proofs.cycle.others_on_cycle.Goals as goal

pub reached-requires-clause-within : goal.reached-requires-clause-within
reached-requires-clause-within c =
    let graph = c.in_ok-graph.graph in
    subst IsWithin (sym c.digraph-2.ensures.ends) (ends_within (IsDependency c.args.gate.now c.args.state.now) graph.items graph.ends c.in_ok-graph.ensures.graph.ends)

pub returns : goal.returns
returns c =
    let graph = c.in_ok-graph.graph in
    let item = c.args.item in
    let marks : c.in_ok-itself.itself.items ≡ map (is_item item) graph.items = c.in_ok-itself.ensures ∙ ap (map (is_item item)) c.items.ensures in
    let behind = c.in_ok-behind.behind.items in
    let ahead = c.in_ok-ahead.ahead.items in
    let lead : AreLeading graph.ends (map (is_item item) graph.items) behind =
    subst (λ (m : List Bool). AreLeading graph.ends m behind) (c.as_slice.ensures.value ∙ marks) (subst (λ (g : List (List ℕ)). AreLeading g c.as_slice.result.now behind) c.digraph.ensures.ends c.in_ok-behind.ensures) in
    let reach : AreReached graph.ends (map (is_item item) graph.items) ahead =
    subst (λ (m : List Bool). AreReached graph.ends m ahead) (c.as_slice-2.ensures.value ∙ marks) (subst (λ (g : List (List ℕ)). AreReached g c.as_slice-2.result.now ahead) c.digraph-2.ensures.ends c.in_ok-ahead.ensures) in
    IfOk-weaker c.taken.result (λ others. AreTaken c.items-2.result.now c.as_slice-3.result.now c.as_slice-4.result.now c.as_slice-5.result.now (length c.items-2.result.now) others.items)
    (λ others. AreOnItsCycle c.args.gate.now c.args.state.now item others.items)
    (λ others are. others_are c.args.gate.now c.args.state.now graph c.in_ok-graph.ensures.graph c.in_ok-graph.ensures.whole item c.requires behind ahead lead reach others.items
    (subst (λ (l : List Item). AreTaken l (map (is_item item) graph.items) behind ahead (length l) others.items) c.items-2.ensures
    (subst (λ (m : List Bool). AreTaken c.items-2.result.now m behind ahead (length c.items-2.result.now) others.items) (c.as_slice-3.ensures.value ∙ marks)
    (subst (λ (m : List Bool). AreTaken c.items-2.result.now c.as_slice-3.result.now m ahead (length c.items-2.result.now) others.items) c.as_slice-4.ensures.value
    (subst (λ (m : List Bool). AreTaken c.items-2.result.now c.as_slice-3.result.now c.as_slice-4.result.now m (length c.items-2.result.now) others.items) c.as_slice-5.ensures.value are)))))
    c.taken.ensures
