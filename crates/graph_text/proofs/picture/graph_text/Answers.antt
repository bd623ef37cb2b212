use Rattle.std.proofs.Common.{◌≡◌, ap, ◌∙◌, subst, List}
use Rattle.std.specs.Prelude.{string_bytes}
use Rattle.std.proofs.lemmas.Result.{IfOk-weaker}
use Rattle.graph_core.specs.Dependencies.{IsDependency}
use Rattle.graph_core.specs.WalkLaws.{ends_within}
use Rattle.graph_text.specs.Drawing.{AreAllUnknown, IsGraphText}
use Rattle.graph_text.specs.Lines.{graph_lines}
use Rattle.graph_text.specs.declared.node.Node.{Node}
use Rattle.graph_text.proofs.Drawn.{graph_sides, nodes_drawn}
use Rattle.graph_text.proofs.picture.graph_text.Goals as goal

pub near_of-requires : goal.near_of-requires
near_of-requires c =
    let graph = c.in_ok-graph.graph in
    ends_within (IsDependency c.args.gate.now c.args.state.now) graph.items graph.ends c.in_ok-graph.ensures.graph.ends

pub nodes_of-requires-clause-sides : goal.nodes_of-requires-clause-sides
nodes_of-requires-clause-sides c =
    graph_sides c.args.gate.now c.args.state.now c.in_ok-graph.graph c.in_ok-graph.ensures.graph c.in_ok-graph.ensures.whole c.args.around _ _ c.in_ok-near.ensures.ahead c.in_ok-near.ensures.behind

pub returns : goal.returns
returns c =
    let gate = c.args.gate.now in
    let state = c.args.state.now in
    let nodes = c.in_ok-nodes.nodes.items in
    let unknown = c.in_ok-unknown.unknown.items in
    IfOk-weaker c.text_of.result
    (λ text. string_bytes text ≡ graph_lines c.as_slice-2.result.now c.as_slice-3.result.now)
    (λ text. IsGraphText gate state c.args.around (string_bytes text))
    (λ text lines. record {
      verdicts = c.in_ok-verdicts.verdicts;
      judged = c.in_ok-verdicts.ensures;
      nodes = nodes;
      drawn = nodes_drawn gate state c.in_ok-graph.graph c.in_ok-graph.ensures.graph c.in_ok-graph.ensures.whole c.args.around _ _ c.in_ok-near.ensures.ahead c.in_ok-near.ensures.behind c.in_ok-verdicts.verdicts c.in_ok-verdicts.ensures nodes c.in_ok-nodes.ensures;
      unknown = unknown;
      all_unknown = subst (λ (l : List Node). AreAllUnknown l unknown) c.as_slice.ensures.value c.in_ok-unknown.ensures;
      lines = lines ∙ ap (λ l. graph_lines l c.as_slice-3.result.now) c.as_slice-2.ensures.value
          ∙ ap (graph_lines nodes) c.as_slice-3.ensures.value;
    })
    c.text_of.ensures
