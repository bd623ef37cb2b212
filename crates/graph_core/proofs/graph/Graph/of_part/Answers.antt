use Rattle.std.proofs.Common.{◌∙◌, ℕ, List, Vec, Global, map, subst, sym}
use Rattle.std.specs.Prelude.{All}
use Rattle.std.specs.List.{AllZip}
use Rattle.std.specs.List.Sorted.{IsStrictlyIncreasing}
use Rattle.std.proofs.lemmas.List.{length-map}
use Rattle.state_core.specs.Items.{IsItem}
use Rattle.graph_core.specs.Dependencies.{IsDependency}
use Rattle.graph_core.specs.ItemGraph.{AreEnds}
use Rattle.graph_core.specs.WalkLaws.{ends_within, flags_of_cycles}
use Rattle.lattice_core.specs.ZipLaws.{length-AllZip}
use Rattle.graph_core.proofs.Building.{part_are_items, as_many_rows, rows_rise, target_rows, end_rows}
use Rattle.graph_core.proofs.graph.Graph.of_part.Goals as goal

-- the numbers in a row
abbrev in_row : Vec ℕ Global → List ℕ
in_row row = row.items

pub all_targets-requires : goal.all_targets-requires
all_targets-requires c =
    subst (All (IsItem c.args.state.now)) (sym c.as_slice.ensures.value)
    (part_are_items c.args.gate.now c.args.state.now c.args.items.items c.requires)

pub all_ends-requires-clause-increasing : goal.all_ends-requires-clause-increasing
all_ends-requires-clause-increasing c =
    subst (All (λ row. IsStrictlyIncreasing (in_row row))) (sym c.as_slice-3.ensures.value)
    (rows_rise in_row in_row c.args.gate.now c.args.state.now c.args.items.items c.in_ok-targets.targets.items c.as_slice.result.now c.as_slice.ensures.value c.in_ok-targets.ensures)

pub new-requires : goal.new-requires
new-requires c =
    let state = c.args.state.now in
    ends_within (IsDependency c.args.gate.now state) c.args.items.items (map in_row c.in_ok-ends.ends.items)
    (end_rows in_row in_row c.args.gate.now state c.args.items.items c.in_ok-targets.targets.items c.as_slice.result.now c.as_slice.ensures.value c.in_ok-targets.ensures
    c.requires c.as_slice-2.result.now c.as_slice-3.result.now c.in_ok-ends.ends.items c.as_slice-2.ensures.value c.as_slice-3.ensures.value c.in_ok-ends.ensures)

pub invariant_of-result : goal.invariant_of-result
invariant_of-result c =
    let gate = c.args.gate.now in
    let state = c.args.state.now in
    let items = c.args.items.items in
    let rows = as_many_rows in_row in_row gate state items c.in_ok-targets.targets.items c.as_slice.result.now c.as_slice.ensures.value c.in_ok-targets.ensures in
    let ends : AllZip (AreEnds (IsDependency gate state) items) items c.in_ok-digraph.digraph =
    subst (AllZip (AreEnds (IsDependency gate state) items) items) (sym c.in_ok-digraph.ensures)
    (end_rows in_row in_row gate state items c.in_ok-targets.targets.items c.as_slice.result.now c.as_slice.ensures.value c.in_ok-targets.ensures
    c.requires c.as_slice-2.result.now c.as_slice-3.result.now c.in_ok-ends.ends.items c.as_slice-2.ensures.value c.as_slice-3.ensures.value c.in_ok-ends.ensures) in
    let nodes = length-AllZip (AreEnds (IsDependency gate state) items) items c.in_ok-digraph.digraph ends in
    record {
      in_order = c.requires.in_order;
      rows = length-map c.in_ok-targets.targets.items in_row ∙ rows;
      nodes = nodes;
      flags = c.in_ok-on_cycle.ensures.nodes ∙ nodes;
    }

pub returns-clause-graph : goal.returns-clause-graph
returns-clause-graph c =
    let gate = c.args.gate.now in
    let state = c.args.state.now in
    let items = c.args.items.items in
    let ends : AllZip (AreEnds (IsDependency gate state) items) items c.in_ok-digraph.digraph =
    subst (AllZip (AreEnds (IsDependency gate state) items) items) (sym c.in_ok-digraph.ensures)
    (end_rows in_row in_row gate state items c.in_ok-targets.targets.items c.as_slice.result.now c.as_slice.ensures.value c.in_ok-targets.ensures
    c.requires c.as_slice-2.result.now c.as_slice-3.result.now c.in_ok-ends.ends.items c.as_slice-2.ensures.value c.as_slice-3.ensures.value c.in_ok-ends.ensures) in
    record {
      items = c.requires;
      targets = target_rows in_row in_row gate state items c.in_ok-targets.targets.items c.as_slice.result.now c.as_slice.ensures.value c.in_ok-targets.ensures;
      ends = ends;
      on_cycle = flags_of_cycles (IsDependency gate state) items c.in_ok-digraph.digraph ends c.requires.held c.requires.in_order c.in_ok-on_cycle.on_cycle.items c.in_ok-on_cycle.ensures;
    }
