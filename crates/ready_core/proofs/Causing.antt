-- Why an item isn't eligible, from what the graph and the searches say of it.
use Rattle.std.proofs.Common.{◌≡◌, ◌<◌, ◌↔◌, ℕ, Bool, true, false, List, Contains, sym, ap, ◌∙◌, subst}
use Rattle.std.specs.Prelude.{length, MatchBool, IsTrue, slice_index_or}
use Rattle.std.proofs.lemmas.Bool.{false≢true}
use Rattle.std.proofs.lemmas.Option.{slice_get_within, get_or_from_slice_get}
use Rattle.walk_core.specs.Walks.{IsOnCycle}
use Rattle.walk_core.specs.Digraphs.{ends_of, row}
use Rattle.gate_rules.specs.Rules.{GateRules}
use Rattle.state_core.specs.Items.{IsItem}
use Rattle.state_core.specs.declared.item.Item.{Item}
use Rattle.state_core.specs.State.{State}
use Rattle.state_core.specs.Known.{IsKnown}
use Rattle.graph_core.specs.Dependencies.{IsDependency}
use Rattle.graph_core.specs.ItemGraph.{ItemGraph, IsAt, IsGraphOf, AreTargets}
use Rattle.lattice_core.specs.PlaceLaws.{Contains-at}
use Rattle.lattice_core.specs.ZipLaws.{AllZip-at}
use Rattle.ready_core.specs.Refusals.{IsFree, IsOffCycles, IsOnBarredCycle, IsEligible, IsLeastUnknown}
use Rattle.ready_core.specs.Causes.{IsFirstUnknown}

barred_by : {P : Type 0} (flag other cycles : Bool) → flag ≡ other → IsTrue other ↔ P → cycles ≡ false
    → MatchBool flag ((cycles ≡ false) × P) (cycles ≡ false → ¬ P)
barred_by true other cycles same means barred = (barred, means.0 (sym same))
barred_by false other cycles same means barred = λ off on. false≢true (same ∙ means.1 on)

module _ (gate : GateRules) (state : State) (graph : ItemGraph) (is : IsGraphOf gate state graph) (place : ℕ)
    (item : Item) (here : IsAt graph.items place item) where
  pub item_here : IsItem state item
  item_here = is.items.each item (Contains-at graph.items place item here)

  pub within : place < length graph.items
  within = slice_get_within graph.items place item here

  pub barred_here : (flag : Bool) → flag ≡ slice_index_or graph.on_cycle place false → gate.cycles ≡ false
      → MatchBool flag (IsOnBarredCycle gate state item) (IsOffCycles gate state item)
  barred_here flag same barred =
      let beside = AllZip-at (λ item flag. IsTrue flag ↔ IsOnCycle (IsDependency gate state) item) graph.items graph.on_cycle is.on_cycle place item here in
      barred_by flag beside.0 gate.cycles
      (same ∙ get_or_from_slice_get graph.on_cycle place beside.0 false beside.1) beside.2 barred

  pub targets_here : (targets : List ℕ) → targets ≡ ends_of graph.targets place → AreTargets gate state item targets
  targets_here targets same =
      let beside = AllZip-at (AreTargets gate state) graph.items graph.targets is.targets place item here in
      subst (AreTargets gate state item) (sym (same ∙ ap row beside.1)) beside.2

  pub eligible_here : (targets : List ℕ) → targets ≡ ends_of graph.targets place → IsFree gate state item
      → IsOffCycles gate state item
      → ((number : ℕ) → Contains targets number → IsKnown state number) → IsEligible gate state item
  eligible_here targets same free off known = record {
    there = item_here;
    own = free;
    off = off;
    known =
        λ number unknown. unknown.unknown (known number (((targets_here targets same).each number).1 unknown.target));
  }

  pub least_here : (targets : List ℕ) (number : ℕ) → targets ≡ ends_of graph.targets place
      → IsFirstUnknown state targets number → IsLeastUnknown gate state item number
  least_here targets number same first = record {
    here = record { target = ((targets_here targets same).each number).0 first.has; unknown = first.unknown };
    least =
        λ other unknown. first.least other (((targets_here targets same).each other).1 unknown.target) unknown.unknown;
  }
