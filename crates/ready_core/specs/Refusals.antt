-- Which items Zuul may enqueue, and why another one isn't among them. An item goes in with what it waits for: the ready
-- items are the union of all closed sets of eligible items (`Closed`), so that items on a cycle go in together where
-- the gate allows cycles (Zuul's `allow-circular-dependencies`). The refusal of an item left out, and its rank, are
-- this project's own.
use Rattle.std.specs.Prelude.{◌≡◌, ◌≤◌, ℕ, false, None, Some}
use Rattle.std.proofs.Common.{suc}
use Rattle.walk_core.specs.Walks.{BeginsFewest, IsDistance, IsOnCycle}
use Rattle.gate_rules.specs.Rules.{GateRules}
use Rattle.state_core.specs.Items.{IsItem}
use Rattle.gate_rules.specs.Own.{IsOwn}
use Rattle.state_core.specs.declared.item.Item.{Item}
use Rattle.state_core.specs.State.{State}
use Rattle.state_core.specs.Known.{IsKnown}
use Rattle.graph_core.specs.Dependencies.{IsDependency, IsTarget}
use Rattle.ready_core.specs.Closed.{IsInClosedSet}
use Rattle.ready_core.specs.declared.verdicts.Refusal.{Refusal}
use Rattle.ready_core.specs.declared.verdicts.Refusal.TheVariants.{Own, Cycle, Unknown, Dependency}

-- the item breaks no condition of its own
abbrev pub IsFree : GateRules → State → Item → Type 0
IsFree gate state item = IsOwn gate state item None

-- the item is on no cycle, or cycles are allowed
abbrev pub IsOffCycles : GateRules → State → Item → Type 0
IsOffCycles gate state item = gate.cycles ≡ false → ¬ IsOnCycle (IsDependency gate state) item

-- the item is on a cycle, and none is allowed
abbrev pub IsOnBarredCycle : GateRules → State → Item → Type 0
IsOnBarredCycle gate state item = (gate.cycles ≡ false) × IsOnCycle (IsDependency gate state) item

-- the item waits for a change of which no patch set is known
pub record IsUnknownTarget (gate : GateRules) (state : State) (item : Item) (number : ℕ) : Type 0 where
  pub target : IsTarget gate state item number
  pub unknown : ¬ IsKnown state number

-- the item is one of the state, breaks no condition of its own, is on no cycle that the gate doesn't allow, and each of
-- its targets is known
pub record IsEligible (gate : GateRules) (state : State) (item : Item) : Type 0 where
  pub there : IsItem state item
  pub own : IsFree gate state item
  pub off : IsOffCycles gate state item
  pub known : (number : ℕ) → ¬ IsUnknownTarget gate state item number

-- the item isn't eligible
abbrev pub IsIneligible : GateRules → State → Item → Type 0
IsIneligible gate state item = ¬ IsEligible gate state item

-- some closed set of eligible items has the item
abbrev pub IsReady : GateRules → State → Item → Type 0
IsReady gate state item = IsInClosedSet (IsDependency gate state) (IsEligible gate state) item

-- the length of a shortest walk from the item to one that isn't eligible
abbrev pub IsRefusalRank : GateRules → State → Item → ℕ → Type 0
IsRefusalRank gate state item rank = IsDistance (IsDependency gate state) (IsIneligible gate state) rank item

-- the change begins a shortest walk from the item to one that isn't eligible, with so many edges left behind its
-- current item
abbrev pub BeginsShortest : GateRules → State → Item → ℕ → ℕ → Type 0
BeginsShortest gate state item rest number =
    (other : Item) × (other.change ≡ number)
    × BeginsFewest (IsDependency gate state) (IsIneligible gate state) rest item other

-- it is the least target of which no patch set is known
pub record IsLeastUnknown (gate : GateRules) (state : State) (item : Item) (number : ℕ) : Type 0 where
  pub here : IsUnknownTarget gate state item number
  pub least : (other : ℕ) → IsUnknownTarget gate state item other → number ≤ other

-- it is the least target that begins a shortest walk to an item that isn't eligible, and the rank is that walk's length
pub record IsLeastNearest (gate : GateRules) (state : State) (item : Item) (number rank : ℕ) : Type 0 where
  pub shortest : IsRefusalRank gate state item rank
  pub rest : ℕ
  pub one_more : rank ≡ suc rest
  pub begins : BeginsShortest gate state item rest number
  pub least : (other : ℕ) → BeginsShortest gate state item rest other → number ≤ other

-- why an item is left out, the first of four causes that holds, and its rank
abbrev pub IsRefused : GateRules → State → Item → Refusal → ℕ → Type 0
IsRefused gate state item (Own condition) rank = IsOwn gate state item (Some condition) × (rank ≡ 0)
IsRefused gate state item Cycle rank = IsFree gate state item × IsOnBarredCycle gate state item × (rank ≡ 0)
IsRefused gate state item (Unknown number) rank =
    IsFree gate state item × IsOffCycles gate state item × IsLeastUnknown gate state item number × (rank ≡ 0)
IsRefused gate state item (Dependency number) rank =
    IsEligible gate state item × IsLeastNearest gate state item number rank
