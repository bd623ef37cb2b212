-- The verdict on an item of an untouched part is the same in both states.
use Rattle.std.proofs.Common.{ℕ, suc, Bool, None, Option, Some, sym, ◌∙◌, inl, inr}
use Rattle.walk_core.specs.Walks.{IsOfKind, IsDistance}
use Rattle.walk_core.specs.Ranks.{IsRank, Rank}
use Rattle.gate_rules.specs.Own.{IsOwn}
use Rattle.gate_rules.specs.Rules.{GateRules}
use Rattle.gate_rules.specs.declared.condition.Condition.{Condition}
use Rattle.state_core.specs.declared.item.Item.{Item}
use Rattle.state_core.specs.State.{State}
use Rattle.state_core.specs.Items.{IsCurrentItem, IsItem, item_cmp}
use Rattle.state_core.specs.Known.{IsKnown, IsMerged}
use Rattle.graph_core.specs.Dependencies.{IsDependency, IsTarget, Names}
use Rattle.ready_core.specs.declared.verdicts.Refusal.{Refusal}
use Rattle.ready_core.specs.declared.verdicts.Refusal.TheVariants.{Own, Cycle, Unknown, Dependency}
use Rattle.ready_core.specs.Refusals.{BeginsShortest, IsEligible, IsIneligible, IsLeastNearest, IsLeastUnknown}
use Rattle.ready_core.specs.Refusals.{IsOffCycles, IsOnBarredCycle, IsReady, IsRefused, IsUnknownTarget}
use Rattle.watch_core.specs.Untouched.{IsSame, IsUntouched}
use Rattle.watch_core.proofs.Along.{Walk-along, closed_along, distance_along, rank_along}

-- ---- a change that is the same in two states
pub same_names : (gate : GateRules) (a b : State) (item : Item) (number : ℕ) → IsSame a b item.change
    → Names gate a item number → Names gate b item number
same_names gate a b item number same names = elim names [
  | inl needed ↦ inl (record { change = needed.change; stands = sym same ∙ needed.stands; message = needed.message; said = needed.said; needs = needed.needs })
  | inr parent ↦ inr (record { change = parent.change; stands = sym same ∙ parent.stands; parent = parent.parent; other = parent.other })
]

pub same_merged : (a b : State) (number : ℕ) → IsSame a b number → IsMerged a number → IsMerged b number
same_merged a b number same is = record { change = is.change; stands = sym same ∙ is.stands; merged = is.merged }

same_known : (a b : State) (number : ℕ) → IsSame a b number → IsKnown a number → IsKnown b number
same_known a b number same is =
    record { change = is.change; stands = sym same ∙ is.stands; set = is.set; known = is.known }

pub same_item : (a b : State) (item : Item) → IsSame a b item.change → IsItem a item → IsItem b item
same_item a b item same is = (is.0, sym same ∙ is.1, is.2)

pub same_current : (a b : State) (item : Item) → IsSame a b item.change → IsCurrentItem a item → IsCurrentItem b item
same_current a b item same is = record { change = is.change; stands = sym same ∙ is.stands; greatest = is.greatest }

pub same_own : (gate : GateRules) (a b : State) (item : Item) (own : Option Condition) → IsSame a b item.change
    → IsOwn gate a item own → IsOwn gate b item own
same_own gate a b item own same is = λ change current stands greatest. is change current (same ∙ stands) greatest

-- ---- edges
module _ (gate : GateRules) (a b : State) (part : Item → Bool) (u : IsUntouched gate a b part) where
  same_target : (item : Item) (number : ℕ) → IsOfKind part item → IsTarget gate a item number → IsSame a b number
  same_target item number here target = elim
      (u.named item number here target.0) [ inl same ↦ same | inr merged ↦ absurd (target.1 merged.0) ]

  pub target_along : (item : Item) (number : ℕ) → IsOfKind part item → IsTarget gate a item number
      → IsTarget gate b item number
  target_along item number here target =
      let same : IsSame a b number = same_target item number here target in
      (same_names gate a b item number (u.own item here) target.0, λ merged. target.1 (same_merged b a number (sym same) merged))

  edge_along : (x y : Item) → IsOfKind part x → IsDependency gate a x y → IsOfKind part y × IsDependency gate b x y
  edge_along x y here edge =
      let same : IsSame a b y.change = same_target x y.change here edge.0 in
      (u.ends x y here edge, (target_along x y.change here edge.0, same_current a b y same edge.1))

  unknown_along : (item : Item) (number : ℕ) → IsOfKind part item → IsUnknownTarget gate a item number
      → IsUnknownTarget gate b item number
  unknown_along item number here is =
      let same : IsSame a b number = same_target item number here is.target in
      record {
        target = target_along item number here is.target;
        unknown = λ known. is.unknown (same_known b a number (sym same) known);
      }

  -- the states may change places
  pub turned : IsUntouched gate b a part
  turned = record {
    own = λ item here. sym (u.own item here);
    named = λ item number here names. elim (u.named item number here (same_names gate b a item number (sym (u.own item here)) names)) [
      | inl same ↦ inl (sym same)
      | inr merged ↦ inr (merged.1, merged.0)
    ];
    ends = λ item other here edge.
        let names = same_names gate b a item other.change (sym (u.own item here)) edge.0.0 in
        elim (u.named item other.change here names) [
          | inl same ↦ u.ends item other here ((names, λ merged. edge.0.1 (same_merged a b other.change same merged)), same_current b a other (sym same) edge.1)
          | inr merged ↦ absurd (edge.0.1 merged.1)
        ];
  }

-- ---- who is eligible
module _ (gate : GateRules) (a b : State) (part : Item → Bool) (u : IsUntouched gate a b part)
    (t : IsUntouched gate b a part) (item : Item) (here : IsOfKind part item) where
  off_along : IsOffCycles gate a item → IsOffCycles gate b item
  off_along off = λ barred cycle. off barred (cycle.0, Walk-along (IsDependency gate b) (IsDependency gate a) part (edge_along gate b a part t) (suc cycle.0) item item here cycle.1)

  barred_along : IsOnBarredCycle gate a item → IsOnBarredCycle gate b item
  barred_along is = (is.0, (is.1.0, Walk-along (IsDependency gate a) (IsDependency gate b) part (edge_along gate a b part u) (suc is.1.0) item item here is.1.1))

  eligible_along : IsEligible gate a item → IsEligible gate b item
  eligible_along is = record {
    there = same_item a b item (u.own item here) is.there;
    own = same_own gate a b item None (u.own item here) is.own;
    off = off_along is.off;
    known = λ number unknown. is.known number (unknown_along gate b a part t item number here unknown);
  }

module _ (gate : GateRules) (a b : State) (part : Item → Bool) (u : IsUntouched gate a b part)
    (t : IsUntouched gate b a part) where
  ineligible_along : (item : Item) → IsOfKind part item → IsIneligible gate a item → IsIneligible gate b item
  ineligible_along item here out = λ eligible. out (eligible_along gate b a part t u item here eligible)

  pub ready_along : (item : Item) → IsOfKind part item → IsReady gate a item → IsReady gate b item
  ready_along item here ready =
      closed_along (IsDependency gate a) (IsDependency gate b) part (edge_along gate a b part u)
      (edge_along gate b a part t) (IsEligible gate a) (IsEligible gate b)
      (λ x inside. eligible_along gate a b part u t x inside) item here ready

-- ---- refusals and ranks
module _ (gate : GateRules) (a b : State) (part : Item → Bool) (u : IsUntouched gate a b part)
    (t : IsUntouched gate b a part) where
  far_along : (n : ℕ) (item : Item) → IsOfKind part item → IsDistance (IsDependency gate a) (IsIneligible gate a) n item
      → IsDistance (IsDependency gate b) (IsIneligible gate b) n item
  far_along n item here far =
      distance_along (IsDependency gate a) (IsDependency gate b) part (edge_along gate a b part u)
      (edge_along gate b a part t) (IsIneligible gate a) (IsIneligible gate b)
      (ineligible_along gate a b part u t) (ineligible_along gate b a part t u) n item here far

  begins_along : (item : Item) (rest number : ℕ) → IsOfKind part item → BeginsShortest gate a item rest number
      → BeginsShortest gate b item rest number
  begins_along item rest number here begins =
      let next = edge_along gate a b part u item begins.0 here begins.2.edge in
      (begins.0, begins.1, record { edge = next.1; rest = far_along rest begins.0 next.0 begins.2.rest })

  pub rank_same : (rank : Rank Item) → IsOfKind part rank.node
      → IsRank item_cmp (IsDependency gate a) (IsReady gate a) rank
      → IsRank item_cmp (IsDependency gate b) (IsReady gate b) rank
  rank_same rank here is =
      rank_along (IsDependency gate a) (IsDependency gate b) part (edge_along gate a b part u)
      (edge_along gate b a part t) (IsReady gate a) (IsReady gate b)
      (ready_along gate a b part u t) (ready_along gate b a part t u) item_cmp rank here is

module _ (gate : GateRules) (a b : State) (part : Item → Bool) (u : IsUntouched gate a b part)
    (t : IsUntouched gate b a part) (item : Item) (here : IsOfKind part item) where
  least_unknown_along : (number : ℕ) → IsLeastUnknown gate a item number → IsLeastUnknown gate b item number
  least_unknown_along number is = record {
    here = unknown_along gate a b part u item number here is.here;
    least = λ other unknown. is.least other (unknown_along gate b a part t item other here unknown);
  }

  nearest_along : (number rank : ℕ) → IsLeastNearest gate a item number rank → IsLeastNearest gate b item number rank
  nearest_along number rank is = record {
    shortest = far_along gate a b part u t rank item here is.shortest;
    rest = is.rest;
    one_more = is.one_more;
    begins = begins_along gate a b part u t item is.rest number here is.begins;
    least = λ other begins. is.least other (begins_along gate b a part t u item is.rest other here begins);
  }

  pub refused_along : (refusal : Refusal) (rank : ℕ) → IsRefused gate a item refusal rank
      → IsRefused gate b item refusal rank
  refused_along (Own condition) rank is = (same_own gate a b item (Some condition) (u.own item here) is.0, is.1)
  refused_along Cycle rank is =
      (same_own gate a b item None (u.own item here) is.0, barred_along gate a b part u t item here is.1, is.2)
  refused_along (Unknown number) rank is =
      (same_own gate a b item None (u.own item here) is.0, off_along gate a b part u t item here is.1, least_unknown_along number is.2, is.3)
  refused_along (Dependency number) rank is =
      (eligible_along gate a b part u t item here is.0, nearest_along number rank is.1)
