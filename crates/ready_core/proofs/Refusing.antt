-- What a refusal says of its item.
use Rattle.std.proofs.Common.{◌≡◌, ℕ, Some, suc, sym, subst, arith}
use Rattle.walk_core.specs.Walks.{IsDistance-zero}
use Rattle.gate_rules.specs.Rules.{GateRules}
use Rattle.state_core.specs.Items.{IsItem}
use Rattle.gate_rules.specs.Own.{IsOwn}
use Rattle.state_core.specs.declared.item.Item.{Item}
use Rattle.gate_rules.specs.declared.condition.Condition.{Condition}
use Rattle.state_core.specs.State.{State}
use Rattle.graph_core.specs.Dependencies.{IsDependency}
use Rattle.state_core.specs.GreatestKnown.{greatest_known}
use Rattle.ready_core.specs.declared.verdicts.Refusal.{Refusal}
use Rattle.ready_core.specs.declared.verdicts.Refusal.TheVariants.{Own, Cycle, Unknown, Dependency}
use Rattle.ready_core.specs.Refusals.{IsFree, IsIneligible, IsRefused, IsRefusalRank}

-- an item that breaks a condition isn't free
pub own_excludes : (gate : GateRules) (state : State) (item : Item) (condition : Condition) → IsItem state item
    → IsOwn gate state item (Some condition) → ¬ IsFree gate state item
own_excludes gate state item condition is broken free =
    let current = greatest_known is.0 item.set is.2 in
    let first = broken is.0 current.0 is.1 current.1 in
    free is.0 current.0 is.1 current.1 condition first.here

no_rest : (rest : ℕ) → 0 ≡ suc rest → ⊥
no_rest rest e = omega (arith, e)

-- what is refused at rank 0 isn't eligible
pub refused_ineligible : (gate : GateRules) (state : State) (item : Item) (refusal : Refusal)
    → IsRefused gate state item refusal 0 → IsIneligible gate state item
refused_ineligible gate state item (Own condition) is eligible =
    own_excludes gate state item condition eligible.there is.0 eligible.own
refused_ineligible gate state item Cycle is eligible = eligible.off is.1.0 is.1.1
refused_ineligible gate state item (Unknown number) is eligible = eligible.known number is.2.here
refused_ineligible gate state item (Dependency number) is eligible = no_rest is.1.rest is.1.one_more

at_zero : (gate : GateRules) (state : State) (item : Item) (refusal : Refusal) (rank : ℕ) → rank ≡ 0
    → IsRefused gate state item refusal rank → IsRefusalRank gate state item rank
at_zero gate state item refusal rank zero_rank is =
    subst (IsRefusalRank gate state item) (sym zero_rank)
    (IsDistance-zero {E = IsDependency gate state} {P = IsIneligible gate state} item (refused_ineligible gate state item refusal (subst (IsRefused gate state item refusal) zero_rank is)))

-- the rank of a refused item is its distance to one that isn't eligible
pub refused_rank : (gate : GateRules) (state : State) (item : Item) (refusal : Refusal) (rank : ℕ)
    → IsRefused gate state item refusal rank → IsRefusalRank gate state item rank
refused_rank gate state item (Own condition) rank is = at_zero gate state item (Own condition) rank is.1 is
refused_rank gate state item Cycle rank is = at_zero gate state item Cycle rank is.2 is
refused_rank gate state item (Unknown number) rank is = at_zero gate state item (Unknown number) rank is.3 is
refused_rank gate state item (Dependency number) rank is = is.1.shortest
