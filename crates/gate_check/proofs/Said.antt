-- Where the conditions on a change's status let none in, one of them is said to be never met.
use Rattle.std.proofs.Common.{◌≡◌, ◌⊎◌, inl, inr, refl, Bool, true, false, not, ◌&&◌, ◌||◌, Option, None, Some, is_some}
use Rattle.std.specs.Prelude.{option_map}
use Rattle.std.specs.Str.{bytes_eq}
use Rattle.change_core.specs.declared.life.Status.TheVariants.{New}
use Rattle.gate_rules.specs.Own.{same_flag, some}
use Rattle.gate_rules.specs.Rules.{GateRules}
use Rattle.gate_rules.specs.declared.condition.Side.{Side}
use Rattle.gate_rules.specs.declared.condition.Side.TheVariants.{Reject, Require}
use Rattle.gate_check.specs.Meeting.{asks_status, comes_out, is_open_never_met, is_status_never_met, lets_in}
use Rattle.gate_check.specs.Meeting.{lets_none_in, standing_with}
use Rattle.gate_check.proofs.Shut.{none_let_in}

neither : (a b : Bool) → (a || b) ≡ false → (a ≡ false) × (b ≡ false)
neither true b e = cc
neither false b e = (refl, e)

not_asked : {X : Type 0} (o : Option X) → is_some o ≡ false → o ≡ None
not_asked None e = refl
not_asked (Some x) e = cc

is_true : (b : Bool) → ¬ (b ≡ false) → b ≡ true
is_true true isnt = refl
is_true false isnt = absurd (isnt refl)

both_ways : (b : Bool) → b ≡ true → ¬ (b ≡ false)
both_ways true is not = cc
both_ways false is not = cc

-- a gate that asks nothing of the status lets a new change in
lets_new_in : (gate : GateRules) → gate.require.is_open ≡ None → gate.require.status ≡ None
    → gate.reject.is_open ≡ None → gate.reject.status ≡ None → lets_in gate New ≡ true
lets_new_in gate p q r s = let standing = standing_with New in
    λ i. comes_out true (option_map (same_flag standing.is_open) (p i))
    && comes_out true (option_map (some (bytes_eq standing.status)) (q i))
    && comes_out false (option_map (same_flag standing.is_open) (r i))
    && comes_out false (option_map (some (bytes_eq standing.status)) (s i))

-- so one that lets none in asks something
asks_some : (gate : GateRules) → lets_none_in gate ≡ true → (asks_status gate.require || asks_status gate.reject) ≡ true
asks_some gate none = is_true (asks_status gate.require || asks_status gate.reject) (λ e.
    let sides = neither (asks_status gate.require) (asks_status gate.reject) e in
    let required = neither (is_some gate.require.is_open) (is_some gate.require.status) sides.0 in
    let rejected = neither (is_some gate.reject.is_open) (is_some gate.reject.status) sides.1 in
    both_ways (lets_in gate New)
    (lets_new_in gate (not_asked gate.require.is_open required.0) (not_asked gate.require.status required.1)
    (not_asked gate.reject.is_open rejected.0) (not_asked gate.reject.status rejected.1))
    (none_let_in gate New none))

-- of what is required and what is rejected, each as `open` and as `status`
said_by : (n a b c d : Bool) → n ≡ true → ((a || b) || (c || d)) ≡ true
    → (((a && n) || (b && n)) ≡ true) ⊎ (((c && (not (a || b) && n)) || (d && (not (a || b) && n))) ≡ true)
said_by false a b c d e some = cc
said_by true true b c d e some = inl refl
said_by true false true c d e some = inl refl
said_by true false false true d e some = inr refl
said_by true false false false true e some = inr refl
said_by true false false false false e some = cc

pub said_of : (gate : GateRules) → lets_none_in gate ≡ true
    → (side : Side) × ((is_open_never_met gate side || is_status_never_met gate side) ≡ true)
said_of gate none =
    elim (said_by (lets_none_in gate) (is_some gate.require.is_open) (is_some gate.require.status) (is_some gate.reject.is_open) (is_some gate.reject.status) none (asks_some gate none)) [
      | inl required ↦ (Require, required)
      | inr rejected ↦ (Reject, rejected)
    ]
