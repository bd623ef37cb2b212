-- The gate in force at a site, and how another one replaces it.
use Rattle.std.specs.Prelude.{◌≡◌, ◌⊎◌, ◌<◌, ◌+◌, ◌-◌, ◌^◌, ℕ, min, Option, None, Some}
use Rattle.std.specs.Arc.{arc_value}
use Rattle.gate_rules.specs.Rules.{GateRules}
use Rattle.site_serve.specs.declared.reloads.InForce.{InForce}
use Rattle.site_serve.specs.declared.gate_follower.GateFollower.{GateFollower}

abbrev pub gate_in : InForce → GateRules
gate_in in_force = arc_value in_force.gate

-- the gate that a thread judges under
abbrev pub followed_gate : GateFollower → GateRules
followed_gate follower = gate_in follower.in_force

-- the later gate is the same, or has a greater number
abbrev pub IsNoOlder : InForce → InForce → Type 0
IsNoOlder old new = (new ≡ old) ⊎ (old.number < new.number)

-- the number of the gate that is put in force after the latest one: 1, or one more, as long as there is one
abbrev pub next_number : Option InForce → ℕ
next_number None = 1
next_number (Some latest) = min (latest.number + 1) (2 ^ 64 - 1)

-- the gate is in force in place of the latest one, under the next number
abbrev pub SucceedsGate : Option InForce → GateRules → Option InForce → Type 0
SucceedsGate latest gate None = ⊥
SucceedsGate latest gate (Some newer) = (gate_in newer ≡ gate) × (newer.number ≡ next_number latest)
