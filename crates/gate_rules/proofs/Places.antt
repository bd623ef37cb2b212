-- A byte adds one at most to a place.
use Rattle.std.proofs.Common.{ℕ, Bool, true, false, ◌≤◌, ◌+◌, ◌==◌, if◌then◌else◌, arith}
use Rattle.gate_rules.specs.Place.{after}
use Rattle.gate_rules.specs.declared.place.Place.{Place}

-- the column is from 1, and line and column are no more than this together
abbrev pub IsWithin : ℕ → Place → Type 0
IsWithin most place = (1 ≤ place.column) × (place.line + place.column ≤ most)

within_either : (most : ℕ) (place : Place) (ends : Bool) → IsWithin most place
    → IsWithin (most + 1) (if ends then record { line = place.line + 1; column = 1 } else record { line = place.line; column = place.column + 1 })
within_either most place true within = (omega arith, omega (arith, within.0, within.1))
within_either most place false within = (omega arith, omega (arith, within.1))

pub within_after : (most : ℕ) (place : Place) (byte : ℕ) → IsWithin most place → IsWithin (most + 1) (after place byte)
within_after most place byte within = within_either most place (byte == 10) within
