-- A name that was found, with how far it is.
use Rattle.std.specs.Prelude.{◌≡◌, ℕ, List}
use Rattle.gate_check.specs.Nearest.{edits}
use Rattle.gate_check.specs.declared.nearest.Near.{Near}

abbrev pub IsNearName : List ℕ → Near → Type 0
IsNearName name near = near.edits ≡ edits name near.name.now
