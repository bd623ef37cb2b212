use Rattle.std.proofs.Common.{◌≡◌, ℕ, ◌<◌, Some, map}
use Rattle.std.specs.Prelude.{slice_get}
use Rattle.serde_json.specs.Data.{Data}
use Rattle.serde_json.specs.View.{view}
use Rattle.gate_rules.specs.BadItems.{IsTaken}
use Rattle.gate_rules.proofs.bad_base.first_refused.Given as goal

-- the items so far are taken
abbrev pub invariant-loop-place : goal.invariant-loop-place
invariant-loop-place l = (earlier : ℕ) (item : Data) → earlier < l.place
    → slice_get (map view l.items) earlier ≡ Some item → IsTaken earlier item
