-- Which start a site runs under.
use Rattle.std.specs.Prelude.{◌≡◌, ℕ, List, Option, IfSome}
use Rattle.pull_guard.specs.Guards.{MayBegin}
use Rattle.replica_core.specs.Starts.{IsUnused}
use Rattle.review_ops.specs.Operation.{Operation}

-- the start is greater than each that the site has in the record, and isn't the greatest possible one; if a start is
-- named, it is that one
abbrev pub IsStartOf : ℕ → Option ℕ → List Operation → ℕ → Type 0
IsStartOf site named journal start =
    IsUnused site start journal × MayBegin start × IfSome named (λ wanted. start ≡ wanted)
