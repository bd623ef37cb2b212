-- Which starts are above the latest of a site.
use Rattle.std.proofs.Common.{ℕ, ◌-◌, ◌≤◌, ◌<◌, List, arith}
use Rattle.review_ops.specs.Operation.{Operation}
use Rattle.replica_core.specs.Starts.{HasNoLater, IsLatest, IsUnused}

-- a start from 1 that is unused is above the latest one
pub unused_is_above : (site latest start : ℕ) (ops : List Operation) → IsLatest site latest ops → 1 ≤ start
    → IsUnused site start ops → latest < start
unused_is_above site latest start ops is_latest from_1 unused =
    let earlier : HasNoLater site (start - 1) ops = λ k op within is_of. omega (arith, unused k op within is_of) in
    omega (arith, from_1, is_latest.1 (start - 1) earlier)
