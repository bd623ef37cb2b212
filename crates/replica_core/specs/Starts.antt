-- The starts of a site. Each time it starts under one greater than all before, so no stamp is used twice.
use Rattle.std.specs.Prelude.{◌≡◌, ◌≤◌, ◌<◌, ℕ, List, All}
use Rattle.review_ops.specs.Operation.{Operation}

-- no operation of the site has a later start
abbrev pub HasNoLater : ℕ → ℕ → List Operation → Type 0
HasNoLater site start ops = All (λ op. op.stamp.site ≡ site → op.stamp.start ≤ start) ops

-- the least such start: the greatest start of the site's operations, or 0 where it has none
abbrev pub IsLatest : ℕ → ℕ → List Operation → Type 0
IsLatest site latest ops = HasNoLater site latest ops × ((start : ℕ) → HasNoLater site start ops → latest ≤ start)

-- each operation of the site has an earlier start
abbrev pub IsUnused : ℕ → ℕ → List Operation → Type 0
IsUnused site start ops = All (λ op. op.stamp.site ≡ site → op.stamp.start < start) ops
