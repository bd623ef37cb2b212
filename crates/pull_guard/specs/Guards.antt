-- What a site lets in of what a peer hands over. The rules are the project's own.
use Rattle.std.specs.Prelude.{◌≡◌, ◌⊎◌, ◌≤◌, ◌<◌, ◌+◌, ◌-◌, ◌^◌, ℕ, All, Contains, List, [], ◌∷◌, ◌++◌}
use Rattle.review_ops.specs.Operation.{Operation}
use Rattle.review_ops.specs.Timestamp.{Timestamp}
use Rattle.pull_guard.specs.declared.guard.Bar.{Bar}
use Rattle.pull_guard.specs.declared.guard.Bar.TheVariants.{FarAhead, NotListed}
use Rattle.pull_guard.specs.declared.guard.Guard.{Guard}

-- the site is the guard's own, or one of its list; or nothing is listed, and any site will do
abbrev pub IsListed : Guard → ℕ → Type 0
IsListed guard site = (site ≡ guard.own) ⊎ ((guard.sites.items ≡ []) ⊎ Contains guard.sites.items site)

-- the time is at most 2^40 above the greatest one of the record
abbrev pub IsNear : ℕ → ℕ → Type 0
IsNear latest time = time ≤ latest + 2 ^ 40

-- a site may begin under the start: one is left above it, in 32 bits
abbrev pub MayBegin : ℕ → Type 0
MayBegin start = start < 2 ^ 32 - 1

-- an operation of this stamp is let in, where the record's greatest time is this
pub record IsAllowed (guard : Guard) (latest : ℕ) (stamp : Timestamp) : Type 0 where
  pub listed : IsListed guard stamp.site
  pub near : IsNear latest stamp.time
  pub start : MayBegin stamp.start

-- why it isn't: its site isn't listed; or it is, and its time is far ahead, or its start
abbrev pub IsBarred : Guard → ℕ → Timestamp → Bar → Type 0
IsBarred guard latest stamp NotListed = ¬ IsListed guard stamp.site
IsBarred guard latest stamp FarAhead =
    IsListed guard stamp.site × ((¬ IsNear latest stamp.time) ⊎ (¬ MayBegin stamp.start))

-- all of these operations are let in
abbrev pub AreAllowed : Guard → ℕ → List Operation → Type 0
AreAllowed guard latest ops = All (λ op. IsAllowed guard latest op.stamp) ops

-- they aren't, since the first one that isn't allowed is barred so
abbrev pub AreBarred : Guard → ℕ → List Operation → Bar → Type 0
AreBarred guard latest ops bar =
    (before : List Operation) × (op : Operation) × (after : List Operation) × (ops ≡ before ++ op ∷ after)
    × AreAllowed guard latest before × IsBarred guard latest op.stamp bar
