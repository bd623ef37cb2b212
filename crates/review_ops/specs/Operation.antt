-- Operations and their order.
use Rattle.std.specs.declared.cmp.Ordering.{Ordering}
use Rattle.std.specs.Ordering.{on, then_cmp}
use Rattle.review_ops.specs.Timestamp.{Timestamp, timestamp_cmp}
use Rattle.review_ops.specs.Deed.{Deed, deed_cmp}

-- what was done, when and where
pub record Operation : Type 0 where
  pub stamp : Timestamp
  pub deed : Deed

-- by stamp, then by deed
abbrev pub operation_cmp : Operation → Operation → Ordering
operation_cmp = then_cmp (on (λ op. op.stamp) timestamp_cmp) (on (λ op. op.deed) deed_cmp)
