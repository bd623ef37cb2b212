-- What a front lacks of a journal.
use Rattle.std.specs.Prelude.{ℕ, Bool, List, filter, refl, nat_lt}
use Rattle.std.specs.declared.cmp.Ordering.{Ordering}
use Rattle.std.specs.Ordering.{nat_cmp, on}
use Rattle.lattice_core.specs.Keep.{IsExactOrder, pair_order, pairs_exact, numbers_exact, on_exact}
use Rattle.review_ops.specs.Deed.{Deed, deed_cmp}
use Rattle.review_ops.specs.Operation.{Operation}
use Rattle.review_ops.specs.Order.{deeds_exact}
use Rattle.replica_core.specs.Front.{Reaches, reach_of}
use Rattle.replica_core.specs.InOrder.{IsInOrder}

-- where an operation is among those of its row, and which row it is of
abbrev pub row_key : Operation → ℕ × (ℕ × (ℕ × (ℕ × Deed)))
row_key op = (op.stamp.site, (op.stamp.start, (op.stamp.seq, (op.stamp.time, op.deed))))

-- row by row, and in a row by sequence number, time and deed
abbrev pub row_by_row : Operation → Operation → Ordering
row_by_row = on row_key (pair_order nat_cmp (pair_order nat_cmp (pair_order nat_cmp (pair_order nat_cmp deed_cmp))))

pub row_by_row_exact : IsExactOrder row_by_row
row_by_row_exact = on_exact row_key
    (λ p. record { stamp = record { time = p.1.1.1.0; site = p.0; start = p.1.0; seq = p.1.1.0 }; deed = p.1.1.1.1 })
    (λ _. refl)
    (pairs_exact numbers_exact (pairs_exact numbers_exact (pairs_exact numbers_exact (pairs_exact numbers_exact deeds_exact))))

-- whether the operation lies past the front
abbrev pub is_past : Reaches → Operation → Bool
is_past front op = nat_lt (reach_of front op.stamp.site op.stamp.start) op.stamp.seq

-- the operations of a journal that lie past the front, by site, start, sequence number, time and deed
abbrev pub IsMissing : List Operation → Reaches → List Operation → Type 0
IsMissing journal front missing = IsInOrder row_by_row (filter (is_past front) journal) missing
