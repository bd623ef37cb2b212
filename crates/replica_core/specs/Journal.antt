-- A journal is a set of operations: the grow-only set of Shapiro, Preguiça, Baquero and Zawirski (INRIA RR-7506, 2011,
-- 3.3.1). It is held as the list of its arrivals, each operation once, in the order in which it first came.
use Rattle.std.specs.Prelude.{Bool, true, false, List, [], ◌∷◌, ◌++◌, if◌then◌else◌}
use Rattle.std.specs.Ordering.{eq_by_cmp}
use Rattle.std.specs.List.{IsDistinct, list_any}
use Rattle.review_ops.specs.Timestamp.{Timestamp, timestamp_cmp}
use Rattle.review_ops.specs.Operation.{Operation, operation_cmp}
use Rattle.replica_core.specs.declared.taken.Taken.{Taken}
use Rattle.replica_core.specs.declared.taken.Taken.TheVariants.{New, Known}

-- whether two are one operation: one stamp and one body
abbrev pub same_operation : Operation → Operation → Bool
same_operation = eq_by_cmp operation_cmp

-- whether the journal has the operation
abbrev pub has : List Operation → Operation → Bool
has journal op = list_any (λ arrived. same_operation arrived op) journal

-- whether an operation of the journal has the stamp
abbrev pub has_stamp : List Operation → Timestamp → Bool
has_stamp journal stamp = list_any (λ arrived. eq_by_cmp timestamp_cmp arrived.stamp stamp) journal

-- the journal once the operation has come: it is added where it is new
abbrev pub arrived : List Operation → Operation → List Operation
arrived journal op = if has journal op then journal else journal ++ op ∷ []

-- the journal once these have come, one after the other
abbrev pub all_arrived : List Operation → List Operation → List Operation
all_arrived journal [] = journal
all_arrived journal (op ∷ ops) = all_arrived (arrived journal op) ops

-- no operation is in the list twice
abbrev pub AreApart : List Operation → Type 0
AreApart = IsDistinct same_operation

-- what `take` answers: `Known` if the journal had the operation, else `New`
abbrev pub taken_of : Bool → Taken
taken_of true = Known
taken_of false = New
