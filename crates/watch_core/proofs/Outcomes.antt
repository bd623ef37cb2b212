-- What two clauses on one outcome say together.
use Rattle.std.proofs.Common.{Err, Ok, Result}
use Rattle.std.specs.Prelude.{IfOk}

pub both_if : {T E : Type 0} (r : Result T E) (P Q R : T → Type 0) → ((x : T) → P x → Q x → R x) → IfOk r P → IfOk r Q
    → IfOk r R
both_if (Ok value) P Q R gives p q = gives value p q
both_if (Err error) P Q R gives p q = p
