use Rattle.std.proofs.Common.{◌<◌, length, refl, subst}
use Rattle.replica_core.proofs.Sorting.{sorted_of, sorted_of-in_order, sorted_of-some}
use Rattle.replica_core.proofs.replica.Replica.absorb.Goals as goal

pub returns : goal.returns
returns g c =
    let other = c.args.other in
    let some : 0 < length other = subst (λ j. 0 < length j) c.other.view_is c.in-Err.ensures.err in
    (sorted_of other, sorted_of-in_order other, (refl, sorted_of-some other some))
