-- The operation at a place is none of those before it, so that it is added.
use Rattle.std.proofs.Common.{◌≡◌, ◌+◌, suc, List, Some, slice_get, take, sym, ◌∙◌, ap, arith}
use Rattle.review_ops.specs.Operation.{Operation}
use Rattle.replica_core.specs.Journal.{arrived}
use Rattle.site_shared.proofs.Spared.{take_arrived}
use Rattle.site_shared.proofs.spares.caught_up.Goals as goal

pub loop-place-preserved : goal.loop-place-preserved
loop-place-preserved c =
    let arrivals = c.args.shown.now in
    let place = c.loop-place.place in
    let op = c.in_ok-copy.field-0 in
    let at : slice_get arrivals place ≡ Some op = c.arrival.ensures.operation ∙ ap Some (sym c.in_ok-copy.ensures) in
    let next : suc place ≡ place + 1 = omega arith in
    c.in_ok-_new.ensures.ok.0 ∙ (ap (λ (r : List Operation). arrived r op) c.loop-place.invariant ∙ (take_arrived arrivals place op c.arrival.ensures.apart at ∙ ap (λ k. take k arrivals) next))
