use Rattle.std.proofs.Common.{◌≡◌, ◌+◌, length, refl, suc, List, Some, slice_get, take, sym, ◌∙◌, ap, arith}
use Rattle.std.proofs.lemmas.Option.{slice_get_read}
use Rattle.review_ops.specs.Operation.{Operation}
use Rattle.replica_core.specs.Journal.{arrived, all_arrived}
use Rattle.replica_core.specs.JournalLaws.{all_arrived-push}
use Rattle.site_shared.proofs.Spared.{take-push}
use Rattle.site_shared.proofs.spares.with_copies.Goals as goal

pub loop-op-preserved : goal.loop-op-preserved
loop-op-preserved c =
    let ops = c.args.ops.now in
    let index = c.loop-op.op-index in
    let op = c.in_ok-copy.field-0 in
    let at : slice_get ops index ≡ Some op = slice_get_read ops (length ops) index c.op-item.result refl c.loop-op-test.true c.op-item.is ∙ ap Some (sym c.in_ok-copy.ensures) in
    let next : suc index ≡ index + 1 = omega arith in
    c.in_ok-_taken.ensures.ok.0
    ∙ (ap (λ (r : List Operation). arrived r op) c.loop-op.invariant
    ∙ (sym (all_arrived-push c.args.replica (take index ops) op) ∙ ap (all_arrived c.args.replica) (take-push ops index op at ∙ ap (λ k. take k ops) next)))
