use Rattle.std.proofs.Common.{◌∙◌, sym, ap, take, arith}
use Rattle.std.proofs.lemmas.List.{take_all, take_more}
use Rattle.std.proofs.lemmas.Option.{get_or_from_slice_get}
use Rattle.replica_core.specs.Journal.{arrived, all_arrived}
use Rattle.replica_core.specs.JournalLaws.{all_arrived-push}
use Rattle.record_pull.proofs.joining.with_all.Goals as goal

pub loop-place-preserved : goal.loop-place-preserved
loop-place-preserved c =
    let ops = c.args.other.now in
    let place = c.loop-place.place in
    let before = take place ops in
    let op = c.arrival.result.now in
    c.in_ok-take.ensures.ok.0
    ∙ ap (λ journal. arrived journal c.in_ok-copy.field-0) c.loop-place.invariant
    ∙ ap (arrived (all_arrived c.args.gathering before)) (c.in_ok-copy.ensures ∙ sym (get_or_from_slice_get ops place op op c.arrival.ensures.operation))
    ∙ sym (all_arrived-push c.args.gathering before _)
    ∙ ap (all_arrived c.args.gathering) (sym (take_more ops place op (omega (arith, c.loop-place-test.true, c.len-place-end.ensures))))

pub returns : goal.returns
returns c = c.loop-place.invariant ∙ ap (all_arrived c.args.gathering) (take_all c.loop-place.place c.args.other.now (omega (arith, c.loop-place-test.false, c.len-place-end.ensures)))
