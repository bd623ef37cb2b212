use Rattle.std.proofs.Common.{◌∙◌, ◌+◌, [], take, ap, sym, arith}
use Rattle.std.proofs.lemmas.Option.{get_or_from_slice_get}
use Rattle.world_core.proofs.Saving.{first_arrive}
use Rattle.world_core.proofs.Sites.{one_more_in}
use Rattle.world_core.proofs.site.replica_of_first.Goals as goal

pub loop-place-preserved : goal.loop-place-preserved
loop-place-preserved g c =
    let journal = c.args.replica.now in
    let place = c.loop-place.place in
    let op = c.arrival.result.now in
    let apart = c.arrival.ensures.apart in
    one_more_in [] journal place op c.loop-place.first c.take_copy.new.replica
    (omega (arith, c.loop-place-test.true, c.requires))
    (sym (get_or_from_slice_get journal place op op c.arrival.ensures.operation))
    (c.loop-place.invariant ∙ sym (first_arrive place journal apart)) c.in_ok-take_copy.ensures.ok
    ∙ first_arrive (place + 1) journal apart

pub returns : goal.returns
returns g c =
    c.loop-place.invariant
    ∙ ap (λ n. take n c.args.replica.now) (omega (arith, c.loop-place.auto.place-end, c.loop-place-test.false))
