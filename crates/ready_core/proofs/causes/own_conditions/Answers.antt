use Rattle.std.proofs.Common.{get_or, subst, arith}
use Rattle.std.proofs.lemmas.Option.{slice_get-get_or}
use Rattle.lattice_core.specs.ZipLaws.{AllZip-more}
use Rattle.gate_rules.specs.Own.{IsOwn}
use Rattle.state_core.specs.declared.item.Item.{Item}
use Rattle.graph_core.specs.ItemGraph.{IsAt}
use Rattle.ready_core.proofs.causes.own_conditions.Goals as goal

pub loop-place-preserved : goal.loop-place-preserved
loop-place-preserved c =
    let items = c.args.items.now in
    let no_item : Item = record { change = 0; set = 0 } in
    let here = slice_get-get_or items c.loop-place.place no_item (omega arith) in
    record {
      owns = rw c.in_ok-push.ensures.items
          (AllZip-more (IsOwn c.args.gate.now c.args.state.now) items c.loop-place.owns.items c.loop-place.place no_item c.own_at-own.result (omega arith)
          c.loop-place.invariant.owns (c.own_at-own.ensures (get_or items c.loop-place.place no_item) here));
      own = λ earlier item follows at. c.own_at-own.ensures item
          (subst (λ place. IsAt items place item) (omega (arith, follows)) at);
    }
