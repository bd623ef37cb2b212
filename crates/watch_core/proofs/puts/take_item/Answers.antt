use Rattle.std.proofs.Common.{[], Contains, List, arith, subst, sym}
use Rattle.ready_core.specs.declared.verdicts.Left.{Left}
use Rattle.ready_core.specs.Verdicts.{IsOutAt}
use Rattle.watch_core.specs.Placed.{left_item, node_of}
use Rattle.watch_core.proofs.Putting.{HasNew-absent, apart_first, left_taken, left_within, lists_ranked, lists_taken}
use Rattle.watch_core.proofs.Putting.{rank_absent}
use Rattle.watch_core.proofs.puts.take_item.Goals as goal

pub returns-in_default-clause-lists : goal.returns-in_default-clause-lists
returns-in_default-clause-lists c =
    let item = c.args.item in
    let out = c.args.out.now.items in
    let absent = HasNew-absent left_item item out (λ other has. c.in_default.ensures other (subst (λ l. Contains l other) (sym c.as_slice.ensures.value) has)) in
    lists_ranked c.args.ready.now.items c.take_ready.new.ready.items c.args.ranks.now.items c.take_ready.new.ranks.items out out item [] [] c.requires c.take_ready.ensures.ready c.requires.out_in_order
    c.take_ready.ensures.ranks absent (apart_first node_of left_item [])

pub returns-in_default-clause-out : goal.returns-in_default-clause-out
returns-in_default-clause-out c =
    HasNew-absent left_item c.args.item c.args.out.now.items
    (λ other has. c.in_default.ensures other (subst (λ l. Contains l other) (sym c.as_slice.ensures.value) has))

pub remove-requires : goal.remove-requires
remove-requires c =
    let at = subst (λ (l : List Left). IsOutAt l c.args.item c.in-Some.place) c.as_slice.ensures.value c.in-Some.ensures in
    let within = left_within c.args.ready.now.items c.args.ranks.now.items c.args.out.now.items c.requires c.in-Some.place c.args.item at in
    omega (arith, within, c.args.out.now.ok.0)

pub returns-clause-lists : goal.returns-clause-lists
returns-clause-lists c =
    let at = subst (λ (l : List Left). IsOutAt l c.args.item c.in-Some.place) c.as_slice.ensures.value c.in-Some.ensures in
    rw c.remove.ensures.items (lists_taken c.args.ready.now.items c.args.ranks.now.items c.args.out.now.items c.requires c.in-Some.place c.args.item at)

pub returns-clause-ranks : goal.returns-clause-ranks
returns-clause-ranks c =
    let at = subst (λ (l : List Left). IsOutAt l c.args.item c.in-Some.place) c.as_slice.ensures.value c.in-Some.ensures in
    rank_absent c.args.ready.now.items c.args.ranks.now.items c.args.out.now.items c.requires c.in-Some.place c.args.item at

pub returns-clause-out : goal.returns-clause-out
returns-clause-out c =
    let at = subst (λ (l : List Left). IsOutAt l c.args.item c.in-Some.place) c.as_slice.ensures.value c.in-Some.ensures in
    rw c.remove.ensures.items (left_taken c.args.ready.now.items c.args.ranks.now.items c.args.out.now.items c.requires c.in-Some.place c.args.item at)
