use Rattle.std.proofs.Common.{None, Some, ap, get_or, length, refl, arith}
use Rattle.state_core.specs.declared.item.Item.{Item}
use Rattle.ready_core.proofs.Ranking.{read_at, here_at, safe_at, unsafe_at}
use Rattle.ready_core.proofs.Judging.{judged_nothing, judged_ready, judged_out}
use Rattle.ready_core.proofs.judge.by_place.Goals as goal

pub loop-place-init : goal.loop-place-init
loop-place-init c = λ gate state is of. rw (c.new-ready.ensures.items, c.new-out.ensures.items)
    (judged_nothing gate state c.args.graph.now.items)

pub loop-place-preserved-in_default : goal.loop-place-preserved-in_default
loop-place-preserved-in_default c = λ gate state is of.
    let next : Item = get_or c.items-items.result.now c.loop-place.place (record { change = 0; set = 0 }) in
    let here = here_at c.args.graph.now.items c.items-items.result.now c.loop-place.place (record { change = 0; set = 0 }) c.items-items.ensures (omega arith) in
    let none = read_at c.args.ranks.now c.loop-place.place None (omega (arith, c.requires.distances.nodes, c.requires.nodes, ap length c.items-items.ensures)) c.in_default.is in
    rw c.in_ok-push.ensures.items
    (judged_ready gate state c.args.graph.now.items is.items.in_order c.loop-place.place c.loop-place.ready.items c.loop-place.out.items (c.loop-place.invariant gate state is of) next here
    (safe_at gate state c.args.graph.now c.args.causes.now c.args.ranks.now is of c.requires c.loop-place.place next here none))

pub refusal_of-refusal-requires-clause-rank : goal.refusal_of-refusal-requires-clause-rank
refusal_of-refusal-requires-clause-rank c =
    read_at c.args.ranks.now c.loop-place.place (Some c.in-Some.rank)
    (omega (arith, c.requires.distances.nodes, c.requires.nodes, ap length c.items-items.ensures)) c.in-Some.is

pub loop-place-preserved : goal.loop-place-preserved
loop-place-preserved c = λ gate state is of.
    let next : Item = get_or c.items-items.result.now c.loop-place.place (record { change = 0; set = 0 }) in
    let here = here_at c.args.graph.now.items c.items-items.result.now c.loop-place.place (record { change = 0; set = 0 }) c.items-items.ensures (omega arith) in
    let rank = read_at c.args.ranks.now c.loop-place.place (Some c.in-Some.rank) (omega (arith, c.requires.distances.nodes, c.requires.nodes, ap length c.items-items.ensures)) c.in-Some.is in
    rw c.in_ok-push-2.ensures.items
    (judged_out gate state c.args.graph.now.items is.items.in_order c.loop-place.place c.loop-place.ready.items c.loop-place.out.items (c.loop-place.invariant gate state is of) next here
    (record { item = next; refusal = c.refusal_of-refusal.result; rank = c.in-Some.rank }) refl
    (unsafe_at gate state c.args.graph.now c.args.causes.now c.args.ranks.now is of c.requires c.loop-place.place next c.in-Some.rank here rank)
    (c.refusal_of-refusal.ensures gate state next is of here))
