use Rattle.std.proofs.Common.{arith}
use Rattle.graph_core.proofs.Placing.{places_more_none, places_more}
use Rattle.graph_core.proofs.targets.places_of.Goals as goal

pub loop-number-preserved-in_default : goal.loop-number-preserved-in_default
loop-number-preserved-in_default c =
    places_more_none c.args.items.now c.requires.in_order c.args.numbers.now c.loop-number.places.items c.loop-number.number-index (omega arith) c.loop-number.invariant c.in_default.ensures

pub loop-number-preserved : goal.loop-number-preserved
loop-number-preserved c =
    rw c.in_ok-push.ensures.items
    (places_more c.args.items.now c.requires.in_order c.args.numbers.now c.loop-number.places.items c.loop-number.number-index c.in-Some.place c.requires.increasing (omega arith) c.loop-number.invariant c.in-Some.ensures)
