use Rattle.std.proofs.Common.{◌++◌, length, arith, ap}
use Rattle.std.proofs.lemmas.List.{nil_from_length}
use Rattle.std.specs.Vec.Iter.{into_iter_items}
use Rattle.world_core.specs.World.{new_world}
use Rattle.world_core.proofs.Coming.{converges}
use Rattle.world_core.proofs.Passed.{Run-append}
use Rattle.world_core.proofs.Runs.{one_more, all_done}
use Rattle.world_core.proofs.world.World.run.Goals as goal

pub loop-event-preserved : goal.loop-event-preserved
loop-event-preserved g c =
    let fewer = ap length c.in-Some.ensures.steps.0 in
    record {
      goes = one_more c.args.self.now c.args.events.items c.loop-event.answers.items c.push.new.self.items c.loop-event.self c.step.new.self c.in-Some.event
          (into_iter_items c.loop-event.event-iterator) (into_iter_items c.next.new.self) c.step.result
          c.in-Some.ensures.steps.0 c.in_ok-push.ensures.items c.step.ensures.step c.loop-event.invariant.goes;
      room = omega (arith, fewer, c.in_ok-push.ensures.len, c.in_ok-push.ensures.capacity, c.loop-event.invariant.room);
    }

pub returns-clause-converges : goal.returns-clause-converges
returns-clause-converges g c = λ sites earlier before was.
    converges sites (earlier ++ c.args.events.items) (before ++ c.loop-event.answers.items) c.loop-event.self
    (Run-append earlier before c.args.events.items c.loop-event.answers.items (new_world sites) c.args.self.now c.loop-event.self was
    (all_done c.args.self.now c.args.events.items c.loop-event.answers.items c.loop-event.self (into_iter_items c.loop-event.event-iterator)
    (nil_from_length (into_iter_items c.loop-event.event-iterator) (omega (arith, c.loop-event.event-iterator.rest.ok.0, c.in-None.ensures.steps.0))) c.loop-event.invariant.goes))

pub returns-clause-run : goal.returns-clause-run
returns-clause-run g c =
    all_done c.args.self.now c.args.events.items c.loop-event.answers.items c.loop-event.self
    (into_iter_items c.loop-event.event-iterator)
    (nil_from_length (into_iter_items c.loop-event.event-iterator) (omega (arith, c.loop-event.event-iterator.rest.ok.0, c.in-None.ensures.steps.0))) c.loop-event.invariant.goes
