use Rattle.std.proofs.Common.{◌≤◌, ◌+◌, length}
use Rattle.std.specs.Prelude.{vec_len, vec_capacity}
use Rattle.std.specs.Vec.Iter.{into_iter_items}
use Rattle.world_core.proofs.Runs.{GoesOn}
use Rattle.world_core.proofs.world.World.run.Given as goal

-- the run goes on from here, and there is room for the answers that are left
abbrev pub invariant-loop-event : goal.invariant-loop-event
invariant-loop-event g l = record {
  goes : GoesOn l.fn.self l.fn.events.items l.answers.items l.self (into_iter_items l.event-iterator);
  room : vec_len l.answers + length (into_iter_items l.event-iterator) ≤ vec_capacity l.answers;
}
