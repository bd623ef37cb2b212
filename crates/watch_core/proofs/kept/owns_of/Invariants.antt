use Rattle.std.proofs.Common.{◌≡◌, take, drop, filter, length}
use Rattle.state_core.specs.State.{state_of}
use Rattle.ready_core.specs.Causes.{AreOwns}
use Rattle.watch_core.specs.Asked.{counted}
use Rattle.watch_core.specs.KeptOwns.{is_of_touched}
use Rattle.watch_core.proofs.kept.owns_of.Given as goal

abbrev pub invariant-loop-item : goal.invariant-loop-item
invariant-loop-item g l = record {
  owns : AreOwns l.gate (state_of l.replica) (take l.item-index l.items) l.owns.items;
  asked : g.J.Judge.asked l.judge ≡ counted (g.J.Judge.asked l.initial.judge)
      (length (filter (is_of_touched (drop l.seen l.replica)) (take l.item-index l.items)));
}
