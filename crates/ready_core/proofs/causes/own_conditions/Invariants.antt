use Rattle.std.proofs.Common.{take}
use Rattle.ready_core.specs.Causes.{AreOwns, IsOwnBefore}
use Rattle.ready_core.proofs.causes.own_conditions.Given as goal

abbrev pub invariant-loop-place : goal.invariant-loop-place
invariant-loop-place l = record {
  owns : AreOwns l.gate l.state (take l.place l.items) l.owns.items;
  own : IsOwnBefore l.gate l.state l.items l.place l.own;
}
