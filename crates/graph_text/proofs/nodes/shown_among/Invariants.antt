use Rattle.std.proofs.Common.{Contains, take}
use Rattle.graph_text.specs.Places.{AreKept, IsShown}
use Rattle.graph_text.proofs.nodes.shown_among.Given as goal

-- those of the places so far that are drawn
abbrev pub invariant-loop-place : goal.invariant-loop-place
invariant-loop-place l =
    AreKept (Contains (take l.place-index l.places))
    (IsShown l.state l.graph.items l.near.ahead.items l.near.behind.items) l.shown.items
