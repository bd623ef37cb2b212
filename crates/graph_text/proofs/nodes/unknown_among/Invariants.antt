use Rattle.std.proofs.Common.{Contains, take}
use Rattle.state_core.specs.Known.{IsKnown}
use Rattle.graph_text.specs.Places.{AreKept}
use Rattle.graph_text.proofs.nodes.unknown_among.Given as goal

-- those of the changes so far of which no patch set is known
abbrev pub invariant-loop-target : goal.invariant-loop-target
invariant-loop-target l =
    AreKept (Contains (take l.target-index l.targets)) (λ number. ¬ IsKnown l.state number) l.unknown.items
