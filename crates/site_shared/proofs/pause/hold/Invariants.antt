use Rattle.site_shared.specs.Pauses.{Waits}
use Rattle.site_shared.proofs.pause.hold.Given as goal

-- each answer so far was true
abbrev pub invariant-loop-turn : goal.invariant-loop-turn
invariant-loop-turn g l = Waits g.P.Pause.turns l._turn l.fn.pause l.pause
