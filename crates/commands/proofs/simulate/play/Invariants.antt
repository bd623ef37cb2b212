use Rattle.std.specs.Vec.Iter.{into_iter_items}
use Rattle.commands.proofs.Played.{HasPlayed}
use Rattle.commands.proofs.simulate.play.Given as goal

-- some first steps were played, and what they print was printed
abbrev pub invariant-loop-step : goal.invariant-loop-step
invariant-loop-step g l =
    HasPlayed l.fn.script.sites l.fn.script.steps.items (into_iter_items l.step-iterator) l.world
    (g.C.Console.state l.fn.console) (g.C.Console.state l.console)
