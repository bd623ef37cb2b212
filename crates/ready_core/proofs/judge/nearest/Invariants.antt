use Rattle.std.proofs.Common.{ℕ, ◌<◌, get_or}
use Rattle.walk_core.specs.Levels.{HasDistance}
use Rattle.ready_core.proofs.judge.nearest.Given as goal

abbrev pub invariant-loop-place : goal.invariant-loop-place
invariant-loop-place l = (k : ℕ) → k < l.place-index → ¬ HasDistance l.ranks (get_or l.places k 0) l.wanted
