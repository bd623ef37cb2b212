use Rattle.std.proofs.Common.{◌*◌, ◌-◌, ◌^◌, length}
use Rattle.walk_core.specs.Marks.{total_of}
use Rattle.walk_core.proofs.Passing.{HasPassed}
use Rattle.walk_core.proofs.counts.pass_all.Given as goal

abbrev pub invariant-sweeps : goal.invariant-sweeps
invariant-sweeps g l = HasPassed l.graph l.firsts l.nodes l.initial.rows.items l.rows.items

-- each sweep but the last raises the number of all marks, which has a bound
abbrev pub decreases-sweeps : goal.decreases-sweeps
decreases-sweeps g l = length l.initial.rows.items * (8 * 2 ^ 64) - total_of l.rows.items
