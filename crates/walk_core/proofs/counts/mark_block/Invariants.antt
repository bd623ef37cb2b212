use Rattle.walk_core.proofs.Blocks.{AreMarkedTo}
use Rattle.walk_core.proofs.counts.mark_block.Given as goal

abbrev pub invariant-loop-target : goal.invariant-loop-target
invariant-loop-target g l = AreMarkedTo l.graph l.firsts l.block l.rows.items l.target
