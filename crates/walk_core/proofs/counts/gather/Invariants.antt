use Rattle.std.proofs.Common.{take}
use Rattle.walk_core.proofs.Gathering.{HasGathered}
use Rattle.walk_core.proofs.counts.gather.Given as goal

abbrev pub invariant-loop-end : goal.invariant-loop-end
invariant-loop-end g l = HasGathered l.rows.items l.firsts l.before.words l.marks.words (take l.end-index l.end-items)
