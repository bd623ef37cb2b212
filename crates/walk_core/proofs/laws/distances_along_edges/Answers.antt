use Rattle.walk_core.specs.Edges.{AreDistances-once, AreDistances-zero, AreDistances-next, AreDistances-edge}
use Rattle.walk_core.specs.Edges.{AreDistances-before}
use Rattle.walk_core.proofs.laws.distances_along_edges.Goals as goal

pub returns-clause-once : goal.returns-clause-once
returns-clause-once c = AreDistances-once

pub returns-clause-zero : goal.returns-clause-zero
returns-clause-zero c = AreDistances-zero

pub returns-clause-next : goal.returns-clause-next
returns-clause-next c = AreDistances-next

pub returns-clause-no_nearer : goal.returns-clause-no_nearer
returns-clause-no_nearer c = AreDistances-edge

pub returns-clause-before : goal.returns-clause-before
returns-clause-before c = AreDistances-before
