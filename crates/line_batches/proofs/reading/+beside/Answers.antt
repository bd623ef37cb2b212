use Rattle.std.proofs.Common.{subst, sym}
use Rattle.std.specs.Prelude.{IfSome}
use Rattle.line_batches.specs.Batches.{IsBatch}
use Rattle.line_batches.proofs.reading.+beside.Goals as goal

pub returns-clause-read : goal.returns-clause-read
returns-clause-read g t c =
    subst (λ l. IfSome c.with_front.result.read (λ read. IsBatch l read.items)) (sym c.split_at.ensures.by_index.0)
    (c.with_front.ensures.read c.split_at.result.0.now c.split_at.result.1.now c.join-first.ensures.first c.join-first.ensures.second.1)
