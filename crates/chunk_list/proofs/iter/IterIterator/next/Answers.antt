use Rattle.std.proofs.Common.{◌<◌, length, subst}
use Rattle.std.specs.List.{All}
use Rattle.std.proofs.lemmas.List.Elements.{All-tail}
use Rattle.chunk_list.proofs.iter.IterIterator.next.Goals as goal

pub invariant_of-self-2 : goal.invariant_of-self-2
invariant_of-self-2 g c =
    All-tail (λ chunk. 0 < length chunk.items) c.in_ok-chunk.chunk.now c.in_ok-chunk.chunks.now
    (subst (All (λ chunk. 0 < length chunk.items)) c.in_ok-chunk.ensures.cases.0 c.self.invariant)
