use Rattle.std.proofs.Common.{◌++◌, ◌∷◌, []}
use Rattle.std.proofs.KnownBytes.{Consumes-trans}
use Rattle.sealed_link.proofs.dialing.answer_line.Goals as goal

pub returns-then-is_err-clause-reads : goal.returns-then-is_err-clause-reads
returns-then-is_err-clause-reads g c =
    let line = c.loop-source.line.items in
    let came = rw c.in-Some.is at c.in_ok-next_byte.ensures.ok in
    let seen = c.loop-source.invariant in (
      line ++ c.in-Some.byte ∷ [],
      Consumes-trans (g.S.Source.left c.args.source.now) (g.S.Source.left c.loop-source.source) (g.S.Source.left c.next_byte.new.source) line
          (c.in-Some.byte ∷ []) seen.0 came,
      tt,
    )
