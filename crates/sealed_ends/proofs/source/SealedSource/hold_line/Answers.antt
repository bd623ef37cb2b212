use Rattle.std.proofs.Common.{◌∙◌, refl}
use Rattle.std.proofs.KnownBytes.{Keeps-trans}
use Rattle.sealed_ends.specs.Opened.{left_of}
use Rattle.sealed_ends.proofs.Opening.{plain_more}
use Rattle.sealed_ends.proofs.source.SealedSource.hold_line.Goals as goal

pub loop-self-preserved : goal.loop-self-preserved
loop-self-preserved g c =
    let seen = c.loop-self.invariant in
    let first = c.args.self.now in
    let old = c.loop-self.self in
    let new = c.read_block.new.self in
    let left = g.S.Source.left in
    let came = c.in-Ok.ensures.held in (
      Keeps-trans (left_of first.ready.items first.seal first.held.items (left first.source)) (left_of old.ready.items old.seal old.held.items (left old.source))
          (left_of new.ready.items new.seal new.held.items (left new.source)) seen.0 c.read_block.ensures.kept,
      c.read_block.ensures.counted ∙ seen.1,
      c.read_block.ensures.same ∙ seen.2,
      plain_more old.held.items came.0 new.held.items c.in-Ok.count came.1 came.2 seen.3 (c.if-has_lf.ensures.plain refl),
      c.in-Ok.ensures.read ∙ seen.4,
    )
