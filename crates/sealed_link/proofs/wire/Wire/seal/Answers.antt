use Rattle.std.proofs.Common.{◌<◌, arith}
use Rattle.sealed_link.proofs.Sealings.{seals_first, seals_more, sends_first, sends_more}
use Rattle.sealed_link.proofs.wire.Wire.seal.Goals as goal

pub loop-more-init : goal.loop-more-init
loop-more-init c =
    let some : 0 < c.in_ok-first.first = omega arith in
    let first = rw c.drop_sent.ensures at (c.in_ok-first.ensures.some some) in
    let old = c.args.self.now in
    let new = c.seal_batch.new.self in
    let text = c.args.text.now in
    let count = c.in_ok-first.first in
    record { seals = seals_first old new text count first; sends = sends_first old new text count first; some = some }

pub loop-more-preserved : goal.loop-more-preserved
loop-more-preserved c =
    let some : 0 < c.in-Ok.more = omega arith in
    let first = rw c.split_at.ensures.back at (c.in-Ok.ensures.some some) in
    let seen = c.loop-more.invariant in
    let old = c.args.self.now in
    let now = c.loop-more.self in
    let new = c.seal_batch-in-loop-more.new.self in
    let text = c.args.text.now in
    let done = c.loop-more.done in
    record {
      seals = seals_more old now new text done c.in-Ok.more seen.seals first;
      sends = sends_more old now new text done c.in-Ok.more seen.sends first;
      some = omega (arith, some);
    }
