use Rattle.std.proofs.Common.{◌≡◌, ◌≤◌, ◌<◌, ◌∙◌, ◌++◌, [], refl, inl, inr, sym, subst, arith, length, length-append}
use Rattle.std.proofs.KnownBytes.{Consumes-nil, Consumes-trans}
use Rattle.std.proofs.lemmas.Result.{IfOk-weaker, IfErr-weaker, err_from_is_err_and}
use Rattle.byte_ends.specs.Lines.{lines_of}
use Rattle.replica_core.specs.Journal.{all_arrived}
use Rattle.snapshot_text.specs.Snapshot.{SaysOperations, most_bytes}
use Rattle.snapshot_text.proofs.Endings.{all_came, refused_by, at_end_anyway, only_reading, outside_only, reading_counts, known_text, too_much}
use Rattle.snapshot_text.proofs.read.gather_by.Goals as goal

pub loop-seen-init : goal.loop-seen-init
loop-seen-init g c = record {
  came = [];
  read = Consumes-nil (g.S.Source.left c.args.source.now);
  seen = refl;
  has = c.onto-blocks.ensures.read;
  few = omega (arith, c.onto-blocks.ensures.count);
  most = omega arith;
  some = c.in-Ok.ensures.0;
  large = c.in-Ok.ensures.1;
  counted = refl;
}

pub loop-seen-preserved : goal.loop-seen-preserved
loop-seen-preserved g c =
    let before = c.loop-seen.invariant in
    let part = c.in_ok-count.ensures.read in
    record {
      came = before.came ++ part.0;
      read = Consumes-trans _ _ _ before.came part.0 before.read part.2;
      seen = omega (arith, before.seen, part.1, length-append before.came part.0);
      has = part.3 c.args.gathering before.came before.has;
      few = omega (arith, before.few, c.in_ok-count.ensures.few);
      most = omega (arith, c.loop-seen-test.true, c.in_ok-count.ensures.most, c.as_mut_slice.ensures.len, before.large);
      some = c.in_ok-block-in_default-2.ensures.room.0;
      large = c.in_ok-block-in_default-2.ensures.room.1;
      counted = c.in_ok-count.ensures.counted ∙ before.counted;
    }

pub returns-in-0-clause-ok : goal.returns-in-0-clause-ok
returns-in-0-clause-ok g c =
    let before = c.loop-seen.invariant in
    let part = c.in_ok-count.ensures.read in
    let came = before.came ++ part.0 in
    let read = Consumes-trans _ _ _ before.came part.0 before.read part.2 in
    let some : 0 < length c.as_mut_slice.result.now = omega (arith, c.as_mut_slice.ensures.len, before.some) in
    let at_end = c.in_ok-count.ensures.end c.in-0.is some in
    let has = part.3 c.args.gathering before.came before.has in
    let few : length came ≤ most_bytes = omega (arith, before.seen, c.loop-seen-test.true, part.1, c.in-0.is, length-append before.came part.0) in
    let whole = all_came (g.S.Source.left c.args.source.now) (g.S.Source.left c.read_block.new.source) came read at_end few in
    IfOk-weaker c.end.result _ _ (λ both ends. let says = ends c.args.gathering came has in (came, whole, says.0, says.1, says.2)) c.end.ensures.ok

pub returns-in-0-clause-err : goal.returns-in-0-clause-err
returns-in-0-clause-err g c =
    let before = c.loop-seen.invariant in
    let part = c.in_ok-count.ensures.read in
    let came = before.came ++ part.0 in
    let read = Consumes-trans _ _ _ before.came part.0 before.read part.2 in
    let some : 0 < length c.as_mut_slice.result.now = omega (arith, c.as_mut_slice.ensures.len, before.some) in
    let at_end = c.in_ok-count.ensures.end c.in-0.is some in
    let has = part.3 c.args.gathering before.came before.has in
    let few : length came ≤ most_bytes = omega (arith, before.seen, c.loop-seen-test.true, part.1, c.in-0.is, length-append before.came part.0) in
    let whole = all_came (g.S.Source.left c.args.source.now) (g.S.Source.left c.read_block.new.source) came read at_end few in
    IfErr-weaker c.end.result _ _ (λ fault fails. refused_by (g.S.Source.left c.args.source.now) came fault whole (fails c.args.gathering came has).first) c.end.ensures.err

pub returns-in-0-clause-only : goal.returns-in-0-clause-only
returns-in-0-clause-only g c = λ text ops known says.
    let before = c.loop-seen.invariant in
    let part = c.in_ok-count.ensures.read in
    let came = before.came ++ part.0 in
    let read = Consumes-trans _ _ _ before.came part.0 before.read part.2 in
    let some : 0 < length c.as_mut_slice.result.now = omega (arith, c.as_mut_slice.ensures.len, before.some) in
    let at_end = c.in_ok-count.ensures.end c.in-0.is some in
    let has = part.3 c.args.gathering before.came before.has in
    let few : length came ≤ most_bytes = omega (arith, before.seen, c.loop-seen-test.true, part.1, c.in-0.is, length-append before.came part.0) in
    let whole = all_came (g.S.Source.left c.args.source.now) (g.S.Source.left c.read_block.new.source) came read at_end few in
    let same = known_text (g.S.Source.left c.args.source.now) came text known whole.same in
    outside_only c.end.result (λ both. both ≡ all_arrived c.args.gathering ops) (only_reading c.end.result c.args.gathering (lines_of came)
    (IfOk-weaker c.end.result _ _ (λ both ends. ends c.args.gathering came has) c.end.ensures.ok)
    (IfErr-weaker c.end.result _ _ (λ fault fails. fails c.args.gathering came has) c.end.ensures.err)
    ops (subst (λ t. SaysOperations (lines_of t) ops) (sym same) says))

pub returns-in-0-clause-end : goal.returns-in-0-clause-end
returns-in-0-clause-end g c =
    let some : 0 < length c.as_mut_slice.result.now = omega (arith, c.as_mut_slice.ensures.len, c.loop-seen.invariant.some) in
    at_end_anyway c.end.result (c.in_ok-count.ensures.end c.in-0.is some)

pub returns-in-0-clause-counted : goal.returns-in-0-clause-counted
returns-in-0-clause-counted g c =
    let before = c.loop-seen.invariant in
    let part = c.in_ok-count.ensures.read in
    let came = before.came ++ part.0 in
    let has = part.3 c.args.gathering before.came before.has in
    reading_counts c.end.result (lines_of came) (g.S.Source.failed c.args.source.now) (g.S.Source.failed c.read_block.new.source)
    (c.in_ok-count.ensures.counted ∙ before.counted) (IfErr-weaker c.end.result _ _ (λ fault fails. fails c.args.gathering came has) c.end.ensures.err)

pub returns-in_err-count-clause-err : goal.returns-in_err-count-clause-err
returns-in_err-count-clause-err g c =
    let p = err_from_is_err_and c.from_residual.result c.from_residual.ensures.1 in
    rw (p.1, p.2, c.in_err-count.ensures.fault) tt

pub returns-in_err-count-clause-end : goal.returns-in_err-count-clause-end
returns-in_err-count-clause-end g c =
    let p = err_from_is_err_and c.from_residual.result c.from_residual.ensures.1 in
    rw (p.1, p.2, c.in_err-count.ensures.fault) (inl (inr (inl refl)))

pub returns-clause-err : goal.returns-clause-err
returns-clause-err g c =
    let before = c.loop-seen.invariant in
    let more : most_bytes < length before.came = omega (arith, before.seen, c.loop-seen-test.false) in
    too_much (g.S.Source.left c.args.source.now) (g.S.Source.left c.loop-seen.source) before.came most_bytes before.read more

pub returns-clause-only : goal.returns-clause-only
returns-clause-only g c = λ text ops known says. inl refl

pub returns-clause-end : goal.returns-clause-end
returns-clause-end g c = inl (inl refl)
