use Rattle.std.proofs.Common.{◌<◌, [], length, arith, rules}
use Rattle.footer_text.proofs.Bads.{ninth_is_bad, other_is_bad, one_more_base, all_are_bases}
use Rattle.footer_text.proofs.bases.first_bad.Goals as goal
use Rattle.footer_text.proofs.bases.first_bad.Goals.{then-place-ge-MOST_BASES-via-then-place-ge-MOST_BASES}
use Rattle.footer_text.proofs.bases.first_bad.Goals.{then-place-ge-MOST_BASES-via-else-place-ge-MOST_BASES+then-not-is_base}

pub returns-then-place-ge-MOST_BASES : goal.returns-then-place-ge-MOST_BASES
returns-then-place-ge-MOST_BASES c =
    let seen = c.loop-place.invariant in
    elim c.then-place-ge-MOST_BASES.branch [
      | then-place-ge-MOST_BASES-via-then-place-ge-MOST_BASES w ↦ ninth_is_bad _ _ seen.0
          (record { ref_ptr = (0, 0); now = [] }) c.loop-place-test.true
          (omega (arith, w.if-place-ge-MOST_BASES.true, seen.1))
      | then-place-ge-MOST_BASES-via-else-place-ge-MOST_BASES+then-not-is_base w ↦
          other_is_bad _ _ seen.0 _ c.loop-place-test.true seen.1
          (λ good. let yes = w.is_base.ensures.1 good in let other = w.if-not-is_base.true in cc)
    ]

pub loop-place-preserved : goal.loop-place-preserved
loop-place-preserved c =
    let seen = c.loop-place.invariant in
    (one_more_base _ _ seen.0 _ c.loop-place-test.true (c.is_base.ensures.0 c.if-not-is_base.false), omega arith)

pub returns : goal.returns
returns c =
    let seen = c.loop-place.invariant in
    let some : 0 < length c.args.texts.now = search rules in
    all_are_bases _ _ seen.0 some c.loop-place-test.false seen.1
