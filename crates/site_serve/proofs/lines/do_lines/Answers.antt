use Rattle.std.proofs.Common.{◌≤◌, ◌+◌, ◌∙◌, arith}
use Rattle.site_serve.proofs.Waiting.{both_own, one_more}
use Rattle.site_serve.proofs.lines.do_lines.Goals as goal

pub loop-preserved : goal.loop-preserved
loop-preserved g c =
    let before = c.loop.invariant in
    let done = c.do_next.ensures in (
      both_own _ _ _ _ before.0 done.own,
      λ some. (done.order (before.1 some).1 ∙ (before.1 some).0, done.waits (before.1 some).1),
      one_more _ _ c.loop.counter _ _ _ _ _ _ before.2 done.one,
    )

pub returns-then-not-do_next-clause-own : goal.returns-then-not-do_next-clause-own
returns-then-not-do_next-clause-own g c = both_own _ _ _ _ c.loop.invariant.0 c.do_next.ensures.own

pub returns-then-not-do_next-clause-lines : goal.returns-then-not-do_next-clause-lines
returns-then-not-do_next-clause-lines g c =
    let within : c.loop.counter + 1 ≤ 64 = omega arith in
    (c.loop.counter + 1, within, one_more _ _ c.loop.counter _ _ _ _ _ _ c.loop.invariant.2 c.do_next.ensures.one)
