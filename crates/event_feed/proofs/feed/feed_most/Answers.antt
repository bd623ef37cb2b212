use Rattle.std.proofs.Common.{◌+◌, ◌++◌, ◌∷◌, [], length, refl, sym, inl, inr, arith, length-append}
use Rattle.std.proofs.lemmas.Result.{err_from_is_err_and}
use Rattle.event_feed.specs.declared.progress.Progress.TheVariants.{Unbegun}
use Rattle.event_feed.proofs.Feeding.{step_end, step_off, step_on, turns_held, turns_push}
use Rattle.event_feed.proofs.feed.feed_most.Goals as goal

pub returns-in_default : goal.returns-in_default
returns-in_default g c = (
  [],
  [],
  Unbegun,
  record { turns = []; few = omega arith; mid = _; lines = refl; ended = inr (inr (refl, refl, refl)) },
)

pub loop-number-preserved : goal.loop-number-preserved
loop-number-preserved g c =
    let so_far = c.loop-number.invariant in
    let step = step_on g.T.Taker.rests g.T.Taker.takes c.args.input c.args.projects.now c.loop-number.reader.limit c.args.limit
    (c.loop-number.number + 1) _ _ c.in_ok-next_line.field-0 so_far.3
    c.if-not-branch.false c.in_ok-next_line.ensures.step in (
      so_far.0 ++ step.2.0 ∷ [],
      omega (arith, so_far.1, length-append so_far.0 (step.2.0 ∷ [])),
      turns_held g.T.Taker.rests g.T.Taker.takes c.args.projects.now c.args.limit 1 _ _ _ _ _ _ _ _ _ (sym c.renewed-reader.ensures.held)
          (turns_push g.T.Taker.rests g.T.Taker.takes c.args.projects.now c.args.limit 1 (c.loop-number.number + 1) so_far.0 _ _ _ step.0
          step.2.0 (omega (arith, so_far.1)) so_far.2 step.1 step.2.1 step.2.2),
      c.renewed-reader.ensures.limit,
    )

pub returns-in_err-next_line : goal.returns-in_err-next_line
returns-in_err-next_line g c =
    let p = err_from_is_err_and c.from_residual.result c.from_residual.ensures.1 in
    let so_far = c.loop-number.invariant in
    let stops = step_off g.T.Taker.rests g.T.Taker.takes c.args.input c.args.projects.now c.loop-number.reader.limit c.args.limit
    (c.loop-number.number + 1) (length so_far.0 + 1) _ _
    c.in_err-next_line.field-0.0 so_far.3 (omega (arith, so_far.1)) c.in_err-next_line.ensures.step in
    rw (p.1, p.2) (
      c.next_line.new.reader.held,
      c.next_line.new.learned.known,
      c.next_line.new.learned.progress,
      record { turns = so_far.0; few = omega (arith, so_far.1); mid = _; lines = so_far.2; ended = inl stops },
    )

pub returns-then-not-branch : goal.returns-then-not-branch
returns-then-not-branch g c =
    let so_far = c.loop-number.invariant in
    let stops = step_end g.T.Taker.rests g.T.Taker.takes c.args.input c.args.projects.now c.loop-number.reader.limit c.args.limit
    (c.loop-number.number + 1) (length so_far.0 + 1) _ _
    c.in_ok-next_line.field-0 c.if-not-branch.true (omega (arith, so_far.1)) c.in_ok-next_line.ensures.step in (
      c.next_line.new.reader.held,
      c.next_line.new.learned.known,
      c.next_line.new.learned.progress,
      record { turns = so_far.0; few = omega (arith, so_far.1); mid = _; lines = so_far.2; ended = inl stops },
    )

pub returns : goal.returns
returns g c =
    let so_far = c.loop-number.invariant in (
      c.loop-number.reader.held,
      c.loop-number.learned.known,
      c.loop-number.learned.progress,
      record {
        turns = so_far.0;
        few = omega (arith, so_far.1);
        mid = _;
        lines = so_far.2;
        ended = inr (inl (refl, omega (arith, so_far.1), refl));
      },
    )
