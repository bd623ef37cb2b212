use Rattle.std.proofs.Common.{◌≡◌, ◌++◌, ◌∷◌, [], ap, arith, fold, inl, inr, length, length-append, refl, sym, ◌∙◌}
use Rattle.std.proofs.lemmas.Result.{err_from_is_err_and}
use Rattle.state_core.specs.State.{with_effect}
use Rattle.feed_client.specs.Pulling.{all_ops}
use Rattle.feed_client.proofs.Pulling.{all_ops_push, comes_push, learned_push, more_comes, no_more}
use Rattle.feed_client.proofs.pull.pull_all.Goals as goal

pub loop-round-init : goal.loop-round-init
loop-round-init g c = ([], refl, record { comes = refl; learned = refl }, λ few. refl)

pub loop-round-preserved : goal.loop-round-preserved
loop-round-preserved g c =
    let so_far = c.loop-round.invariant in
    let one = c.in_ok-pulled.ensures in
    let all = all_ops_push so_far.0 one.ops in
    let long : length (all_ops (so_far.0 ++ one.ops ∷ [])) ≡ length (all_ops so_far.0 ++ one.ops) = ap length all in (
      so_far.0 ++ one.ops ∷ [],
      omega (arith, so_far.1, length-append so_far.0 (one.ops ∷ [])),
      record {
        comes = comes_push g.T.Intake.answers so_far.0 one.ops _ _ _ so_far.2.comes
            (more_comes g.T.Intake.answers one.ops _ _ c.in_ok-pulled.pulled.more c.if-not-pulled.false one.came);
        learned = learned_push c.args.state.now _ _ (all_ops so_far.0) one.ops so_far.2.learned one.learned
            ∙ ap (fold with_effect c.args.state.now) (sym all);
      },
      λ few. omega (arith, few, long, length-append (all_ops so_far.0) one.ops, so_far.3, one.counted, c.saturating_add-count.ensures),
    )

pub returns-then-not-pulled : goal.returns-then-not-pulled
returns-then-not-pulled g c =
    let so_far = c.loop-round.invariant in
    let one = c.in_ok-pulled.ensures in record {
      rounds = so_far.0;
      mid = _;
      between = _;
      taken = so_far.2;
      last = c.in_ok-pulled.pulled.count;
      ended = no_more g.T.Intake.answers c.in_ok-pulled.pulled.count c.in_ok-pulled.pulled.more _ _ _ _ c.if-not-pulled.true one;
      counted = λ few. omega (arith, few, so_far.3, one.counted, c.saturating_add-count.ensures);
    }

pub returns-in_err-pulled : goal.returns-in_err-pulled
returns-in_err-pulled g c =
    let p = err_from_is_err_and c.from_residual.result c.from_residual.ensures.1 in
    let so_far = c.loop-round.invariant in
    rw (p.1, p.2) (record {
      rounds = so_far.0;
      mid = _;
      between = _;
      taken = so_far.2;
      failed = inl c.in_err-pulled.ensures;
    })

pub returns : goal.returns
returns g c =
    let so_far = c.loop-round.invariant in record {
      rounds = so_far.0;
      mid = _;
      between = _;
      taken = so_far.2;
      failed = inr (refl, omega (arith, so_far.1), refl, refl);
    }
