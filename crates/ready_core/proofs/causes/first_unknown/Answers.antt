use Rattle.std.proofs.Common.{refl, arith, below_more}
use Rattle.std.proofs.lemmas.Bool.{false≢true}
use Rattle.ready_core.proofs.Known.{first_unknown_at, all_known}
use Rattle.ready_core.proofs.causes.first_unknown.Goals as goal

pub returns-then-not-is_known : goal.returns-then-not-is_known
returns-then-not-is_known c =
    first_unknown_at c.args.state.now c.args.targets.now c.loop-target.target-index c.requires
    (omega arith) c.loop-target.invariant (λ known. false≢true (c.if-not-is_known.ensures.1 known))

pub loop-target-preserved : goal.loop-target-preserved
loop-target-preserved c = below_more _ _ c.loop-target.invariant (c.if-not-is_known.ensures.0 refl)

pub returns : goal.returns
returns c =
    all_known c.args.state.now c.args.targets.now c.loop-target.target-index (omega arith) c.loop-target.invariant
