use Rattle.std.proofs.Common.{◌≡◌, ℕ, ◌+◌, suc, true, subst, refl, inl, inr, arith}
use Rattle.site_shared.specs.Pauses.{Waits}
use Rattle.site_shared.proofs.pause.hold.Goals as goal

pub loop-turn-preserved : goal.loop-turn-preserved
loop-turn-preserved g c =
    let turns = g.P.Pause.turns in
    let next : suc c.loop-turn._turn ≡ c.loop-turn._turn + 1 = omega arith in
    let again : turns c.loop-turn.pause true c.held.new.self = subst (λ b. turns c.loop-turn.pause b c.held.new.self) c.if-not-held.false c.held.ensures in
    subst (λ (n : ℕ). Waits turns n c.args.pause.now c.held.new.self) next
    (c.loop-turn.pause, c.loop-turn.invariant, again)

pub returns-then-not-held : goal.returns-then-not-held
returns-then-not-held g c =
    (c.loop-turn._turn, c.loop-turn.pause, c.loop-turn.invariant, inr (c.loop-turn-test.true, c.if-not-held.ensures))

pub returns : goal.returns
returns g c = (c.loop-turn._turn, c.loop-turn.pause, c.loop-turn.invariant, inl (omega (arith, c.loop-turn-test.false, c.loop-turn.auto._turn-end), refl))
