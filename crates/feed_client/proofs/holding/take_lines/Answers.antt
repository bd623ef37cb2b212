use Rattle.std.proofs.Common.{Err, sym, subst, inl, inr, refl}
use Rattle.std.proofs.lemmas.Result.{err_from_is_err_and}
use Rattle.feed_client.specs.InTurn.{InTurn}
use Rattle.feed_client.proofs.holding.take_lines.Goals as goal

pub loop-line-preserved : goal.loop-line-preserved
loop-line-preserved g c =
    λ last ended rest. c.loop-line.invariant last ended
    (subst (λ l. InTurn (λ line old new result. g.F.Taker.takes old line.number line.parsed result new) l c.loop-line.feed last ended) (sym c.in-Some.ensures.steps.0)
    (inl (c.take.new.self, c.in_ok-take.ensures, rest)))

pub returns-in_err-take : goal.returns-in_err-take
returns-in_err-take g c =
    let p = err_from_is_err_and c.from_residual.result c.from_residual.ensures.1 in
    let fault = c.in_err-take.field-0.0 in
    rw (p.1, p.2) (c.loop-line.invariant c.take.new.self (Err fault)
    (subst (λ l. InTurn (λ line old new result. g.F.Taker.takes old line.number line.parsed result new) l c.loop-line.feed c.take.new.self (Err fault)) (sym c.in-Some.ensures.steps.0)
    (inr (fault, refl, c.in_err-take.ensures))))
