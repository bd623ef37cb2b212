use Rattle.site_serve.specs.Rights.{OnlySends}
use Rattle.site_serve.proofs.session.Session.write.Given as goal

-- nothing was added to what waits
abbrev pub invariant-loop : goal.invariant-loop
invariant-loop g l = OnlySends l.initial.self l.self
