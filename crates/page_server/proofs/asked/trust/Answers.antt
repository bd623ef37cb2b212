use Rattle.std.proofs.Common.{sym, ◌∙◌}
use Rattle.page_server.proofs.asked.trust.Goals as goal

pub returns-then-are_own-clause-own : goal.returns-then-are_own-clause-own
returns-then-are_own-clause-own c =
    (c.in-Some.host.now, rw (← c.headers.ensures) (sym c.in-Some.ensures), rw (← c.uri.ensures) (sym c.are_own.ensures ∙ c.if-are_own.true))

pub returns-else-are_own-clause-others : goal.returns-else-are_own-clause-others
returns-else-are_own-clause-others c =
    (c.in-Some.host.now, rw (← c.headers.ensures) (sym c.in-Some.ensures), rw (← c.uri.ensures) (sym c.are_own.ensures ∙ c.if-are_own.false))
