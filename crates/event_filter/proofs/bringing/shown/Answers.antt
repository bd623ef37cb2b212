use Rattle.std.proofs.Common.{inr, subst}
use Rattle.std.proofs.lemmas.Bool.{false≢true}
use Rattle.std.specs.Prelude.{IsTrue}
use Rattle.event_filter.proofs.bringing.shown.Goals as goal

pub returns-then-not-is_news : goal.returns-then-not-is_news
returns-then-not-is_news c =
    inr (λ news. false≢true (subst IsTrue c.if-not-is_news.true (c.is_news.ensures.1 news)), c.new.ensures.items)
