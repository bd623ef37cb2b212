use Rattle.std.proofs.Common.{map, subst}
use Rattle.gerrit_events.specs.RevisionsKept.{PlacesAgree, seen_shown}
use Rattle.gerrit_events.proofs.Agreeing.{Sets, agree_removed}
use Rattle.gerrit_events.proofs.known.forget_oldest.Goals as goal

pub returns-in-Some-clause-agree : goal.returns-in-Some-clause-agree
returns-in-Some-clause-agree c =
    agree_removed c.args.places.now c.remove.new.self (seen_shown c.in-Some.oldest)
    (map seen_shown c.pop_front.new.self.items)
    (subst (λ xs. PlacesAgree c.args.places.now (map seen_shown xs)) c.in-Some.ensures.items c.requires)
    (subst (λ key. Sets c.args.places.now c.remove.new.self key _) c.as_str.ensures.value c.remove.ensures.updates)
