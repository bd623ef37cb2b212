use Rattle.std.proofs.Common.{Some, arith, map, subst}
use Rattle.std.proofs.lemmas.Grind.{common_steps}
use Rattle.gerrit_events.specs.RevisionsKept.{seen_shown}
use Rattle.gerrit_events.proofs.Agreeing.{Sets, agree_added, agree_undone}
use Rattle.gerrit_events.proofs.known.add_seen.Goals as goal

pub returns-clause-agree : goal.returns-clause-agree
returns-clause-agree c =
    let sets = subst (λ key. Sets c.args.places.now c.insert.new.self key
    (Some c.args.place)) c.in_ok-from_str-2.ensures.ok c.in_ok-insert.ensures.updates in
    agree_added c.args.places.now c.insert.new.self c.args.revision.now c.args.place
    (map seen_shown c.args.ages.now.items) c.requires.agree c.requires.unknown sets
    (map seen_shown c.push_back.new.self.items) (grind (arith, common_steps))

pub returns-then-is_err-clause-agree : goal.returns-then-is_err-clause-agree
returns-then-is_err-clause-agree c =
    let sets = subst (λ key. Sets c.args.places.now c.insert.new.self key
    (Some c.args.place)) c.in_ok-from_str-2.ensures.ok c.in_ok-insert.ensures.updates in
    agree_undone c.args.places.now c.insert.new.self c.args.revision.now c.args.place
    (map seen_shown c.args.ages.now.items) c.requires.agree c.requires.unknown sets
    c.remove.new.self c.remove.ensures.updates (map seen_shown c.push_back.new.self.items) (grind (arith, common_steps))
