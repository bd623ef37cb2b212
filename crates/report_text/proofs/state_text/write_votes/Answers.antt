use Rattle.std.proofs.Common.{◌++◌, map, flat_map, ap, string_bytes}
use Rattle.std.specs.Map.Iter.{deref_pair}
use Rattle.std.specs.FinMap.{entries}
use Rattle.std.proofs.lemmas.Map.Iter.{rest_more, rest_all}
use Rattle.change_core.specs.Parts.{slot_of, votes_shown}
use Rattle.report_text.specs.StateText.{vote_line}
use Rattle.report_text.proofs.StateLines.{lines_more, lines_done}
use Rattle.report_text.proofs.state_text.write_votes.Goals as goal

pub loop-slot-init : goal.loop-slot-init
loop-slot-init g c = ap (λ l. string_bytes c.args.text.now ++ flat_map (vote_line c.args.number) l) c.into_iter-slot-iterator.ensures.into_iter_gives.1

pub loop-slot-preserved : goal.loop-slot-preserved
loop-slot-preserved g c =
    lines_more (vote_line c.args.number)
    (string_bytes c.args.text.now ++ flat_map (vote_line c.args.number) (entries (votes_shown c.args.votes.now)))
    (string_bytes c.loop-slot.text) (string_bytes c.write_vote.new.text)
    (slot_of c.in-Some.slot.now, (c.in-Some.register.now.0, c.in-Some.register.now.1)) _ _
    (ap (map (λ pair. (slot_of pair.0, (pair.1.0, pair.1.1)))) (rest_more deref_pair _ _ _ _ c.in-Some.is c.next.ensures.steps)) c.in_ok-write_vote.ensures c.loop-slot.invariant

pub returns : goal.returns
returns g c =
    lines_done (vote_line c.args.number)
    (string_bytes c.args.text.now ++ flat_map (vote_line c.args.number) (entries (votes_shown c.args.votes.now)))
    (string_bytes c.loop-slot.text) _
    (ap (map (λ pair. (slot_of pair.0, (pair.1.0, pair.1.1)))) (rest_all deref_pair _ _ _ c.in-None.is c.next.ensures.steps)) c.loop-slot.invariant
