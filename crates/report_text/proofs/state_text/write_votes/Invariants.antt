use Rattle.std.proofs.Common.{◌≡◌, ◌++◌, map, flat_map, string_bytes}
use Rattle.std.specs.FinMap.{entries}
use Rattle.change_core.specs.Parts.{slot_of, votes_shown}
use Rattle.report_text.specs.StateText.{vote_line}
use Rattle.report_text.proofs.state_text.write_votes.Given as goal

-- what is written, with the lines that are left, is the whole
abbrev pub invariant-loop-slot : goal.invariant-loop-slot
invariant-loop-slot g l =
    string_bytes l.text ++ flat_map (vote_line l.number)
    (map (λ pair. (slot_of pair.0, (pair.1.0, pair.1.1))) l.slot-iterator)
    ≡ string_bytes l.initial.text ++ flat_map (vote_line l.number) (entries (votes_shown l.votes))
