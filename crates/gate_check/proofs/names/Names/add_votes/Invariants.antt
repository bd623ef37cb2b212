use Rattle.std.proofs.Common.{◌≡◌, map}
use Rattle.std.specs.FinMap.{entries}
use Rattle.change_core.specs.Parts.{slot_of, votes_shown}
use Rattle.gate_check.specs.Names.{known_labels, voters_of, with_each}
use Rattle.gate_check.specs.Shown.{names_shown}
use Rattle.gate_check.proofs.Gathered.{slots_of}
use Rattle.gate_check.proofs.names.Names.add_votes.Given as goal

-- what is there, with the names of the votes that are left, is the whole
abbrev pub invariant-loop-slot : goal.invariant-loop-slot
invariant-loop-slot l = record {
  labels : with_each (names_shown l.self).labels
      (known_labels (slots_of (map (λ pair. (slot_of pair.0, (pair.1.0, pair.1.1))) l.slot-iterator)))
      ≡ with_each (names_shown l.initial.self).labels (known_labels (slots_of (entries (votes_shown l.votes))));
  voters : with_each (names_shown l.self).voters
      (voters_of (slots_of (map (λ pair. (slot_of pair.0, (pair.1.0, pair.1.1))) l.slot-iterator)))
      ≡ with_each (names_shown l.initial.self).voters (voters_of (slots_of (entries (votes_shown l.votes))));
}
