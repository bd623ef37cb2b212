use Rattle.std.proofs.Common.{◌≡◌, [], flat_map, map}
use Rattle.state_core.specs.State.{state_shown}
use Rattle.gate_check.specs.Names.{known_labels, slots_in, slots_on, voters_of, with_each}
use Rattle.gate_check.specs.Shown.{names_shown}
use Rattle.gate_check.proofs.names.Names.of_changes.Given as goal

-- what is there, with the names of the changes that are left, is the whole
abbrev pub invariant-loop-number : goal.invariant-loop-number
invariant-loop-number l = record {
  labels : with_each (names_shown l.names).labels (known_labels (flat_map slots_on (map (λ pair. (pair.0, pair.1)) l.number-iterator)))
      ≡ with_each [] (known_labels (slots_in (state_shown l.changes)));
  voters : with_each (names_shown l.names).voters (voters_of (flat_map slots_on (map (λ pair. (pair.0, pair.1)) l.number-iterator)))
      ≡ with_each [] (voters_of (slots_in (state_shown l.changes)));
}
