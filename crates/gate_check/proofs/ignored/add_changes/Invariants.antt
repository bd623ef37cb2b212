use Rattle.std.proofs.Common.{flat_map, map}
use Rattle.state_core.specs.State.{state_shown}
use Rattle.gate_check.specs.Ignored.{MessageMisses}
use Rattle.gate_check.specs.Unused.{messages_in, messages_on}
use Rattle.gate_check.proofs.Missed.{Leaves}
use Rattle.gate_check.proofs.ignored.add_changes.Given as goal

-- what is there, and what the messages that are left add
abbrev pub invariant-loop-number : goal.invariant-loop-number
invariant-loop-number l =
    Leaves (MessageMisses l.bases) l.initial.values (messages_in (state_shown l.changes)) l.values
    (flat_map messages_on (map (λ pair. (pair.0, pair.1)) l.number-iterator))
