use Rattle.std.proofs.Common.{map}
use Rattle.std.specs.FinMap.{entries}
use Rattle.change_core.specs.Parts.{patch_of, sets_shown}
use Rattle.gate_check.specs.Ignored.{MessageMisses}
use Rattle.gate_check.specs.Unused.{messages_of}
use Rattle.gate_check.proofs.Missed.{Leaves}
use Rattle.gate_check.proofs.ignored.add_sets.Given as goal

-- what is there, and what the messages that are left add
abbrev pub invariant-loop-set : goal.invariant-loop-set
invariant-loop-set l =
    Leaves (MessageMisses l.bases) l.initial.values (messages_of (entries (sets_shown l.sets))) l.values
    (messages_of (map (λ pair. (pair.0, (pair.1.0, patch_of pair.1.1))) l.set-iterator))
