use Rattle.std.proofs.Common.{take}
use Rattle.serve_command.specs.Beginning.{IsAdded, lacking_of}
use Rattle.serve_command.proofs.journal.add_lacking.Given as goal

-- what the record lacks of the operations so far is added, or gathered
abbrev pub invariant-loop-place : goal.invariant-loop-place
invariant-loop-place g l =
    IsAdded l.fn.journal (lacking_of l.replica (take l.place l.loaded)) l.journal l.lacking.items
