use Rattle.std.proofs.Common.{◌≡◌, ◌≤◌, ◌<◌, ◌++◌, length}
use Rattle.std.specs.List.{All}
use Rattle.replica_core.specs.Lines.{ops_at, ops_of}
use Rattle.replica_core.specs.Searches.{ops_past}
use Rattle.replica_core.proofs.missing.copy_past.Given as goal

-- what is copied and what is still to come are the operations past the number
abbrev pub invariant-loop-place : goal.invariant-loop-place
invariant-loop-place g l = record {
  whole : l.copies.items ++ ops_at l.arrivals.items l.place-iterator
      ≡ l.initial.copies.items ++ ops_past l.reach (ops_of l.arrivals.items l.line);
  inside : All (λ place. place < length l.arrivals.items) l.place-iterator;
  room : length l.copies.items ≤ l.limit;
}
