use Rattle.std.proofs.Common.{◌≡◌, ◌≤◌, ◌++◌, length}
use Rattle.std.specs.List.{All}
use Rattle.replica_core.specs.Lines.{IsLine}
use Rattle.replica_core.proofs.Lacking.{lacked}
use Rattle.replica_core.proofs.replica.Replica.missing.Given as goal

-- what is copied and what later lines lack is what the front lacks
abbrev pub invariant-loop-line : goal.invariant-loop-line
invariant-loop-line g l =
    let journal = l.self-inside.arrivals.items in
    record {
      whole : l.ops.items ++ lacked journal l.front l.line-iterator ≡ lacked journal l.front l.self-inside.lines;
      each : All (IsLine journal) l.line-iterator;
      room : length l.ops.items ≤ l.limit;
    }
