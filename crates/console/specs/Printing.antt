-- What a command prints, and how it ends.
use Rattle.std.specs.Prelude.{◌≡◌, ◌⊎◌, ℕ, List, Result, IsErrOf, IsOk}
use Rattle.replica_core.specs.InOrder.{IsInOrderOf}
use Rattle.review_ops.specs.Operation.{Operation}
use Rattle.snapshot_text.specs.Snapshot.{snapshot_text}
use Rattle.console.specs.Console.{ConsoleState, IsCutShort, IsPrinted}
use Rattle.console.specs.declared.refusals.Refusal.{Refusal}
use Rattle.console.specs.declared.refusals.Refusal.TheVariants.{Memory, Output}

-- how a command ends
abbrev pub Ended : Type 0
Ended = Result (Unit {0}) Refusal

-- all of the text was printed; or the output failed, and a proper prefix of it was printed
abbrev pub Prints : List ℕ → ConsoleState → ConsoleState → Ended → Type 0
Prints text old new ended = (IsOk ended × IsPrinted text old new) ⊎ (IsErrOf ended Output × IsCutShort text old new)

-- the same of the snapshot of a journal; or memory was refused, and nothing was printed
abbrev pub PrintsSnapshot : List Operation → ConsoleState → ConsoleState → Ended → Type 0
PrintsSnapshot journal old new ended =
    ((ops : List Operation) × IsInOrderOf journal ops × Prints (snapshot_text ops) old new ended)
    ⊎ (IsErrOf ended Memory × (new ≡ old))
