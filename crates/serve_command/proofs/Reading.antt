-- Which of a site's inputs is refused.
use Rattle.std.proofs.Common.{ℕ, List, [], ◌∷◌, Option, Some, inl, inr, refl}
use Rattle.byte_ends.specs.Lines.{lines_of}
use Rattle.console.specs.Console.{ConsoleState}
use Rattle.console.specs.Inputs.{IsHad, IsRefused, gate_file, input, snapshot_file}
use Rattle.console.specs.declared.refusals.Refusal.{Refusal}
use Rattle.console.specs.declared.refusals.Refusal.TheVariants.{Memory}
use Rattle.gate_rules.specs.Rules.{GateRules}
use Rattle.gate_rules.specs.Spelling.{SpellsGate}
use Rattle.review_ops.specs.Operation.{Operation}
use Rattle.serve_command.specs.Beginning.{AreRefused, loads_of, site_inputs}
use Rattle.snapshot_text.specs.Snapshot.{SaysOperations}

pub gate_refused : (gate : List ℕ) (load : Option (List ℕ)) (old new : ConsoleState) (refusal : Refusal)
    → IsRefused (input gate_file gate) old new refusal → AreRefused (site_inputs gate load) old new refusal
gate_refused gate load old new refusal is = inl (inl is)

-- the snapshot to load is refused after the gate was read
pub load_refused : (gate : List ℕ) (rules : GateRules) (load : Option (List ℕ)) (old mid new : ConsoleState)
    (refusal : Refusal) → IsHad (input gate_file gate) (λ text. SpellsGate text rules) old mid
    → AreRefused (loads_of load) mid new refusal → AreRefused (site_inputs gate load) old new refusal
load_refused gate rules load old mid new refusal had (inl first) = inl (inr (mid, (had.0, had.1, (rules, had.2)), first))
load_refused gate rules load old mid new refusal had (inr memory) =
    inr (had.0 ∷ memory.0, (mid, had.1, (rules, had.2), memory.1), memory.2)

pub snapshot_refused : (name : List ℕ) (old new : ConsoleState) (refusal : Refusal)
    → IsRefused (input snapshot_file name) old new refusal → AreRefused (loads_of (Some name)) old new refusal
snapshot_refused name old new refusal is = inl (inl is)

-- memory is refused for the record of a snapshot that was read
pub memory_refused : (name : List ℕ) (ops : List Operation) (old new : ConsoleState)
    → IsHad (input snapshot_file name) (λ text. SaysOperations (lines_of text) ops) old new
    → AreRefused (loads_of (Some name)) old new Memory
memory_refused name ops old new had = inr (had.0 ∷ [], (new, had.1, (ops, had.2), refl), refl)
