-- How a command ends that reads a gate file and then a record.
use Rattle.std.proofs.Common.{◌≡◌, ◌⊎◌, inl, inr, ℕ, true, false, List, [], ◌∷◌, Err, Option, refl, subst, sym}
use Rattle.std.specs.Prelude.{if◌then◌else◌}
use Rattle.byte_ends.specs.Lines.{lines_of}
use Rattle.gate_rules.specs.Rules.{GateRules}
use Rattle.gate_rules.specs.Spelling.{SpellsGate}
use Rattle.replica_core.specs.Journal.{all_arrived}
use Rattle.review_ops.specs.Operation.{Operation}
use Rattle.state_core.specs.State.{State, state_of}
use Rattle.snapshot_text.specs.Snapshot.{SaysOperations}
use Rattle.console.specs.Console.{ConsoleState}
use Rattle.console.specs.Inputs.{AreHad, Input, IsFirstRefused, IsHad, IsRefused, IsSound, gate_file, input, pulled}
use Rattle.console.specs.Inputs.{record_input, snapshot_file}
use Rattle.console.specs.Pulls.{is_site_name}
use Rattle.console.specs.declared.refusals.Refusal.{Refusal}
use Rattle.console.specs.declared.refusals.Refusal.TheVariants.{Memory, NoItem}
use Rattle.commands.specs.Answers.{IsPrintedWhole, Misses}
use Rattle.commands.proofs.HowItEnds.{both_had, second_refused}

abbrev pub both_inputs : List ℕ → List ℕ → List Input
both_inputs gate snapshot = input gate_file gate ∷ record_input snapshot ∷ []

-- a text that says operations is a record's, of a running site or of a snapshot
pub record_sound : (name text : List ℕ) (ops : List Operation) → SaysOperations (lines_of text) ops
    → IsSound (record_input name).kind text
record_sound name text ops says =
    elim (is_site_name name) as (λ is. IsSound (if is then pulled else snapshot_file) text)
    [ true ↦ (ops, says) | false ↦ (ops, says) ]

module _ (gate snapshot : List ℕ) (rules : GateRules) (IsThis : List ℕ → Type 0)
    (spells : (text : List ℕ) → IsThis text → SpellsGate text rules) where
  pub snapshot_refused : (old mid new : ConsoleState) (refusal : Refusal) → IsHad (input gate_file gate) IsThis old mid
      → IsRefused (record_input snapshot) mid new refusal
      → IsFirstRefused (both_inputs gate snapshot) old new refusal
  snapshot_refused =
      second_refused (input gate_file gate) (record_input snapshot) IsThis (λ text is. (rules, spells text is))

  pub record_had : (ops : List Operation) (old mid new : ConsoleState)
      → (first : IsHad (input gate_file gate) IsThis old mid)
      → (second : IsHad (record_input snapshot) (λ text. SaysOperations (lines_of text) ops) mid new)
      → AreHad (both_inputs gate snapshot) old (first.0 ∷ second.0 ∷ []) new
  record_had ops =
      both_had (input gate_file gate) (record_input snapshot) IsThis (λ text is. (rules, spells text is))
      (λ text. SaysOperations (lines_of text) ops) (λ text says. record_sound snapshot text ops says)

-- what is refused once both were read
pub not_there : (IsSo : List ℕ → Type 0) (IsAskedFor : ℕ → Option ℕ → Type 0) (snapshot : List ℕ)
    (HasIt : State → Type 0) (refusal : Refusal) (ops : List Operation) (state : State)
    → SaysOperations (lines_of snapshot) ops → state ≡ state_of (all_arrived [] ops)
    → ((number : ℕ) × (other : Option ℕ) × IsAskedFor number other × (refusal ≡ NoItem number other) × ¬ HasIt state)
    ⊎ (refusal ≡ Memory)
    → IsPrintedWhole IsSo (Misses IsAskedFor snapshot HasIt) [] (Err refusal)
not_there IsSo IsAskedFor snapshot HasIt refusal ops state says is (inl none) =
    subst (λ r. IsPrintedWhole IsSo (Misses IsAskedFor snapshot HasIt) [] (Err r)) (sym none.3)
    ((none.2, record { ops = ops; says = says; none = subst (λ s. ¬ HasIt s) is none.4 }), refl)
not_there IsSo IsAskedFor snapshot HasIt refusal ops state says is (inr memory) =
    subst (λ r. IsPrintedWhole IsSo (Misses IsAskedFor snapshot HasIt) [] (Err r)) (sym memory) (refl, refl)
