-- How a check ends, by what was read and printed.
use Rattle.std.proofs.Common.{◌≡◌, inl, inr, ℕ, List, [], ◌∷◌, Option, None, Some, Ok, Err, Bor, refl, ap, ◌∙◌, subst, sym}
use Rattle.std.specs.Prelude.{IsSomeAnd, option_map}
use Rattle.byte_ends.specs.Lines.{lines_of}
use Rattle.command_line.specs.declared.asked.CheckCommand.{CheckCommand}
use Rattle.command_line.specs.declared.asked.Command.TheVariants.{Check}
use Rattle.gate_rules.specs.Rules.{GateRules}
use Rattle.gate_rules.specs.Spelling.{SpellsGate}
use Rattle.replica_core.specs.Journal.{all_arrived}
use Rattle.review_ops.specs.Operation.{Operation}
use Rattle.snapshot_text.specs.Snapshot.{SaysOperations}
use Rattle.state_core.specs.State.{State, state_of}
use Rattle.console.specs.Console.{ConsoleState}
use Rattle.console.specs.Inputs.{AreHad, IsFirstRefused, IsHad, IsRefused, gate_file, input, record_input}
use Rattle.console.specs.Printing.{Ended, Prints}
use Rattle.console.specs.declared.refusals.Refusal.{Refusal}
use Rattle.commands.specs.Answers.{IsCheckText, IsRecordHad, SaysRecord}
use Rattle.commands.specs.Ending.{Ends, Finishes, any_record, inputs_of}
use Rattle.commands.proofs.OfRecord.{record_sound}
use Rattle.commands.proofs.Simulated.{finishes_so}

pub gate_refused : (gate : Bor (List ℕ)) (snapshot : Option (Bor (List ℕ))) (old new : ConsoleState) (refusal : Refusal)
    → IsRefused (input gate_file gate.now) old new refusal
    → IsFirstRefused (input gate_file gate.now ∷ any_record snapshot) old new refusal
gate_refused gate snapshot old new refusal refused = inl refused

pub record_refused : (gate : Bor (List ℕ)) (rules : GateRules) (snapshot : Option (Bor (List ℕ)))
    (old mid new : ConsoleState) (refusal : Refusal)
    → IsHad (input gate_file gate.now) (λ text. SpellsGate text rules) old mid
    → IsSomeAnd snapshot (λ name. IsRefused (record_input name.now) mid new refusal)
    → IsFirstRefused (input gate_file gate.now ∷ any_record snapshot) old new refusal
record_refused gate rules None old mid new refusal had refused = absurd refused
record_refused gate rules (Some snapshot) old mid new refusal had refused =
    inr (mid, (had.0, had.1, (rules, had.2)), inl refused)

module _ (command : CheckCommand) (rules : GateRules) where
  -- the texts of the gate file and of the record
  texts_had : (snapshot : Option (Bor (List ℕ))) (old new : ConsoleState) (texts : List (List ℕ))
      → command.snapshot ≡ snapshot → AreHad (input gate_file command.gate.now ∷ any_record snapshot) old texts new
      → AreHad (inputs_of (Check command)) old texts new
  texts_had snapshot old new texts named had =
      subst (λ (s : Option (Bor (List ℕ))). AreHad (input gate_file command.gate.now ∷ any_record s) old texts new) (sym named) had

  pub checked : (snapshot : Option (Bor (List ℕ))) → command.snapshot ≡ snapshot → (state : Option State)
      (old mid now new : ConsoleState) (ended : Ended)
      → IsHad (input gate_file command.gate.now) (λ text. SpellsGate text rules) old mid
      → IsRecordHad (option_map (λ (name : Bor (List ℕ)). name.now) snapshot) state mid now
      → Finishes (IsCheckText command rules state) now new ended
      → Ends (Check command) old new ended
  checked None named None old mid now new ended had same finished =
      inr (
        had.0 ∷ [],
        now,
        texts_had None old now (had.0 ∷ []) named (mid, had.1, (rules, had.2), same),
        finishes_so (IsCheckText command rules None) _ (λ answer end is. (rules, had.2, None, refl, is)) now new ended finished,
      )
  checked None named (Some state) old mid now new ended had not finished = absurd not
  checked (Some snapshot) named None old mid now new ended had not finished = absurd not
  checked (Some snapshot) named (Some state) old mid now new ended had too finished =
      inr (
        had.0 ∷ too.0 ∷ [],
        now,
        texts_had (Some snapshot) old now (had.0 ∷ too.0 ∷ []) named
            (mid, had.1, (rules, had.2), (now, too.1, record_sound snapshot.now too.0 too.2.0 too.2.1, refl)),
        finishes_so (IsCheckText command rules (Some state)) _
            (λ answer end is. (rules, had.2, Some state, too.2, is)) now new ended finished,
      )

-- the record that came into an empty one
pub record_had : (name : List ℕ) (both : List Operation) (empty : List Operation) (old new : ConsoleState) → empty ≡ []
    → (ops : List Operation) × (both ≡ all_arrived empty ops)
    × IsHad (record_input name) (λ text. SaysOperations (lines_of text) ops) old new
    → IsHad (record_input name) (SaysRecord (state_of both)) old new
record_had name both empty old new none had = (
  had.2.0,
  had.2.1,
  (had.0, had.2.2, ap state_of (had.1 ∙ ap (λ journal. all_arrived journal had.0) none)),
)

-- once the text was printed the check ends as it does; or the text was cut short
pub ends_printed : (IsTheAnswer : List ℕ → Ended → Type 0) (answer : List ℕ) (old new : ConsoleState) (other : Ended)
    → IsTheAnswer answer other → Prints answer old new (Ok tt) → Finishes IsTheAnswer old new other
ends_printed IsTheAnswer answer old new other is (inl printed) = inl (answer, is, printed.1)
ends_printed IsTheAnswer answer old new other is (inr cut) = cc

pub ends_cut : (IsTheAnswer : List ℕ → Ended → Type 0) (answer : List ℕ) (old new : ConsoleState) (other : Ended)
    (refusal : Refusal) → IsTheAnswer answer other → Prints answer old new (Err refusal)
    → Finishes IsTheAnswer old new (Err refusal)
ends_cut IsTheAnswer answer old new other refusal is (inl printed) = cc
ends_cut IsTheAnswer answer old new other refusal is (inr cut) = inr (answer, other, is, cut.1, cut.0)
