-- What is printed of a script file is what its steps print under the gate that was read.
use Rattle.std.proofs.Common.{◌≡◌, inl, inr, List, ℕ, [], ◌∷◌, Option, None, Some, Bor, Err, refl, subst, sym}
use Rattle.std.specs.Prelude.{IsSomeAnd, option_map}
use Rattle.command_line.specs.declared.asked.Command.TheVariants.{Simulate}
use Rattle.command_line.specs.declared.asked.SimulateCommand.{SimulateCommand}
use Rattle.gate_rules.specs.Rules.{GateRules}
use Rattle.script_text.specs.Script.{IsUnreadScript}
use Rattle.script_text.specs.declared.fault.ScriptFault.{ScriptFault}
use Rattle.console.specs.Printing.{Ended}
use Rattle.commands.specs.Answers.{IsPlayedText}
use Rattle.console.specs.Console.{ConsoleState}
use Rattle.commands.specs.Ending.{Ends, Finishes, any_gate, inputs_of}
use Rattle.console.specs.Inputs.{AreHad, IsFirstRefused, IsGateHad, IsHad, IsRefused, gate_file, input, script_file}
use Rattle.console.specs.declared.refusals.Refusal.{Refusal}
use Rattle.console.specs.declared.refusals.Refusal.TheVariants.{Script}
use Rattle.commands.proofs.HowItEnds.{nothing_printed}

-- what answers in one way answers in another
pub finishes_so : (IsOne IsOther : List ℕ → Ended → Type 0)
    → ((answer : List ℕ) (ended : Ended) → IsOne answer ended → IsOther answer ended)
    → (old new : ConsoleState) (ended : Ended) → Finishes IsOne old new ended → Finishes IsOther old new ended
finishes_so IsOne IsOther so old new ended (inl all) = inl (all.0, so all.0 ended all.1, all.2)
finishes_so IsOne IsOther so old new ended (inr cut) = inr (cut.0, cut.1, so cut.0 cut.1 cut.2, cut.3, cut.4)

pub unread : (under : Option GateRules) (script : List ℕ) (old : ConsoleState) (fault : ScriptFault)
    → IsUnreadScript script fault
    → Finishes (IsPlayedText under script) old old (Err (Script fault))
unread under script old fault is = inl ([], inl (fault, is, refl, refl), nothing_printed old)

pub gate_refused : (script : Bor (List ℕ)) (gate : Option (Bor (List ℕ))) (IsSo : List ℕ → Type 0)
    (old mid new : ConsoleState) (refusal : Refusal)
    → IsHad (input script_file script.now) IsSo old mid
    → IsSomeAnd gate (λ name. IsRefused (input gate_file name.now) mid new refusal)
    → IsFirstRefused (input script_file script.now ∷ any_gate gate) old new refusal
gate_refused script None IsSo old mid new refusal had refused = absurd refused
gate_refused script (Some gate) IsSo old mid new refusal had refused = inr (mid, (had.0, had.1, tt), inl refused)

module _ (command : SimulateCommand) where
  -- the texts of the script and of the gate file
  texts_had : (gate : Option (Bor (List ℕ))) (old new : ConsoleState) (texts : List (List ℕ)) → command.gate ≡ gate
      → AreHad (input script_file command.script.now ∷ any_gate gate) old texts new
      → AreHad (inputs_of (Simulate command)) old texts new
  texts_had gate old new texts named had =
      subst (λ (g : Option (Bor (List ℕ))). AreHad (input script_file command.script.now ∷ any_gate g) old texts new) (sym named) had

  pub simulated : (gate : Option (Bor (List ℕ))) → command.gate ≡ gate → (old mid now new : ConsoleState)
      (bytes : List ℕ) (rules : Option GateRules) (ended : Ended)
      → IsHad (input script_file command.script.now) (λ text. text ≡ bytes) old mid
      → IsGateHad (option_map (λ (name : Bor (List ℕ)). name.now) gate) rules mid now
      → Finishes (IsPlayedText rules bytes) now new ended → Ends (Simulate command) old new ended
  simulated None named old mid now new bytes None ended had same finished =
      inr (
        had.0 ∷ [],
        now,
        texts_had None old now (had.0 ∷ []) named (mid, had.1, tt, same),
        finishes_so (IsPlayedText None bytes) _
            (λ answer end is. (None, refl, subst (λ t. IsPlayedText None t answer end) (sym had.2) is)) now new ended finished,
      )
  simulated None named old mid now new bytes (Some rules) ended had not finished = absurd not
  simulated (Some gate) named old mid now new bytes None ended had not finished = absurd not
  simulated (Some gate) named old mid now new bytes (Some rules) ended had too finished =
      inr (
        had.0 ∷ too.0 ∷ [],
        now,
        texts_had (Some gate) old now (had.0 ∷ too.0 ∷ []) named (mid, had.1, tt, (now, too.1, (rules, too.2), refl)),
        finishes_so (IsPlayedText (Some rules) bytes) _
            (λ answer end is. (Some rules, (rules, too.2, refl), subst (λ t. IsPlayedText (Some rules) t answer end) (sym had.2) is)) now new ended finished,
      )
