-- What a record shows of a gate: its labels and voters, which bases no footer of it has, and which footers name no change
-- although they begin with a base.
use Rattle.std.specs.Prelude.{◌≡◌, ℕ, List, Bool, MatchBool, Option, None, Some, option_map}
use Rattle.std.specs.List.{AllZip}
use Rattle.gate_rules.specs.Rules.{GateRules}
use Rattle.state_core.specs.State.{State}
use Rattle.gate_check.specs.Ignored.{AreIgnored}
use Rattle.gate_check.specs.Names.{KnownNames, names_in}
use Rattle.gate_check.specs.Unused.{IsUnusedBase, messages_in}

-- the names; of each base, in the order of the gate file, whether it is unused; and the values of ignored footers
pub record Evidence : Type 0 where
  pub names : KnownNames
  pub unused : List Bool
  pub ignored : List (List ℕ)

pub record IsEvidence (gate : GateRules) (state : State) (evidence : Evidence) : Type 0 where
  pub names : evidence.names ≡ names_in state
  pub unused : AllZip
      (λ base is_so. MatchBool is_so
      (IsUnusedBase gate.bases (messages_in state) base) (¬ IsUnusedBase gate.bases (messages_in state) base))
      gate.bases evidence.unused
  pub ignored : AreIgnored gate.bases (messages_in state) evidence.ignored

-- the same with a record or without one
abbrev pub IsEvidenceIfAny : GateRules → Option State → Option Evidence → Type 0
IsEvidenceIfAny gate None None = Unit {0}
IsEvidenceIfAny gate None (Some evidence) = ⊥
IsEvidenceIfAny gate (Some state) None = ⊥
IsEvidenceIfAny gate (Some state) (Some evidence) = IsEvidence gate state evidence

abbrev pub names_shown_by : Option Evidence → Option KnownNames
names_shown_by evidence = option_map (λ known. known.names) evidence
