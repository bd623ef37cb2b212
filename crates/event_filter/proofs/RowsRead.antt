-- A row that was read is what the record says.
use Rattle.std.specs.Prelude.{◌≡◌, ◌++◌, ℕ, List, [], ◌∷◌}
use Rattle.std.proofs.Common.{subst, inl, inr}
use Rattle.serde_json.specs.Data.{Members, object}
use Rattle.gerrit_events.specs.declared.finding.Finding.{Finding}
use Rattle.gerrit_events.specs.Kinds.{line_kind}
use Rattle.gerrit_events.specs.Projects.{Choice}
use Rattle.gerrit_events.specs.Reading.{ClaimsAreSettled, IsLineObject, Reads, ParsedLine, claims_of}
use Rattle.gerrit_events.specs.Revisions.{Revision}
use Rattle.state_core.specs.State.{State}
use Rattle.event_filter.specs.Rows.{IsFedRow, SaysRow}
use Rattle.event_filter.specs.Truth.{AgreesWithAll, AreMet}
use Rattle.event_filter.proofs.Rows.{says}
use Rattle.event_filter.proofs.Truth.{agrees}

-- a text has one value
same_members : (text : List ℕ) (a b : Members) → IsLineObject text a → IsLineObject text b → object a ≡ object b
same_members text a b one other = let e = one.value in let f = other.value in cc

-- the record agrees with all findings that are met last, whatever was met before
agrees_later : (before later : List Finding) (new : State) → AgreesWithAll (before ++ later) new
    → AgreesWithAll later new
agrees_later [] later new all = all
agrees_later (finding ∷ before) later new all = agrees_later before later new all.1

pub read_says : (known after : List Revision) (choice : Choice) (text : List ℕ) (parsed : ParsedLine)
    → Reads known choice text parsed after → (members : Members) → IsLineObject text members → (change set : ℕ)
    → IsFedRow choice (object members) change set → (before : List Finding) (state new : State)
    → AreMet state (before ++ parsed.findings) new → SaysRow known (object members) change set new
read_says known after choice text parsed reads members is change set row before state new met = elim reads [
  | inl read ↦
      says known choice (object members) change set parsed.findings new row
      (subst (λ line. ClaimsAreSettled (claims_of known choice (line_kind line) line) parsed.findings)
      (same_members text read.members members read.is_object is) read.settled)
      (agrees_later before parsed.findings new (agrees state new (before ++ parsed.findings) met))
  | inr none ↦ absurd (none.none members is)
]
