-- What a site begins with: the record that is loaded, and that of its journal.
use Rattle.std.specs.Prelude.{◌≡◌, ◌⊎◌, ◌<◌, ℕ, List, [], ◌∷◌, ◌++◌, Option, None, Some, IfSome, IsSome, filter, not}
use Rattle.byte_ends.specs.Lines.{lines_of}
use Rattle.console.specs.Console.{ConsoleState}
use Rattle.console.specs.Inputs.{AreHad, Input, IsFirstRefused, IsHad, gate_file, input, snapshot_file}
use Rattle.console.specs.Showing.{ErrorOutput, ShowsLine, torn_line}
use Rattle.console.specs.declared.refusals.Refusal.{Refusal}
use Rattle.console.specs.declared.refusals.Refusal.TheVariants.{Memory}
use Rattle.gate_rules.specs.Rules.{GateRules}
use Rattle.gate_rules.specs.Spelling.{SpellsGate}
use Rattle.replica_core.specs.Journal.{all_arrived, has}
use Rattle.replica_core.specs.JournalLaws.{IsPartOf}
use Rattle.replica_core.specs.Sets.{IsSameSet}
use Rattle.review_ops.specs.Operation.{Operation}
use Rattle.site_journal.specs.Book.{Book, IsHolding, IsOpened}
use Rattle.site_journal.specs.Fault.{IsJournalRefusal}
use Rattle.site_journal.specs.Tape.{Image, IsLeftBy}
use Rattle.site_ledger.specs.Keeping.{Survive}
use Rattle.snapshot_text.specs.Snapshot.{SaysOperations}
use Rattle.serve_command.specs.declared.command.Ended.{Ended}
use Rattle.serve_command.specs.declared.command.Ended.TheVariants.{Journal, Site}

-- ---- the inputs

-- the record that is loaded: the operations of the snapshot, where one is named, and else none
abbrev pub IsLoaded : Option (List ℕ) → List Operation → ConsoleState → ConsoleState → Type 0
IsLoaded None loaded old new = (loaded ≡ []) × (new ≡ old)
IsLoaded (Some name) loaded old new =
    (ops : List Operation) × (loaded ≡ all_arrived [] ops)
    × IsHad (input snapshot_file name) (λ text. SaysOperations (lines_of text) ops) old new

-- the gate is read first, and then the record
abbrev pub AreInputs : List ℕ → Option (List ℕ) → GateRules → List Operation → ConsoleState → ConsoleState → Type 0
AreInputs gate load rules loaded old new =
    (mid : ConsoleState) × IsHad (input gate_file gate) (λ text. SpellsGate text rules) old mid
    × IsLoaded load loaded mid new

-- the inputs of a site: the gate file, and then the snapshot to load, if one is named
abbrev pub loads_of : Option (List ℕ) → List Input
loads_of None = []
loads_of (Some name) = input snapshot_file name ∷ []

abbrev pub site_inputs : List ℕ → Option (List ℕ) → List Input
site_inputs gate load = input gate_file gate ∷ loads_of load

-- the first input that can't be read or is invalid is refused; or all are read and valid, and memory is refused for the
-- record
abbrev pub AreRefused : List Input → ConsoleState → ConsoleState → Refusal → Type 0
AreRefused inputs old new refusal =
    IsFirstRefused inputs old new refusal
    ⊎ ((texts : List (List ℕ)) × AreHad inputs old texts new × (refusal ≡ Memory))

-- ---- the journal

-- the record has just what the text of a journal says, and what was loaded
pub record IsRecordBegun (text : List ℕ) (loaded begun : List Operation) : Type 0 where
  pub own : List Operation
  pub torn : ℕ
  pub after : List ℕ
  pub opened : IsOpened text own torn after
  pub both : IsSameSet begun (own ++ loaded)

-- the record has whatever a site had published by a journal of which a crash left this text
abbrev pub HasSurvivors : List ℕ → List Operation → Type 0
HasSurvivors text begun = (book : Book) (image : Image) (published : List Operation) → book.image ≡ Some image
    → IsLeftBy image text → Survive book published → IsPartOf published begun

module _ {E : Type 0} (output : E → ErrorOutput) where
  -- it is reported how many bytes of a torn line were cut off; if none were, nothing is reported
  abbrev pub SaysTorn : ℕ → E → E → Type 0
  SaysTorn torn old new = (torn ≡ 0 → new ≡ old) × (0 < torn → ShowsLine (torn_line torn) (output old) (output new))

  -- the journal of this text was opened, and its torn line is reported like that
  abbrev pub SaysTornOf : List ℕ → E → E → Type 0
  SaysTornOf text old new =
      (own : List Operation) × (torn : ℕ) × (after : List ℕ) × IsOpened text own torn after × SaysTorn torn old new

-- why no record is begun: the journal can't be opened because of what its tape has, and nothing is reported; or what
-- was loaded can't be added to it
abbrev pub IsUnbegun : {E : Type 0} → Option Image → E → E → Ended → Type 0
IsUnbegun known old new (Journal fault) = (new ≡ old) × IfSome known (λ i. IsJournalRefusal i.contents fault)
IsUnbegun known old new (Site fault) = Unit {0}
IsUnbegun known old new ended = ⊥

-- a site ends by a fault of its own
abbrev pub IsOfSite : Ended → Type 0
IsOfSite (Site fault) = Unit {0}
IsOfSite ended = ⊥

-- what a record lacks of another one; for private clauses, as what follows
abbrev pub lacking_of : List Operation → List Operation → List Operation
lacking_of own loaded = filter (λ op. not (has own op)) loaded

-- of what was gathered a journal got all but what is left; and what it has is known where it was known before
abbrev pub IsAdded : Book → List Operation → Book → List Operation → Type 0
IsAdded old gathered new left =
    (added : List Operation) × (added ++ left ≡ gathered)
    × ((before : List Operation) → IsHolding old before → IsHolding new (before ++ added))
    × (IsSome old.image → IsSome new.image)
