-- The inputs of a command, read and checked one after the other: the limit of each kind, when it is valid, and its
-- refusals.
use Rattle.std.specs.Prelude.{◌≡◌, ◌⊎◌, ℕ, List, [], ◌∷◌, IfSome, IsUtf8, Option, None, Some, if◌then◌else◌}
use Rattle.std.specs.Borrow.{Bor}
use Rattle.byte_ends.specs.Lines.{lines_of}
use Rattle.byte_ends.specs.declared.faults.BytesFault.{BytesFault}
use Rattle.gate_rules.specs.Rules.{GateRules}
use Rattle.gate_rules.specs.Spelling.{IsRefusalOf, SpellsGate}
use Rattle.gate_rules.specs.declared.fault.GateFault.{GateFault}
use Rattle.snapshot_text.specs.Fault.{snap_fault_of}
use Rattle.snapshot_text.specs.Snapshot.{IsOfText, IsRefusal, SaysOperations, most_bytes}
use Rattle.snapshot_text.specs.declared.fault.SnapFault.{SnapFault}
use Rattle.review_ops.specs.Operation.{Operation}
use Rattle.console.specs.Console.{ConsoleState, IsRead, IsUnread, record_at}
use Rattle.console.specs.Pulls.{IsPullFault, NamesSite, is_site_name}
use Rattle.console.specs.declared.refusals.Refusal.{Refusal}
use Rattle.console.specs.declared.refusals.Refusal.TheVariants.{File, Gate, NoAddress, NotText, Peer, Snapshot}
use Rattle.site_address.specs.declared.address.Address.{Address}

pub data Kind : Type 0 where
  gate_file : Kind
  message_file : Kind
  script_file : Kind
  snapshot_file : Kind
  -- the record of a running site
  pulled : Kind

pub record Input : Type 0 where
  pub kind : Kind
  pub name : List ℕ

abbrev pub input : Kind → List ℕ → Input
input kind name = record { kind = kind; name = name }

-- a record is that of a running site or of a snapshot, by its name
abbrev pub record_input : List ℕ → Input
record_input name = input (if is_site_name name then pulled else snapshot_file) name

-- the most bytes of a file: 1 MiB, and 1 GiB of a snapshot
abbrev pub limit_of : Kind → ℕ
limit_of snapshot_file = most_bytes
limit_of kind = 1048576

-- how the file of a name is refused whose bytes can't be had
abbrev pub IsUnreadAs : List ℕ → BytesFault → Refusal → Type 0
IsUnreadAs name fault refusal = (named : Bor (List ℕ)) × (named.now ≡ name) × (refusal ≡ File named fault)

-- how a message is refused that isn't UTF-8
abbrev pub IsNoText : List ℕ → Refusal → Type 0
IsNoText name refusal = (named : Bor (List ℕ)) × (named.now ≡ name) × (refusal ≡ NotText named)

-- how a fault of the snapshot of a name is refused
abbrev pub IsSnapshotFault : List ℕ → SnapFault → Refusal → Type 0
IsSnapshotFault name fault refusal = (named : Bor (List ℕ)) × (named.now ≡ name) × (refusal ≡ Snapshot fault named)

-- how an input is refused whose bytes can't be had: a snapshot has faults of its own for that
abbrev pub IsUnreadOf : Kind → List ℕ → BytesFault → Refusal → Type 0
IsUnreadOf snapshot_file name fault refusal = IsSnapshotFault name (snap_fault_of fault) refusal
IsUnreadOf kind name fault refusal = IsUnreadAs name fault refusal

-- a pull reads and prints nothing, and its text is that of the site's record, where that is known
pub record IsPulled (name : List ℕ) (old new : ConsoleState) (text : List ℕ) : Type 0 where
  pub address : Address
  pub named : NamesSite name address
  pub whole : IfSome (record_at old.sites address) (λ known. text ≡ known)
  pub after : new ≡ old

-- the text of an input of this name was read
abbrev pub IsTextOf : Kind → List ℕ → ConsoleState → ConsoleState → List ℕ → Type 0
IsTextOf pulled name old new text = IsPulled name old new text
IsTextOf kind name old new text = IsRead name (limit_of kind) old new text

-- what an input has to be. A script is judged as it is played
abbrev pub IsSound : Kind → List ℕ → Type 0
IsSound gate_file text = (rules : GateRules) × SpellsGate text rules
IsSound message_file text = IsUtf8 text
IsSound script_file text = Unit {0}
IsSound snapshot_file text = (ops : List Operation) × SaysOperations (lines_of text) ops
IsSound pulled text = (ops : List Operation) × SaysOperations (lines_of text) ops

-- how an invalid input is refused, or one for which memory was refused
abbrev pub IsFlawed : Kind → List ℕ → List ℕ → Refusal → Type 0
IsFlawed gate_file name text refusal = (fault : GateFault) × (refusal ≡ Gate fault) × IsRefusalOf text fault
IsFlawed message_file name text refusal = IsNoText name refusal × (¬ IsUtf8 text)
IsFlawed script_file name text refusal = ⊥
IsFlawed snapshot_file name text refusal =
    (fault : SnapFault) × IsSnapshotFault name fault refusal × IsRefusal text fault × IsOfText fault
IsFlawed pulled name text refusal = ⊥

-- how a record is refused that isn't pulled: its name has no address, or a pull from that fails
abbrev pub IsUnpulled : List ℕ → Refusal → Type 0
IsUnpulled name (NoAddress named) = (named.now ≡ name) × ((address : Address) → ¬ NamesSite name address)
IsUnpulled name (Peer fault address) = NamesSite name address × IsPullFault fault
IsUnpulled name refusal = ⊥

-- the input was read, is valid, and its text meets this condition
abbrev pub IsHad : Input → (List ℕ → Type 0) → ConsoleState → ConsoleState → Type 0
IsHad input IsSo old new = (text : List ℕ) × IsTextOf input.kind input.name old new text × IsSo text

-- the gate file is had, where one is named
abbrev pub IsGateHad : Option (List ℕ) → Option GateRules → ConsoleState → ConsoleState → Type 0
IsGateHad None None old new = new ≡ old
IsGateHad (Some name) (Some rules) old new = IsHad (input gate_file name) (λ text. SpellsGate text rules) old new
IsGateHad name rules old new = ⊥

-- an input of this name is refused: its bytes can't be had, or aren't what they have to be; or it isn't pulled
abbrev pub IsRefusedAs : Kind → List ℕ → ConsoleState → ConsoleState → Refusal → Type 0
IsRefusedAs pulled name old new refusal = IsUnpulled name refusal × (new ≡ old)
IsRefusedAs kind name old new refusal =
    ((fault : BytesFault) × IsUnreadOf kind name fault refusal × IsUnread name (limit_of kind) old new fault)
    ⊎ IsHad (input kind name) (λ text. IsFlawed kind name text refusal) old new

abbrev pub IsRefused : Input → ConsoleState → ConsoleState → Refusal → Type 0
IsRefused input old new refusal = IsRefusedAs input.kind input.name old new refusal

-- all inputs were read, one after the other, are valid, and have these texts
abbrev pub AreHad : List Input → ConsoleState → List (List ℕ) → ConsoleState → Type 0
AreHad [] old [] new = new ≡ old
AreHad (input ∷ inputs) old (text ∷ texts) new =
    (mid : ConsoleState) × IsTextOf input.kind input.name old mid text × IsSound input.kind text
    × AreHad inputs mid texts new
AreHad inputs old texts new = ⊥

-- the first input that can't be read or is invalid is refused, and those after it aren't read
abbrev pub IsFirstRefused : List Input → ConsoleState → ConsoleState → Refusal → Type 0
IsFirstRefused [] old new refusal = ⊥
IsFirstRefused (input ∷ inputs) old new refusal =
    IsRefused input old new refusal
    ⊎ ((mid : ConsoleState) × IsHad input (IsSound input.kind) old mid × IsFirstRefused inputs mid new refusal)
