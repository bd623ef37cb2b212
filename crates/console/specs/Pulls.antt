-- The record of a running site, which is pulled: its name as an input, what comes, and why it isn't had.
use Rattle.std.specs.Prelude.{◌≡◌, ◌++◌, ◌==◌, ℕ, Bool, false, List, [], ◌∷◌, Option, IfSome, codes}
use Rattle.byte_ends.specs.Lines.{lines_of}
use Rattle.gossip_line.specs.Fault as line
use Rattle.gossip_line.specs.declared.fault.LineFault.TheVariants.{Closed, FarAhead, NotListed}
use Rattle.replica_core.specs.Journal.{all_arrived}
use Rattle.review_ops.specs.Operation.{Operation}
use Rattle.site_address.specs.Address.{NamesAddress}
use Rattle.site_address.specs.declared.address.Address.{Address}
use Rattle.snapshot_text.specs.Snapshot.{SaysOperations}
use Rattle.console.specs.declared.pulls.PullFault.{PullFault}
use Rattle.console.specs.declared.pulls.PullFault.TheVariants.{Failed, NoEnd, Unreachable}

-- ---- names

-- whether a name is that of a running site: it begins with `@`
abbrev pub is_site_name : List ℕ → Bool
is_site_name [] = false
is_site_name (byte ∷ rest) = byte == 64

-- the name is `@`, and then a word that names the site's address
pub record NamesSite (name : List ℕ) (address : Address) : Type 0 where
  pub word : List ℕ
  pub form : name ≡ codes "@" ++ word
  pub named : NamesAddress word address

-- ---- faults

abbrev pub number_of : PullFault → ℕ
number_of (Failed fault) = line.number_of fault
number_of Unreachable = 8
number_of NoEnd = 10

abbrev pub name_of : PullFault → List ℕ
name_of (Failed fault) = line.name_of fault
name_of Unreachable = codes "Unreachable"
name_of NoEnd = codes "NoEnd"

-- the faults that may come: a record that is pulled into is never closed, and has no guard
abbrev pub IsPullFault : PullFault → Type 0
IsPullFault (Failed Closed) = ⊥
IsPullFault (Failed NotListed) = ⊥
IsPullFault (Failed FarAhead) = ⊥
IsPullFault fault = Unit {0}

-- ---- what comes

-- a text says operations, the record's where that is known, and they have arrived after those of the base
abbrev pub BringsRecord : Option (List ℕ) → List Operation → List Operation → Type 0
BringsRecord known base both =
    (text : List ℕ) × IfSome known (λ record_text. text ≡ record_text) × (ops : List Operation)
    × SaysOperations (lines_of text) ops × (both ≡ all_arrived base ops)
