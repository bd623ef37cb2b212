-- What the text of a gate file spells, and what each refusal of it says.
use Rattle.std.specs.Prelude.{◌≡◌, ◌≤◌, ◌↔◌, ◌⊎◌, ℕ, List, Bool, true, None, Some, IsTrue, IsUtf8, codes, length}
use Rattle.std.specs.Prelude.{string_bytes}
use Rattle.std.specs.Str.{IsValidUpTo}
use Rattle.serde_json.specs.Data.{Data, Members, object}
use Rattle.serde_json.specs.Read.{read}
use Rattle.gate_rules.specs.declared.fault.GateFault.{GateFault}
use Rattle.gate_rules.specs.declared.fault.GateFault.TheVariants as fault
use Rattle.gate_rules.specs.declared.walk.Flaw.TheVariants as flaw
use Rattle.gate_rules.specs.declared.place.Place.{Place}
use Rattle.gate_rules.specs.Place.{blanks, place_at}
use Rattle.gate_rules.specs.Rules.{GateRules}
use Rattle.gate_rules.specs.Reading.{HasBases, gate_of}
use Rattle.gate_rules.specs.Walk.{Fault, gate_fault}
use Rattle.gate_rules.specs.BadItems.{IsBadItem}
use Rattle.gate_rules.specs.declared.bad_base.BadBase.{BadBase}

-- the bytes are the JSON text of an object with these members, each key once, its last value
pub record IsObject (text : List ℕ) (members : Members) : Type 0 where
  pub utf8 : IsUtf8 text
  pub value : read text ≡ Some (object members)

-- the text is a faultless object that sets these rules
pub record SpellsGate (text : List ℕ) (gate : GateRules) : Type 0 where
  pub members : Members
  pub is_object : IsObject text members
  pub faultless : gate_fault true members ≡ None
  pub bases : HasBases members gate.bases
  pub rules : gate ≡ gate_of members gate.bases

-- the text is an object with this first fault
pub record IsFirstFault (text : List ℕ) (found : Fault) : Type 0 where
  pub members : Members
  pub is_object : IsObject text members
  pub has_bases : Bool
  pub bases : IsTrue has_bases ↔ ((bases : List (List ℕ)) × HasBases members bases)
  pub first : gate_fault has_bases members ≡ Some found

-- the first fault is a bad value of `bases`, of which this item is the first that is refused
pub record IsBadBase (text : List ℕ) (bad : BadBase) : Type 0 where
  pub fault : IsFirstFault text (flaw.Bad, codes "bases")
  pub item : IsBadItem fault.members bad

-- where it shows that a text is no object: at its first byte that belongs to no UTF-8; where it is other JSON, at the
-- first byte of that; and else at a byte of it, or at its end
pub record IsStop (text : List ℕ) (place : Place) : Type 0 where
  pub offset : ℕ
  pub within : offset ≤ length text
  pub is_at : place ≡ place_at text offset
  pub no_text : ¬ IsUtf8 text → IsValidUpTo text offset
  pub other : (value : Data) → IsUtf8 text → read text ≡ Some value → offset ≡ blanks text

-- no members are those of the text as an object, and so it shows at this place
pub record IsNoObject (text : List ℕ) (place : Place) : Type 0 where
  pub none : (members : Members) → ¬ IsObject text members
  pub stop : IsStop text place

-- `NoMemory` says nothing about the text.
abbrev pub IsRefusalOf : List ℕ → GateFault → Type 0
IsRefusalOf text (fault.NotJson place) = IsNoObject text place
IsRefusalOf text (fault.UnknownKey key) = IsFirstFault text (flaw.Unknown, string_bytes key)
IsRefusalOf text (fault.BadValue key) = IsFirstFault text (flaw.Bad, string_bytes key)
IsRefusalOf text (fault.BadBases bad) = IsBadBase text bad
IsRefusalOf text (fault.Unsupported key) = IsFirstFault text (flaw.Unsupported, string_bytes key)
IsRefusalOf text fault.NoMemory = Unit {0}

-- what is refused is no JSON object, or memory was
abbrev pub IsUnread : GateFault → Type 0
IsUnread (fault.NotJson place) = Unit {0}
IsUnread (fault.UnknownKey key) = ⊥
IsUnread (fault.BadValue key) = ⊥
IsUnread (fault.BadBases bad) = ⊥
IsUnread (fault.Unsupported key) = ⊥
IsUnread fault.NoMemory = Unit {0}

-- the refusal names the fault, unless memory was refused
abbrev pub NamesFault : GateFault → Fault → Type 0
NamesFault (fault.NotJson place) found = ⊥
NamesFault (fault.UnknownKey key) found = (flaw.Unknown, string_bytes key) ≡ found
NamesFault (fault.BadValue key) found = (flaw.Bad, string_bytes key) ≡ found
NamesFault (fault.BadBases bad) found = (flaw.Bad, codes "bases") ≡ found
NamesFault (fault.Unsupported key) found = (flaw.Unsupported, string_bytes key) ≡ found
NamesFault fault.NoMemory found = Unit {0}

-- where an item of the list of bases is refused, the refusal names it, unless memory was refused
abbrev pub NamesItem : GateFault → BadBase → Type 0
NamesItem found bad = (found ≡ fault.BadBases bad) ⊎ (found ≡ fault.NoMemory)
