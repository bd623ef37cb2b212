-- The numbers and names of faults in reports.
use Rattle.std.specs.Prelude.{ℕ, List, ◌++◌, codes, decimal, string_bytes}
use Rattle.gate_rules.specs.declared.fault.GateFault.{GateFault}
use Rattle.gate_rules.specs.declared.fault.GateFault.TheVariants.{NotJson, UnknownKey, BadValue, BadBases, Unsupported}
use Rattle.gate_rules.specs.declared.fault.GateFault.TheVariants.{NoMemory}
use Rattle.gate_rules.specs.BadItems.{item_flaw_name}
use Rattle.gate_rules.specs.declared.bad_base.BadBase.{BadBase}
use Rattle.gate_rules.specs.declared.place.Place.{Place}

abbrev pub number_of : GateFault → ℕ
number_of (NotJson place) = 1
number_of (UnknownKey key) = 2
number_of (BadValue key) = 3
number_of (BadBases bad) = 3
number_of (Unsupported key) = 4
number_of NoMemory = 5

abbrev pub name_of : GateFault → List ℕ
name_of (NotJson place) = codes "NotJson"
name_of (UnknownKey key) = codes "UnknownKey"
name_of (BadValue key) = codes "BadValue"
name_of (BadBases bad) = codes "BadValue"
name_of (Unsupported key) = codes "Unsupported"
name_of NoMemory = codes "NoMemory"

-- the name, and the line and the column
abbrev pub not_json_words : Place → List ℕ
not_json_words place = codes "NotJson " ++ decimal place.line ++ codes " " ++ decimal place.column

-- the name and the key, and which item of the list is refused, and why
abbrev pub bad_base_words : BadBase → List ℕ
bad_base_words bad = codes "BadValue bases " ++ decimal bad.item ++ codes " " ++ item_flaw_name bad.flaw

-- the name, and the place or the key where there is one
abbrev pub words_of : GateFault → List ℕ
words_of (NotJson place) = not_json_words place
words_of (UnknownKey key) = codes "UnknownKey " ++ string_bytes key
words_of (BadValue key) = codes "BadValue " ++ string_bytes key
words_of (BadBases bad) = bad_base_words bad
words_of (Unsupported key) = codes "Unsupported " ++ string_bytes key
words_of fault = name_of fault
