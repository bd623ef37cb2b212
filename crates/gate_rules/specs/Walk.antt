-- The first fault of a gate file: its members are visited depth first, those of an object in byte order of their keys,
-- those of a list in order, and at each the key is judged before its value. The order is this project's own.
use Rattle.std.specs.Prelude.{ℕ, List, [], ◌∷◌, length, Bool, true, false, ◌&&◌, ◌||◌, nat_le, nat_eq, if◌then◌else◌}
use Rattle.std.specs.Prelude.{Option, Some, None, codes}
use Rattle.std.specs.Char.{is_ascii_alphanumeric}
use Rattle.std.specs.Str.{bytes_eq}
use Rattle.serde_json.specs.Data.{Data, null, boolean, number, string, array, object, Members, no_members, member}
use Rattle.review_ops.specs.Good.{is_label_byte}
use Rattle.gate_rules.specs.declared.walk.Flaw.{Flaw}
use Rattle.gate_rules.specs.declared.walk.Flaw.TheVariants.{Unknown, Bad, Unsupported}
use Rattle.gate_rules.specs.declared.keys.ApprovalKey.{ApprovalKey}
use Rattle.gate_rules.specs.declared.keys.ApprovalKey.TheVariants as approval
use Rattle.gate_rules.specs.declared.keys.ConditionKey.{ConditionKey}
use Rattle.gate_rules.specs.declared.keys.ConditionKey.TheVariants as condition
use Rattle.gate_rules.specs.declared.keys.GateKey.{GateKey}
use Rattle.gate_rules.specs.declared.keys.GateKey.TheVariants as gate
use Rattle.gate_rules.specs.Reading.{listed, each, is_text, is_flag, is_vote, connection_of}

-- what is wrong, and the key that is named
abbrev pub Fault : Type 0
Fault = Flaw × List ℕ

-- the first of two
abbrev pub or_later : Option Fault → Option Fault → Option Fault
or_later None later = later
or_later (Some fault) later = Some fault

-- the first fault of an object's members
abbrev pub first_fault : (List ℕ → Data → Option Fault) → Members → Option Fault
first_fault judge no_members = None
first_fault judge (member key d ms) = or_later (judge key d) (first_fault judge ms)

-- the first fault of a list's members
abbrev pub first_in_list : (Data → Option Fault) → List Data → Option Fault
first_in_list judge [] = None
first_in_list judge (d ∷ ds) = or_later (judge d) (first_in_list judge ds)

-- a value that isn't good is named by its key
abbrev pub good_or_bad : Bool → List ℕ → Option Fault
good_or_bad true key = None
good_or_bad false key = Some (Bad, key)

-- the value must be an object, whose members are judged
abbrev pub object_fault : (List ℕ → Data → Option Fault) → List ℕ → Data → Option Fault
object_fault judge key null = Some (Bad, key)
object_fault judge key (boolean b) = Some (Bad, key)
object_fault judge key (number n) = Some (Bad, key)
object_fault judge key (string s) = Some (Bad, key)
object_fault judge key (array ds) = Some (Bad, key)
object_fault judge key (object ms) = first_fault judge ms

-- ---- an approval

-- 1 to 64 ASCII letters, digits and `-`
abbrev pub is_label_key : List ℕ → Bool
is_label_key key = nat_le 1 (length key) && nat_le (length key) 64 && each is_label_byte key

abbrev pub approval_key : List ℕ → ApprovalKey
approval_key key =
    if bytes_eq key (codes "username") then approval.Username else
    if bytes_eq key (codes "email") then approval.Unsupported else
    if bytes_eq key (codes "older-than") then approval.Unsupported else
    if bytes_eq key (codes "newer-than") then approval.Unsupported else
    if is_label_key key then approval.Label else approval.Unknown

abbrev pub approval_value : ApprovalKey → List ℕ → Data → Option Fault
approval_value approval.Username key d = good_or_bad (is_text d) key
approval_value approval.Label key d = good_or_bad (each is_vote (listed d)) key
approval_value approval.Unsupported key d = Some (Unsupported, key)
approval_value approval.Unknown key d = Some (Unknown, key)

abbrev pub approval_fault : List ℕ → Data → Option Fault
approval_fault key d = approval_value (approval_key key) key d

-- ---- the conditions of a side

abbrev pub condition_key : List ℕ → ConditionKey
condition_key key =
    if bytes_eq key (codes "open") then condition.Flag else
    if bytes_eq key (codes "current-patchset") then condition.Flag else
    if bytes_eq key (codes "status") then condition.Status else
    if bytes_eq key (codes "approval") then condition.Approval else
    if bytes_eq key (codes "wip") then condition.Unsupported else
    if bytes_eq key (codes "hashtags") then condition.Unsupported else condition.Unknown

abbrev pub condition_value : ConditionKey → List ℕ → Data → Option Fault
condition_value condition.Flag key d = good_or_bad (is_flag d) key
condition_value condition.Status key d = good_or_bad (each is_text (listed d)) key
condition_value condition.Approval key d = first_in_list (object_fault approval_fault key) (listed d)
condition_value condition.Unsupported key d = Some (Unsupported, key)
condition_value condition.Unknown key d = Some (Unknown, key)

abbrev pub condition_fault : List ℕ → Data → Option Fault
condition_fault key d = condition_value (condition_key key) key d

-- ---- a side: its one member is named by the connection

abbrev pub side_fault : List ℕ → List ℕ → Data → Option Fault
side_fault connection key d =
    if bytes_eq key connection then object_fault condition_fault key d else Some (Unsupported, key)

-- ---- the gate

abbrev pub gate_key : List ℕ → GateKey
gate_key key =
    if bytes_eq key (codes "allow-circular-dependencies") then gate.Cycles else
    if bytes_eq key (codes "bases") then gate.Bases else
    if bytes_eq key (codes "connection") then gate.Connection else
    if bytes_eq key (codes "reject") then gate.Side else
    if bytes_eq key (codes "require") then gate.Side else gate.Unknown

abbrev pub gate_value : List ℕ → Bool → GateKey → List ℕ → Data → Option Fault
gate_value connection has_bases gate.Cycles key d = good_or_bad (is_flag d) key
gate_value connection has_bases gate.Bases key d = good_or_bad has_bases key
gate_value connection has_bases gate.Connection key d = good_or_bad (is_text d) key
gate_value connection has_bases gate.Side key d = object_fault (side_fault connection) key d
gate_value connection has_bases gate.Unknown key d = Some (Unknown, key)

-- `has_bases` says whether good bases are under their key. Where they are missing, that is named last.
abbrev pub gate_fault : Bool → Members → Option Fault
gate_fault has_bases ms = or_later
    (first_fault (λ key d. gate_value (connection_of ms) has_bases (gate_key key) key d) ms)
    (good_or_bad has_bases (codes "bases"))
