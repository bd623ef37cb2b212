-- The keys of operation and body texts, and what each may hold. The texts are the project's own; a value is what
-- serde_json's Value reads (JSON: RFC 8259).
use Rattle.std.specs.Prelude.{ℕ, ℤ, negsuc, pos, List, Bool, true, false, ◌&&◌, nat_le, Option, Some, None}
use Rattle.std.specs.Prelude.{option_and_then, is_some, is_none, codes, int_le}
use Rattle.serde_json.specs.Data.{Data}
use Rattle.serde_json.specs.Find.{as_number, as_str, as_u64, as_i64}
use Rattle.op_text.specs.declared.field.Form.{Form}
use Rattle.op_text.specs.declared.field.Form.TheVariants.{Body, Operation}
use Rattle.op_text.specs.declared.field.Kind.{Kind}
use Rattle.op_text.specs.declared.field.Kind.TheVariants.{PatchSet, Vote, Withdraw, Abandon, Restore, Merged}
use Rattle.op_text.specs.declared.field.Field.{Field}
use Rattle.op_text.specs.declared.field.Field.TheVariants.{Change, Label, Message, Op, Parent, Seq, Set, Site, Start}
use Rattle.op_text.specs.declared.field.Field.TheVariants.{Time, Value, Voter}
use Rattle.op_text.specs.declared.field.Rule.{Rule}
use Rattle.op_text.specs.declared.field.Rule.TheVariants.{Refused, Optional, Required}

-- the value under `op` for each kind
abbrev pub name_of : Kind → List ℕ
name_of PatchSet = codes "patchset"
name_of Vote = codes "vote"
name_of Withdraw = codes "withdraw"
name_of Abandon = codes "abandon"
name_of Restore = codes "restore"
name_of Merged = codes "merged"

abbrev pub key_of : Field → List ℕ
key_of Change = codes "change"
key_of Label = codes "label"
key_of Message = codes "message"
key_of Op = codes "op"
key_of Parent = codes "parent"
key_of Seq = codes "seq"
key_of Set = codes "set"
key_of Site = codes "site"
key_of Start = codes "start"
key_of Time = codes "time"
key_of Value = codes "value"
key_of Voter = codes "voter"

-- ---- which fields a text has

-- an operation has a stamp, and a body has none
abbrev pub stamp_rule : Form → Rule
stamp_rule Operation = Required
stamp_rule Body = Refused

-- a patch set, a vote and a withdrawal name the patch set
abbrev pub set_rule : Kind → Rule
set_rule PatchSet = Required
set_rule Vote = Required
set_rule Withdraw = Required
set_rule Abandon = Refused
set_rule Restore = Refused
set_rule Merged = Refused

-- a patch set has a message
abbrev pub message_rule : Kind → Rule
message_rule PatchSet = Required
message_rule Vote = Refused
message_rule Withdraw = Refused
message_rule Abandon = Refused
message_rule Restore = Refused
message_rule Merged = Refused

-- and it may have a parent
abbrev pub parent_rule : Kind → Rule
parent_rule PatchSet = Optional
parent_rule Vote = Refused
parent_rule Withdraw = Refused
parent_rule Abandon = Refused
parent_rule Restore = Refused
parent_rule Merged = Refused

-- a vote and a withdrawal name the label and the voter
abbrev pub vote_rule : Kind → Rule
vote_rule PatchSet = Refused
vote_rule Vote = Required
vote_rule Withdraw = Required
vote_rule Abandon = Refused
vote_rule Restore = Refused
vote_rule Merged = Refused

-- a vote has a value
abbrev pub value_rule : Kind → Rule
value_rule PatchSet = Refused
value_rule Vote = Required
value_rule Withdraw = Refused
value_rule Abandon = Refused
value_rule Restore = Refused
value_rule Merged = Refused

abbrev pub rule_of : Form → Kind → Field → Rule
rule_of form kind Change = Required
rule_of form kind Label = vote_rule kind
rule_of form kind Message = message_rule kind
rule_of form kind Op = Required
rule_of form kind Parent = parent_rule kind
rule_of form kind Seq = stamp_rule form
rule_of form kind Set = set_rule kind
rule_of form kind Site = stamp_rule form
rule_of form kind Start = stamp_rule form
rule_of form kind Time = stamp_rule form
rule_of form kind Value = value_rule kind
rule_of form kind Voter = vote_rule kind

-- ---- which values a field takes

-- the number that as_u64 gives
abbrev pub number_in : Data → Option ℕ
number_in d = option_and_then as_u64 (as_number d)

-- the number that as_i64 gives
abbrev pub integer_in : Data → Option ℤ
integer_in d = option_and_then as_i64 (as_number d)

abbrev pub is_within : ℕ → ℕ → Option ℕ → Bool
is_within low high None = false
is_within low high (Some n) = nat_le low n && nat_le n high

abbrev pub is_vote_value : Option ℤ → Bool
is_vote_value None = false
is_vote_value (Some z) = int_le (negsuc 127) z && int_le z (pos 127)

abbrev pub accepts : Field → Data → Bool
accepts Change d = is_within 0 4294967295 (number_in d)
accepts Label d = is_some (as_str d)
accepts Message d = is_some (as_str d)
accepts Op d = is_some (as_str d)
accepts Parent d = is_within 0 4294967295 (number_in d)
accepts Seq d = is_within 1 18446744073709551615 (number_in d)
accepts Set d = is_within 0 4294967295 (number_in d)
accepts Site d = is_within 0 65535 (number_in d)
accepts Start d = is_within 0 4294967295 (number_in d)
accepts Time d = is_within 0 18446744073709551615 (number_in d)
accepts Value d = is_vote_value (integer_in d)
accepts Voter d = is_some (as_str d)

-- whether a field obeys its rule, by what was found under its key
abbrev pub obeys : Rule → Field → Option Data → Bool
obeys Refused field found = is_none found
obeys Optional field None = true
obeys Optional field (Some d) = accepts field d
obeys Required field None = false
obeys Required field (Some d) = accepts field d
