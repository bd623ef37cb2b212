-- The texts that are written for bodies and operations: the compact JSON text of the object, its members in byte order
-- of their keys.
use Rattle.std.specs.Prelude.{◌≡◌, ℕ, ◌≤◌, List, [], ◌∷◌, All, Option, Some, None, option_map}
use Rattle.serde_json.specs.Data.{Data, number, string, object, unsigned, Members, no_members, member}
use Rattle.serde_json.specs.Find.{of_integer}
use Rattle.serde_json.specs.Written.{compact_text}
use Rattle.review_ops.specs.Timestamp.{Timestamp}
use Rattle.review_ops.specs.Deed.{Deed, change_of, set_of, message_of, parent_of, label_of, voter_of, value_of}
use Rattle.review_ops.specs.Operation.{Operation}
use Rattle.op_text.specs.declared.field.Form.{Form}
use Rattle.op_text.specs.declared.field.Form.TheVariants as form
use Rattle.op_text.specs.declared.field.Field.{Field}
use Rattle.op_text.specs.declared.field.Field.TheVariants.{Change, Label, Message, Op, Parent, Seq, Set, Site, Start}
use Rattle.op_text.specs.declared.field.Field.TheVariants.{Time, Value, Voter}
use Rattle.op_text.specs.Field.{key_of, name_of}
use Rattle.op_text.specs.Spelling.{kind_of}

-- a body has no stamp
abbrev pub form_of : Option Timestamp → Form
form_of None = form.Body
form_of (Some stamp) = form.Operation

abbrev pub whole : ℕ → Data
whole n = number (unsigned n)

-- the value under a field's key, if there is one
abbrev pub data_of : Option Timestamp → Deed → Field → Option Data
data_of stamp deed Change = Some (whole (change_of deed))
data_of stamp deed Label = option_map string (label_of deed)
data_of stamp deed Message = option_map string (message_of deed)
data_of stamp deed Op = Some (string (name_of (kind_of deed)))
data_of stamp deed Parent = option_map whole (parent_of deed)
data_of stamp deed Seq = option_map (λ t. whole t.seq) stamp
data_of stamp deed Set = option_map whole (set_of deed)
data_of stamp deed Site = option_map (λ t. whole t.site) stamp
data_of stamp deed Start = option_map (λ t. whole t.start) stamp
data_of stamp deed Time = option_map (λ t. whole t.time) stamp
data_of stamp deed Value = option_map (λ z. number (of_integer z)) (value_of deed)
data_of stamp deed Voter = option_map string (voter_of deed)

-- the fields in byte order of their keys
abbrev pub all_fields : List Field
all_fields = Change ∷ Label ∷ Message ∷ Op ∷ Parent ∷ Seq ∷ Set ∷ Site ∷ Start ∷ Time ∷ Value ∷ Voter ∷ []

abbrev pub with_member : List ℕ → Option Data → Members → Members
with_member key None rest = rest
with_member key (Some d) rest = member key d rest

-- the members for those of the fields that have data
abbrev pub members_over : List Field → (Field → Option Data) → Members
members_over [] values = no_members
members_over (field ∷ fields) values = with_member (key_of field) (values field) (members_over fields values)

abbrev pub members_of : Option Timestamp → Deed → Members
members_of stamp deed = members_over all_fields (data_of stamp deed)

unfoldable pub body_text : Deed → List ℕ
body_text deed = compact_text (object (members_of None deed))

unfoldable pub operation_text : Operation → List ℕ
operation_text op = compact_text (object (members_of (Some op.stamp) op.deed))

-- the text is one line: it begins with `{` and has no control character, so no LF and no CR
pub record IsOneLine (text : List ℕ) : Type 0 where
  pub rest : List ℕ
  pub begins : text ≡ 123 ∷ rest
  pub plain : All (λ byte. 32 ≤ byte) text
