-- Which members an operation's or a body's object may have, by the value under each key.
use Rattle.std.specs.Prelude.{◌≡◌, ◌⊎◌, ℕ, ℤ, List, Bool, true, false, Option, Some, option_and_then, IsSome, IsUtf8}
use Rattle.std.specs.Prelude.{string_bytes}
use Rattle.std.specs.Cmp.Lexicographic.{slice_cmp}
use Rattle.std.specs.Ordering.{nat_cmp}
use Rattle.std.specs.declared.cmp.Ordering.TheVariants.{Less}
use Rattle.serde_json.specs.Data.{Data, Members, object}
use Rattle.serde_json.specs.Find.{get_member, as_str}
use Rattle.serde_json.specs.Read.{read}
use Rattle.op_text.specs.declared.fault.OpTextFault.{OpTextFault}
use Rattle.op_text.specs.declared.fault.OpTextFault.TheVariants.{NotJson, BadShape, BadBody, NoMemory}
use Rattle.op_text.specs.declared.field.Form.{Form}
use Rattle.op_text.specs.declared.field.Kind.{Kind}
use Rattle.op_text.specs.declared.field.Field.{Field}
use Rattle.op_text.specs.declared.field.Field.TheVariants.{Op}
use Rattle.op_text.specs.Field.{key_of, name_of, rule_of, obeys, number_in, integer_in}

-- the bytes are the JSON text of an object with these members, each key once, its last value
pub record IsOperationObject (text : List ℕ) (members : Members) : Type 0 where
  pub utf8 : IsUtf8 text
  pub value : read text ≡ Some (object members)

-- the value under a field's key
abbrev pub found_at : Field → Members → Option Data
found_at field members = get_member (key_of field) members

abbrev pub number_at : Field → Members → Option ℕ
number_at field members = option_and_then number_in (found_at field members)

abbrev pub integer_at : Field → Members → Option ℤ
integer_at field members = option_and_then integer_in (found_at field members)

abbrev pub text_at : Field → Members → Option (List ℕ)
text_at field members = option_and_then as_str (found_at field members)

-- the key is a field's
abbrev pub IsFieldKey : List ℕ → Type 0
IsFieldKey key = (field : Field) × (key_of field ≡ key)

abbrev pub NamesKind : Members → Kind → Type 0
NamesKind members kind = text_at Op members ≡ Some (name_of kind)

abbrev pub fits : Form → Kind → Members → Field → Bool
fits form kind members field = obeys (rule_of form kind field) field (found_at field members)

-- each field is as the form and the kind want it, and no other key is there
pub record HasShape (form : Form) (kind : Kind) (members : Members) : Type 0 where
  pub fields : (field : Field) → fits form kind members field ≡ true
  pub only : (key : List ℕ) → IsSome (get_member key members) → IsFieldKey key

-- the key is missing, not expected or not accepted: it is that of a field that isn't as wanted, or it is there and no
-- field's
abbrev pub IsBadKey : Form → Kind → Members → List ℕ → Type 0
IsBadKey form kind members key =
    ((field : Field) × (key_of field ≡ key) × (fits form kind members field ≡ false))
    ⊎ (¬ IsFieldKey key × IsSome (get_member key members))

-- the first in byte order
pub record IsFirstBadKey (form : Form) (kind : Kind) (members : Members) (key : List ℕ) : Type 0 where
  pub bad : IsBadKey form kind members key
  pub first : (other : List ℕ) → slice_cmp nat_cmp other key ≡ Less → ¬ IsBadKey form kind members other

-- the key that is named where an object isn't read: `op` where it names no kind, else the first bad key of its kind
abbrev pub IsNamedKey : Form → Members → List ℕ → Type 0
IsNamedKey form members key =
    (((kind : Kind) → ¬ NamesKind members kind) × (key ≡ key_of Op))
    ⊎ ((kind : Kind) × NamesKind members kind × IsFirstBadKey form kind members key)

-- a refusal that names the key, unless memory was refused
abbrev pub NamesKey : OpTextFault → List ℕ → Type 0
NamesKey NotJson key = ⊥
NamesKey (BadShape named) key = string_bytes named ≡ key
NamesKey (BadBody fault) key = ⊥
NamesKey NoMemory key = Unit {0}

-- a refusal for the members' shape, unless memory was refused
abbrev pub IsShapeFault : Form → Members → OpTextFault → Type 0
IsShapeFault form held NotJson = ⊥
IsShapeFault form held (BadShape key) = IsNamedKey form held (string_bytes key)
IsShapeFault form held (BadBody fault) = ⊥
IsShapeFault form held NoMemory = Unit {0}
