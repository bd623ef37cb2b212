-- What texts of operations and bodies spell. A label may be spelled in any case, and is kept in lower case.
use Rattle.std.specs.Prelude.{◌≡◌, ℕ, List, string_bytes, Some}
use Rattle.serde_json.specs.Data.{Members}
use Rattle.review_ops.specs.Timestamp.{Timestamp}
use Rattle.review_ops.specs.Deed.{Deed, patch_set, vote, withdraw, abandon, restore, merged, change_of, set_of}
use Rattle.review_ops.specs.Deed.{message_of, parent_of, label_of, voter_of, value_of, kept_deed}
use Rattle.review_ops.specs.Good.{IsFaultless}
use Rattle.review_ops.specs.Fault.{IsFirstBodyFault}
use Rattle.review_ops.specs.Operation.{Operation}
use Rattle.op_text.specs.declared.field.Form.{Form}
use Rattle.op_text.specs.declared.field.Form.TheVariants as form
use Rattle.op_text.specs.declared.field.Kind.{Kind}
use Rattle.op_text.specs.declared.field.Kind.TheVariants.{PatchSet, Vote, Withdraw, Abandon, Restore, Merged}
use Rattle.op_text.specs.declared.field.Field.TheVariants.{Change, Label, Message, Parent, Seq, Set, Site, Start, Time}
use Rattle.op_text.specs.declared.field.Field.TheVariants.{Value, Voter}
use Rattle.op_text.specs.declared.fault.OpTextFault.{OpTextFault}
use Rattle.op_text.specs.declared.fault.OpTextFault.TheVariants.{NotJson, BadShape, BadBody, NoMemory}
use Rattle.op_text.specs.Shape.{IsOperationObject, HasShape, IsNamedKey, NamesKind, number_at, integer_at, text_at}

abbrev pub kind_of : Deed → Kind
kind_of (patch_set change set message parent) = PatchSet
kind_of (vote change set label voter value) = Vote
kind_of (withdraw change set label voter) = Withdraw
kind_of (abandon change) = Abandon
kind_of (restore change) = Restore
kind_of (merged change) = Merged

-- the members have the deed's fields, and none that the deed lacks
pub record HoldsDeed (members : Members) (deed : Deed) : Type 0 where
  pub kind : NamesKind members (kind_of deed)
  pub change : number_at Change members ≡ Some (change_of deed)
  pub set : number_at Set members ≡ set_of deed
  pub message : text_at Message members ≡ message_of deed
  pub parent : number_at Parent members ≡ parent_of deed
  pub label : text_at Label members ≡ label_of deed
  pub voter : text_at Voter members ≡ voter_of deed
  pub value : integer_at Value members ≡ value_of deed

pub record HoldsStamp (members : Members) (stamp : Timestamp) : Type 0 where
  pub time : number_at Time members ≡ Some stamp.time
  pub site : number_at Site members ≡ Some stamp.site
  pub start : number_at Start members ≡ Some stamp.start
  pub seq : number_at Seq members ≡ Some stamp.seq

-- the text is an object with exactly the keys of its kind and form, each accepted, which has the deed's fields
pub record SpellsDeed (form : Form) (text : List ℕ) (members : Members) (deed : Deed) : Type 0 where
  pub object : IsOperationObject text members
  pub shape : HasShape form (kind_of deed) members
  pub holds : HoldsDeed members deed

-- the text spells a body, good or not
abbrev pub SpellsBody : List ℕ → Deed → Type 0
SpellsBody text deed = (members : Members) × SpellsDeed form.Body text members deed

-- the text spells this stamp and this deed, good or not
abbrev pub SpellsParts : List ℕ → Timestamp → Deed → Type 0
SpellsParts text stamp deed =
    (members : Members) × SpellsDeed form.Operation text members deed × HoldsStamp members stamp

-- the text spells an operation: its stamp, and a body without faults, which is kept
pub record SpellsOperation (text : List ℕ) (op : Operation) : Type 0 where
  pub members : Members
  pub deed : Deed
  pub spells : SpellsDeed form.Operation text members deed
  pub stamp : HoldsStamp members op.stamp
  pub faultless : IsFaultless deed
  pub kept : op.deed ≡ kept_deed deed

-- What each refusal of a text means. `NoMemory` says nothing about the text.
abbrev pub IsRefusalOf : Form → List ℕ → OpTextFault → Type 0
IsRefusalOf kind text NotJson = (members : Members) → ¬ IsOperationObject text members
IsRefusalOf kind text (BadShape key) =
    (members : Members) × IsOperationObject text members × IsNamedKey kind members (string_bytes key)
-- a body's reading doesn't ask whether it is good
IsRefusalOf form.Body text (BadBody fault) = ⊥
IsRefusalOf form.Operation text (BadBody fault) =
    (members : Members) × (deed : Deed) × SpellsDeed form.Operation text members deed × IsFirstBodyFault fault deed
IsRefusalOf kind text NoMemory = Unit {0}
