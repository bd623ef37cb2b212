-- The text of an operation or a body as it is written, by its parts; for private clauses.
use Rattle.std.specs.Prelude.{◌≡◌, ℕ, ◌<◌, ◌^◌, List, [], ◌∷◌, ◌++◌, Option, Some, None, IfSome, IsUtf8, FitsSigned, option_map}
use Rattle.std.specs.Prelude.{decimal, codes}
use Rattle.std.specs.Int.{w8}
use Rattle.json.specs.Print.{quoted}
use Rattle.serde_json.specs.Data.{Data, object}
use Rattle.serde_json.specs.Written.{compact_text}
use Rattle.review_ops.specs.Timestamp.{Timestamp}
use Rattle.review_ops.specs.Deed.{Deed, change_of, set_of, message_of, parent_of, label_of, voter_of, value_of}
use Rattle.op_text.specs.declared.field.Field.{Field}
use Rattle.op_text.specs.declared.field.Field.TheVariants.{Label, Message, Op, Parent, Seq, Set, Site, Start, Time}
use Rattle.op_text.specs.declared.field.Field.TheVariants.{Value, Voter}
use Rattle.op_text.specs.Field.{key_of}
use Rattle.op_text.specs.Text.{members_of}

-- the text of a deed, with a stamp or without
unfoldable pub written_text : Option Timestamp → Deed → List ℕ
written_text stamp deed = compact_text (object (members_of stamp deed))

-- a number behind a literal, if there is one, and the rest
abbrev pub optional_text : List ℕ → Option ℕ → List ℕ → List ℕ
optional_text literal None rest = rest
optional_text literal (Some n) rest = literal ++ (decimal n ++ rest)

abbrev pub seq_of : Option Timestamp → Option ℕ
seq_of stamp = option_map (λ t. t.seq) stamp

-- the site, the start and the time of a stamp, if there is one
abbrev pub place_text : Option Timestamp → List ℕ → List ℕ
place_text None rest = rest
place_text (Some t) rest = codes ",\"site\":" ++ (decimal t.site ++ (codes ",\"start\":" ++ (decimal t.start
    ++ (codes ",\"time\":" ++ (decimal t.time ++ rest)))))

abbrev pub stamp_text : Option Timestamp → List ℕ → List ℕ
stamp_text stamp rest = optional_text (codes ",\"seq\":") (seq_of stamp) (place_text stamp rest)

-- a stamp, if there is one, with the number of a patch set in it
abbrev pub set_text : Option Timestamp → ℕ → List ℕ → List ℕ
set_text stamp set rest = optional_text (codes ",\"seq\":") (seq_of stamp) (codes ",\"set\":" ++ (decimal set ++ place_text stamp rest))

abbrev pub change_front : ℕ → List ℕ → List ℕ
change_front change rest = codes "{\"change\":" ++ (decimal change ++ rest)

abbrev pub labelled_front : ℕ → List ℕ → List ℕ → List ℕ
labelled_front change label rest =
    change_front change (codes ",\"label\":" ++ (quoted label ++ (codes ",\"op\":\"" ++ rest)))

-- each field holds what its type can: numbers are within their bits, and texts are UTF-8
pub record FitsText (deed : Deed) : Type 0 where
  pub change : change_of deed < 2 ^ 32
  pub set : IfSome (set_of deed) (λ n. n < 2 ^ 32)
  pub message : IfSome (message_of deed) IsUtf8
  pub parent : IfSome (parent_of deed) (λ n. n < 2 ^ 32)
  pub label : IfSome (label_of deed) IsUtf8
  pub voter : IfSome (voter_of deed) IsUtf8
  pub value : IfSome (value_of deed) (FitsSigned w8)

-- a member behind another, if it has a value
abbrev pub member_text : List ℕ → Option Data → List ℕ
member_text key None = []
member_text key (Some d) = 44 ∷ (quoted key ++ 58 ∷ compact_text d)

abbrev pub members_texts : List Field → (Field → Option Data) → List ℕ
members_texts [] values = []
members_texts (field ∷ fields) values = member_text (key_of field) (values field) ++ members_texts fields values

-- the fields behind the change, in byte order of their keys
abbrev pub later_fields : List Field
later_fields = Label ∷ Message ∷ Op ∷ Parent ∷ Seq ∷ Set ∷ Site ∷ Start ∷ Time ∷ Value ∷ Voter ∷ []

-- something was added at the end
pub record Extends (old new : List ℕ) : Type 0 where
  pub more : List ℕ
  pub is : new ≡ old ++ more
