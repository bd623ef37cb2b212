-- What an operation does to a change, in the terms of Gerrit's review:
-- https://gerrit-review.googlesource.com/Documentation/config-labels.html
use Rattle.std.specs.Prelude.{ℕ, ℤ, List, Option, Some, None, map}
use Rattle.std.specs.Char.{to_ascii_lowercase}
use Rattle.std.specs.declared.cmp.Ordering.{Ordering}
use Rattle.std.specs.Ordering.{nat_cmp, int_cmp, ordering_then}
use Rattle.std.specs.Option.{option_cmp}
use Rattle.std.specs.Cmp.Lexicographic.{slice_cmp}

pub data Deed : Type 0 where
  -- a patch set is uploaded, with its commit message and the change of its Git parent, where it names one
  patch_set : (change set : ℕ) (message : List ℕ) (parent : Option ℕ) → Deed
  -- a voter scores a label of a patch set
  vote : (change set : ℕ) (label voter : List ℕ) (value : ℤ) → Deed
  -- a voter takes the score back
  withdraw : (change set : ℕ) (label voter : List ℕ) → Deed
  abandon : (change : ℕ) → Deed
  restore : (change : ℕ) → Deed
  merged : (change : ℕ) → Deed

-- ---- the fields that a deed has

abbrev pub change_of : Deed → ℕ
change_of (patch_set change set message parent) = change
change_of (vote change set label voter value) = change
change_of (withdraw change set label voter) = change
change_of (abandon change) = change
change_of (restore change) = change
change_of (merged change) = change

abbrev pub set_of : Deed → Option ℕ
set_of (patch_set change set message parent) = Some set
set_of (vote change set label voter value) = Some set
set_of (withdraw change set label voter) = Some set
set_of (abandon change) = None
set_of (restore change) = None
set_of (merged change) = None

abbrev pub message_of : Deed → Option (List ℕ)
message_of (patch_set change set message parent) = Some message
message_of (vote change set label voter value) = None
message_of (withdraw change set label voter) = None
message_of (abandon change) = None
message_of (restore change) = None
message_of (merged change) = None

abbrev pub parent_of : Deed → Option ℕ
parent_of (patch_set change set message parent) = parent
parent_of (vote change set label voter value) = None
parent_of (withdraw change set label voter) = None
parent_of (abandon change) = None
parent_of (restore change) = None
parent_of (merged change) = None

abbrev pub label_of : Deed → Option (List ℕ)
label_of (patch_set change set message parent) = None
label_of (vote change set label voter value) = Some label
label_of (withdraw change set label voter) = Some label
label_of (abandon change) = None
label_of (restore change) = None
label_of (merged change) = None

abbrev pub voter_of : Deed → Option (List ℕ)
voter_of (patch_set change set message parent) = None
voter_of (vote change set label voter value) = Some voter
voter_of (withdraw change set label voter) = Some voter
voter_of (abandon change) = None
voter_of (restore change) = None
voter_of (merged change) = None

abbrev pub value_of : Deed → Option ℤ
value_of (patch_set change set message parent) = None
value_of (vote change set label voter value) = Some value
value_of (withdraw change set label voter) = None
value_of (abandon change) = None
value_of (restore change) = None
value_of (merged change) = None

-- the deed as it is kept: with its label in lower case, so that labels which differ in case alone are one (the
-- project's own)
abbrev pub kept_deed : Deed → Deed
kept_deed (patch_set change set message parent) = patch_set change set message parent
kept_deed (vote change set label voter value) = vote change set (map to_ascii_lowercase label) voter value
kept_deed (withdraw change set label voter) = withdraw change set (map to_ascii_lowercase label) voter
kept_deed (abandon change) = abandon change
kept_deed (restore change) = restore change
kept_deed (merged change) = merged change

-- ---- the order of deeds

-- the kinds in their order
abbrev pub kind_of : Deed → ℕ
kind_of (patch_set change set message parent) = 0
kind_of (vote change set label voter value) = 1
kind_of (withdraw change set label voter) = 2
kind_of (abandon change) = 3
kind_of (restore change) = 4
kind_of (merged change) = 5

-- by kind, then field by field; texts compare by bytes, and no parent is least
abbrev pub deed_cmp : Deed → Deed → Ordering
deed_cmp (patch_set c s m p) (patch_set d t n q) = ordering_then (nat_cmp c d)
    (ordering_then (nat_cmp s t) (ordering_then (slice_cmp nat_cmp m n) (option_cmp nat_cmp p q)))
deed_cmp (vote c s l v x) (vote d t k w y) = ordering_then (nat_cmp c d) (ordering_then (nat_cmp s t) (ordering_then (slice_cmp nat_cmp l k) (ordering_then (slice_cmp nat_cmp v w) (int_cmp x y))))
deed_cmp (withdraw c s l v) (withdraw d t k w) = ordering_then (nat_cmp c d)
    (ordering_then (nat_cmp s t) (ordering_then (slice_cmp nat_cmp l k) (slice_cmp nat_cmp v w)))
deed_cmp (abandon c) (abandon d) = nat_cmp c d
deed_cmp (restore c) (restore d) = nat_cmp c d
deed_cmp (merged c) (merged d) = nat_cmp c d
deed_cmp a b = nat_cmp (kind_of a) (kind_of b)
