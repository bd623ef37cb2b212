-- What is written, kind by kind, is the parts that are read.
use Rattle.std.proofs.Common.{◌≡◌, ℕ, ℤ, pos, negsuc, List, ◌++◌, Option, Some, None, refl}
use Rattle.std.specs.Fmt.{signed_decimal}
use Rattle.std.specs.Prelude.{codes}
use Rattle.json.specs.Print.{escape_byte, quoted}
use Rattle.review_ops.specs.Timestamp.{Timestamp}
use Rattle.review_ops.specs.Deed.{patch_set, vote, withdraw, abandon, restore, merged}
use Rattle.op_text.specs.Canonical.{change_front, labelled_front, optional_text, set_text, stamp_text, written_text}

pub merged_text : (stamp : Option Timestamp) (change : ℕ)
    → change_front change (codes ",\"op\":\"merged\"" ++ stamp_text stamp (codes "}"))
    ≡ written_text stamp (merged change)
unfolding written_text escape_byte
merged_text None change = refl
merged_text (Some t) change = refl

pub abandon_text : (stamp : Option Timestamp) (change : ℕ)
    → change_front change (codes ",\"op\":\"abandon\"" ++ stamp_text stamp (codes "}"))
    ≡ written_text stamp (abandon change)
unfolding written_text escape_byte
abandon_text None change = refl
abandon_text (Some t) change = refl

pub restore_text : (stamp : Option Timestamp) (change : ℕ)
    → change_front change (codes ",\"op\":\"restore\"" ++ stamp_text stamp (codes "}"))
    ≡ written_text stamp (restore change)
unfolding written_text escape_byte
restore_text None change = refl
restore_text (Some t) change = refl

pub vote_text : (stamp : Option Timestamp) (change set : ℕ) (label voter : List ℕ) (value : ℤ)
    → labelled_front change label (codes "vote\"" ++ set_text stamp set (codes ",\"value\":" ++ (signed_decimal value ++ (codes ",\"voter\":" ++ (quoted voter ++ codes "}")))))
    ≡ written_text stamp (vote change set label voter value)
unfolding written_text escape_byte
vote_text None change set label voter (pos n) = refl
vote_text None change set label voter (negsuc n) = refl
vote_text (Some t) change set label voter (pos n) = refl
vote_text (Some t) change set label voter (negsuc n) = refl

pub withdraw_text : (stamp : Option Timestamp) (change set : ℕ) (label voter : List ℕ)
    → labelled_front change label (codes "withdraw\"" ++ set_text stamp set (codes ",\"voter\":" ++ (quoted voter ++ codes "}")))
    ≡ written_text stamp (withdraw change set label voter)
unfolding written_text escape_byte
withdraw_text None change set label voter = refl
withdraw_text (Some t) change set label voter = refl

pub patch_set_text : (stamp : Option Timestamp) (change set : ℕ) (message : List ℕ) (parent : Option ℕ)
    → change_front change (codes ",\"message\":" ++ (quoted message ++ (codes ",\"op\":\"patchset\"" ++ optional_text (codes ",\"parent\":") parent (set_text stamp set (codes "}")))))
    ≡ written_text stamp (patch_set change set message parent)
unfolding written_text escape_byte
patch_set_text None change set message None = refl
patch_set_text None change set message (Some parent) = refl
patch_set_text (Some t) change set message None = refl
patch_set_text (Some t) change set message (Some parent) = refl
