-- A good deed fits a text.
use Rattle.std.proofs.Common.{ℕ, ◌<◌, ◌^◌, Bool, List, Option, Some, None, IfSome, length, ⊎_elim, arith}
use Rattle.std.proofs.lemmas.Bool.{cases_lt}
use Rattle.std.proofs.lemmas.Bool.Decides.{nat_tests}
use Rattle.std.proofs.lemmas.List.{get_or_past}
use Rattle.std.proofs.lemmas.Str.{IsUtf8-from_ascii}
use Rattle.std.specs.Char.{is_ascii_graphic}
use Rattle.std.specs.Prelude.{IsUtf8, All, IsTrue, slice_index}
use Rattle.review_ops.specs.Deed.{Deed, set_of, message_of, parent_of, label_of, voter_of}
use Rattle.review_ops.specs.Good.{IsGood, IsNumber, IsKeptLabel, IsVoter, IsMessage, is_label_byte}
use Rattle.op_text.specs.Canonical.{FitsText}

ascii_text : (test : ℕ → Bool) → ((byte : ℕ) → IsTrue (test byte) → byte < 128) → (text : List ℕ)
    → All (λ byte. IsTrue (test byte)) text → IsUtf8 text
ascii_text test low text all = IsUtf8-from_ascii text (λ i.
    ⊎_elim (λ within. low (slice_index text i) (all i 0 within)) (λ past. rw (get_or_past text i 0 past) (omega arith))
    (cases_lt i (length text)))

label_utf8 : (text : List ℕ) → IsKeptLabel text → IsUtf8 text
label_utf8 text h = ascii_text is_label_byte (λ byte is. grind (arith, nat_tests)) text h.label.letters

voter_utf8 : (text : List ℕ) → IsVoter text → IsUtf8 text
voter_utf8 text h = ascii_text is_ascii_graphic (λ byte is. grind (arith, nat_tests)) text h.visible

IfSome-weaker : {A : Type 0} (P Q : A → Type 0) → ((x : A) → P x → Q x) → (o : Option A) → IfSome o P → IfSome o Q
IfSome-weaker P Q f None h = tt
IfSome-weaker P Q f (Some x) h = f x h

pub FitsText-IsGood : (deed : Deed) → IsGood deed → FitsText deed
FitsText-IsGood deed good = record {
  change = good.change.fits;
  set = IfSome-weaker IsNumber (λ n. n < 2 ^ 32) (λ n h. h.fits) (set_of deed) good.set;
  message = IfSome-weaker IsMessage IsUtf8 (λ text h. h.utf8) (message_of deed) good.message;
  parent = IfSome-weaker IsNumber (λ n. n < 2 ^ 32) (λ n h. h.fits) (parent_of deed) good.parent;
  label = IfSome-weaker IsKeptLabel IsUtf8 label_utf8 (label_of deed) good.label;
  voter = IfSome-weaker IsVoter IsUtf8 voter_utf8 (voter_of deed) good.voter;
  value = good.value;
}
