-- Which deeds a record may hold. The bounds are the project's own; a label's letters are those of Gerrit's label names.
use Rattle.std.specs.Prelude.{◌≡◌, ℕ, ◌^◌, ◌<◌, ◌≤◌, ◌||◌, ◌==◌, Bool, List, [], ◌∷◌, Option, Some, None, refl, length}
use Rattle.std.specs.Prelude.{map, All, IsTrue, IfSome, FitsSigned, IsUtf8}
use Rattle.std.specs.Int.{w8}
use Rattle.std.specs.Char.{is_ascii_alphanumeric, is_ascii_graphic, to_ascii_lowercase}
use Rattle.std.proofs.Common.{ap, arith}
use Rattle.std.proofs.Math.ListN.{length-map}
use Rattle.std.proofs.lemmas.Bool.Decides.{nat_tests}
use Rattle.std.proofs.lemmas.List.Elements.{All-map, All-weaker}
use Rattle.std.proofs.lemmas.Str.Ascii.{lowercase-lowercase}
use Rattle.review_ops.specs.Deed.{Deed, patch_set, vote, withdraw, abandon, restore, merged, kept_deed, change_of}
use Rattle.review_ops.specs.Deed.{set_of, message_of, parent_of, label_of, voter_of, value_of}

-- changes and patch sets are numbered from 1, within 32 bits
pub record IsNumber (n : ℕ) : Type 0 where
  pub from_one : 1 ≤ n
  pub fits : n < 2 ^ 32

-- an ASCII letter, an ASCII digit or `-`
abbrev pub is_label_byte : ℕ → Bool
is_label_byte byte = is_ascii_alphanumeric byte || byte == 45

pub record IsLabel (text : List ℕ) : Type 0 where
  pub some : 1 ≤ length text
  pub short : length text ≤ 64
  pub letters : All (λ byte. IsTrue (is_label_byte byte)) text

-- a label as it is kept: with no letter in upper case
pub record IsKeptLabel (text : List ℕ) : Type 0 where
  pub label : IsLabel text
  pub lower : map to_ascii_lowercase text ≡ text

-- 1 to 64 visible ASCII characters, with no blank
pub record IsVoter (text : List ℕ) : Type 0 where
  pub some : 1 ≤ length text
  pub short : length text ≤ 64
  pub visible : All (λ byte. IsTrue (is_ascii_graphic byte)) text

-- UTF-8 of at most 64 KiB
pub record IsMessage (text : List ℕ) : Type 0 where
  pub utf8 : IsUtf8 text
  pub short : length text ≤ 65536

-- each field that the deed has is in its range
pub record IsGood (deed : Deed) : Type 0 where
  pub change : IsNumber (change_of deed)
  pub set : IfSome (set_of deed) IsNumber
  pub message : IfSome (message_of deed) IsMessage
  pub parent : IfSome (parent_of deed) IsNumber
  pub label : IfSome (label_of deed) IsKeptLabel
  pub voter : IfSome (voter_of deed) IsVoter
  pub value : IfSome (value_of deed) (FitsSigned w8)

-- each field holds what its type can hold, as the fields of any draft do
pub record FitsFields (deed : Deed) : Type 0 where
  pub change : change_of deed < 2 ^ 32
  pub set : IfSome (set_of deed) (λ n. n < 2 ^ 32)
  pub message : IfSome (message_of deed) IsUtf8
  pub parent : IfSome (parent_of deed) (λ n. n < 2 ^ 32)
  pub value : IfSome (value_of deed) (FitsSigned w8)

-- the deed has no fault
pub record IsFaultless (deed : Deed) : Type 0 where
  pub change : 1 ≤ change_of deed
  pub set : IfSome (set_of deed) (λ n. 1 ≤ n)
  pub label : IfSome (label_of deed) IsLabel
  pub voter : IfSome (voter_of deed) IsVoter
  pub message : IfSome (message_of deed) (λ text. length text ≤ 65536)
  pub parent : IfSome (parent_of deed) (λ n. 1 ≤ n)

-- ---- a draft without faults is kept as a good deed

lower_label_byte : (byte : ℕ) → IsTrue (is_label_byte byte) → IsTrue (is_label_byte (to_ascii_lowercase byte))
lower_label_byte byte h = grind (arith, nat_tests)

lower_again : (text : List ℕ) → map to_ascii_lowercase (map to_ascii_lowercase text) ≡ map to_ascii_lowercase text
lower_again [] = refl
lower_again (byte ∷ text) = λ i. lowercase-lowercase byte i ∷ lower_again text i

pub IsKeptLabel-lower : (text : List ℕ) → IsLabel text → IsKeptLabel (map to_ascii_lowercase text)
IsKeptLabel-lower text h = record {
  label = record {
    some = rw length-map h.some;
    short = rw length-map h.short;
    letters = All-map (λ byte. IsTrue (is_label_byte byte)) to_ascii_lowercase text
        (All-weaker _ (λ byte. IsTrue (is_label_byte (to_ascii_lowercase byte))) lower_label_byte text h.letters);
  };
  lower = lower_again text;
}

numbered : (n : Option ℕ) → IfSome n (λ k. k < 2 ^ 32) → IfSome n (λ k. 1 ≤ k) → IfSome n IsNumber
numbered None fits h = h
numbered (Some n) fits h = record { from_one = h; fits = fits }

pub IsGood-kept_deed : (deed : Deed) → FitsFields deed → IsFaultless deed → IsGood (kept_deed deed)
IsGood-kept_deed (patch_set change set message parent) fits h = record {
  change = record { from_one = h.change; fits = fits.change };
  set = record { from_one = h.set; fits = fits.set };
  message = record { utf8 = fits.message; short = h.message };
  parent = numbered parent fits.parent h.parent;
  label = tt;
  voter = tt;
  value = tt;
}
IsGood-kept_deed (vote change set label voter value) fits h = record {
  change = record { from_one = h.change; fits = fits.change };
  set = record { from_one = h.set; fits = fits.set };
  message = tt;
  parent = tt;
  label = IsKeptLabel-lower label h.label;
  voter = h.voter;
  value = fits.value;
}
IsGood-kept_deed (withdraw change set label voter) fits h = record {
  change = record { from_one = h.change; fits = fits.change };
  set = record { from_one = h.set; fits = fits.set };
  message = tt;
  parent = tt;
  label = IsKeptLabel-lower label h.label;
  voter = h.voter;
  value = tt;
}
IsGood-kept_deed (abandon change) fits h =
    record {
      change = record { from_one = h.change; fits = fits.change };
      set = tt;
      message = tt;
      parent = tt;
      label = tt;
      voter = tt;
      value = tt;
    }
IsGood-kept_deed (restore change) fits h =
    record {
      change = record { from_one = h.change; fits = fits.change };
      set = tt;
      message = tt;
      parent = tt;
      label = tt;
      voter = tt;
      value = tt;
    }
IsGood-kept_deed (merged change) fits h =
    record {
      change = record { from_one = h.change; fits = fits.change };
      set = tt;
      message = tt;
      parent = tt;
      label = tt;
      voter = tt;
      value = tt;
    }

-- ---- a good deed has no fault, and is kept as it is

at_least_one : (n : Option ℕ) → IfSome n IsNumber → IfSome n (λ k. 1 ≤ k)
at_least_one None h = h
at_least_one (Some n) h = h.from_one

short_message : (text : Option (List ℕ)) → IfSome text IsMessage → IfSome text (λ m. length m ≤ 65536)
short_message None h = h
short_message (Some text) h = h.short

any_case : (text : Option (List ℕ)) → IfSome text IsKeptLabel → IfSome text IsLabel
any_case None h = h
any_case (Some text) h = h.label

pub IsFaultless-IsGood : (deed : Deed) → IsGood deed → IsFaultless deed
IsFaultless-IsGood deed good = record {
  change = good.change.from_one;
  set = at_least_one (set_of deed) good.set;
  label = any_case (label_of deed) good.label;
  voter = good.voter;
  message = short_message (message_of deed) good.message;
  parent = at_least_one (parent_of deed) good.parent;
}

pub kept_deed-IsGood : (deed : Deed) → IsGood deed → kept_deed deed ≡ deed
kept_deed-IsGood (patch_set change set message parent) good = refl
kept_deed-IsGood (vote change set label voter value) good =
    ap (λ kept. vote change set kept voter value) good.label.lower
kept_deed-IsGood (withdraw change set label voter) good = ap (λ kept. withdraw change set kept voter) good.label.lower
kept_deed-IsGood (abandon change) good = refl
kept_deed-IsGood (restore change) good = refl
kept_deed-IsGood (merged change) good = refl
