-- What a write of a drain whose lines have the time has written, from what its steps did.
use Rattle.std.proofs.Common.{◌≡◌, ℕ, ℤ, ◌+◌, ◌≤◌, Bool, false, List, ◌++◌, length, take, min, Option, None, Some}
use Rattle.std.proofs.Common.{Result, Ok, Err, ap, ◌∙◌, sym, subst, arith, append-nil, append_assoc}
use Rattle.std.specs.Prelude.{OnErr, codes}
use Rattle.std.proofs.lemmas.List.{length-append, length-take, take-take, take_min}
use Rattle.std.proofs.Math.Seq.{take-append-add}
use Rattle.std.specs.Io.KnownBytes.{Appends, Keeps}
use Rattle.jiff_core.specs.declared.timestamp.Timestamp.{Timestamp}
use Rattle.jiff_fmt.specs.declared.temporal.printer.DateTimePrinter.{DateTimePrinter}
use Rattle.jiff_fmt.specs.Printer.{IsTimestampText, options}
use Rattle.jiff_fmt.specs.Text.{datetime_text, zulu_text}
use Rattle.timed_lines.specs.Times.{IsWithinLine, IsStamp, Stamps, WritesFront, WritesPart, is_open}

-- what a printer with a `T` and three places writes of a moment, and a space, is its stamp
pub stamped : (printer : DateTimePrinter) (moment : Timestamp) (text stamp : List ℕ)
    → options printer ≡ (false, 84, Some 3) → IsTimestampText printer moment text → stamp ≡ text ++ codes " "
    → IsStamp (Some moment.nanosecond) stamp
stamped printer moment text stamp is (date, at, shown) joined = (
  date,
  at,
  joined ∙ ap (λ front. front ++ codes " ") (shown ∙ ap (λ o. datetime_text o.0 o.1 o.2 date ++ zulu_text o.0) is)
      ∙ append_assoc (datetime_text false 84 (Some 3) date) (codes "Z") (codes " "),
)

-- a front of a stamp and a front of some bytes is a front of the stamp and the bytes
pub front_of_both : (stamp bytes : List ℕ) (count n : ℕ)
    → (k : ℕ) × (take count (stamp ++ take n bytes) ≡ take k (stamp ++ bytes))
front_of_both stamp bytes count n =
    let part = stamp ++ take n bytes in
    let k = min count (length part) in
    let few : k ≤ length stamp + n = omega (arith, length-append stamp (take n bytes), length-take n bytes) in (
      k,
      sym (take_min count part) ∙ ap (take k) (sym (take-append-add stamp bytes n))
          ∙ take-take k (length stamp + n) (stamp ++ bytes) few,
    )

-- an error has what is known without it
pub at_any_error : {T E P : Type 0} (r : Result T E) → P → OnErr r P
at_any_error (Ok x) p = tt
at_any_error (Err e) p = p

-- what stays has grown by nothing
pub grown_by_nothing : (a b : Option (List ℕ)) (bytes : List ℕ) → Keeps a b → Appends a b (take 0 bytes)
grown_by_nothing None b bytes kept = tt
grown_by_nothing (Some x) None bytes kept = kept
grown_by_nothing (Some x) (Some y) bytes kept = kept ∙ sym (append-nil x)

module _ {M : Type 0} (reads : M → Option ℤ → M → Type 0) (old new : M) (a c : Option (List ℕ)) where
  -- the stamp was written, and a front of a part of the bytes
  pub writes_part : (in_line : Bool) (stamp bytes part : List ℕ) (count n : ℕ) (now_in_line : Bool)
      → Stamps reads in_line old stamp new → Appends a c (stamp ++ take count part) → part ≡ take n bytes → count ≤ n
      → IsWithinLine bytes n → now_in_line ≡ is_open (take count part)
      → WritesPart reads bytes count in_line old a now_in_line new c
  writes_part in_line stamp bytes part count n now_in_line stamps written front few line is =
      let same : take count part ≡ take count bytes = ap (take count) front ∙ take-take count n bytes few in (
        stamp,
        stamps,
        subst (λ text. Appends a c (stamp ++ text)) same written,
        λ k h. line k (omega arith),
        is ∙ ap is_open same,
      )

  -- a front of the stamp and a part of the bytes was written at most
  pub writes_front : (in_line : Bool) (stamp bytes part : List ℕ) (count n : ℕ) (now_in_line : Bool)
      → Stamps reads in_line old stamp new → Appends a c (take count (stamp ++ part)) → part ≡ take n bytes
      → now_in_line ≡ in_line → WritesFront reads bytes in_line old a now_in_line new c
  writes_front in_line stamp bytes part count n now_in_line stamps written front same =
      let both = front_of_both stamp bytes count n in (
        stamp,
        both.0,
        stamps,
        subst (Appends a c) (ap (λ text. take count (stamp ++ text)) front ∙ both.1) written,
        same,
      )
