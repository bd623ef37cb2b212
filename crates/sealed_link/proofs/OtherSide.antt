-- What is sealed is opened on the other side, and nothing else.
use Rattle.std.proofs.Common.{◌≡◌, ℕ, suc, ◌++◌, [], ◌∷◌, List, sym, ◌∙◌, ap, refl, arith, length, drop, subst, take, All, append_assoc, append-nil}
use Rattle.std.proofs.Math.Seq.{drop-append_seam}
use Rattle.std.specs.List.{flat_map}
use Rattle.byte_ends.specs.Lines.{as_line}
use Rattle.line_reader.specs.Lines.{HasNoLf}
use Rattle.sealed_ends.specs.Opened.{whole_lines}
use Rattle.sealed_ends.specs.OpenedFacts.{line_is, whole_first, whole_lines-none}
use Rattle.sealed_ends.specs.PlainFacts.{plain-nil}
use Rattle.sealed_line.specs.Sealing.{IsNoSeal, Opens, Sealing, after_line}
use Rattle.sealed_link.specs.Lines.{IsOtherSide, IsRefusedAfter, OpenTo, OpensAll, OpensFront, SendsSealed}
use Rattle.sealed_link.specs.Wires.{Wiring}
use Rattle.sealed_link.specs.declared.fault.WireFault.TheVariants.{BadLine}

-- the lines at the front of some bytes are the first that these are cut into
lines_then : (lines : List (List ℕ)) (more : List ℕ) → All HasNoLf lines → whole_lines (flat_map as_line lines ++ more) ≡ lines ++ whole_lines more
lines_then [] more plain = refl
lines_then (line ∷ lines) more plain =
    let front = flat_map as_line lines in
    ap whole_lines (append_assoc (as_line line) front more ∙ append_assoc line (10 ∷ []) (front ++ more))
    ∙ whole_first line (front ++ more) (plain 0 [] (omega arith))
    ∙ ap (λ (l : List (List ℕ)). line ∷ l) (lines_then lines more (λ k d lt. plain (suc k) d (omega (arith, lt))))

lines_all : (bytes : List ℕ) (lines : List (List ℕ)) (rest : List ℕ) → bytes ≡ flat_map as_line lines ++ rest → All HasNoLf lines → HasNoLf rest
    → whole_lines bytes ≡ lines
lines_all bytes lines rest is plain piece =
    ap whole_lines is ∙ lines_then lines rest plain ∙ ap (λ (l : List (List ℕ)). lines ++ l) (whole_lines-none rest piece) ∙ append-nil lines

-- a line has one text
one_text : (s : Sealing) (line a b : List ℕ) → Opens s line a → Opens s line b → a ≡ b
one_text s line a b first second = let one = line_is s line a first in let two = line_is s line b second in cc (one, two)

record IsSame (text other : List ℕ) (next later : Sealing) : Type 0 where
  pub texts : text ≡ other
  pub seals : next ≡ later

open_same : (s : Sealing) (lines : List (List ℕ)) (text other : List ℕ) (next later : Sealing) → OpenTo s lines text next → OpenTo s lines other later
    → IsSame text other next later
open_same s [] text other next later a b = record { texts = a.0 ∙ sym b.0; seals = a.1 ∙ sym b.1 }
open_same s (line ∷ lines) text other next later a b =
    let first = one_text s line a.0 b.0 a.2 b.2 in
    let more = open_same (after_line s) lines a.1 b.1 next later a.4 b.4 in
    let texts = more.texts in
    record { texts = a.3 ∙ ap (λ (l : List ℕ). as_line l ++ a.1) first ∙ ap (λ (l : List ℕ). as_line b.0 ++ l) texts ∙ sym b.3; seals = more.seals }

-- bytes that open whole open to nothing else
pub record OpensSame (text other rest : List ℕ) (next later : Sealing) : Type 0 where
  pub texts : other ≡ text
  pub seals : later ≡ next
  pub none : rest ≡ []

pub opens_same : (s next later : Sealing) (bytes text other rest : List ℕ) → OpensFront s bytes text [] next → OpensFront s bytes other rest later
    → HasNoLf rest → OpensSame text other rest next later
opens_same s next later bytes text other rest a b piece =
    let cut = lines_all bytes a.lines [] a.front a.plain plain-nil in
    let again = lines_all bytes b.lines rest b.front b.plain piece in
    let lines : a.lines ≡ b.lines = sym cut ∙ again in
    let is = open_same s b.lines text other next later (subst (λ (l : List (List ℕ)). OpenTo s l text next) lines a.all) b.all in
    let front : flat_map as_line b.lines ++ [] ≡ flat_map as_line b.lines ++ rest =
    ap (λ (l : List (List ℕ)). flat_map as_line l ++ []) (sym lines) ∙ sym a.front ∙ b.front in
    record {
      texts = sym is.texts;
      seals = sym is.seals;
      none = sym (drop-append_seam (flat_map as_line b.lines) rest) ∙ ap (drop (length (flat_map as_line b.lines))) (sym front)
          ∙ drop-append_seam (flat_map as_line b.lines) [];
    }

-- the line that stands next is opened
opens_next : (s next later : Sealing) (lines more : List (List ℕ)) (line text other : List ℕ) → OpenTo s (lines ++ line ∷ more) text next
    → OpenTo s lines other later → (first : List ℕ) × Opens later line first
opens_next s next later [] more line text other a b = (a.0, subst (λ (n : Sealing). Opens n line a.0) (sym b.1) a.2)
opens_next s next later (l ∷ lines) more line text other a b = opens_next (after_line s) next later lines more line a.1 b.1 a.4 b.4

-- none of the lines of bytes that open whole is badly sealed
pub none_is_bad : (s next later : Sealing) (bytes text other rest line after : List ℕ) → OpensFront s bytes text [] next
    → OpensFront s bytes other rest later → rest ≡ as_line line ++ after → HasNoLf line → IsNoSeal later line → ⊥
none_is_bad s next later bytes text other rest line after a b begins plain bad =
    let cut = lines_all bytes a.lines [] a.front a.plain plain-nil in
    let whole : whole_lines rest ≡ line ∷ whole_lines after =
    ap whole_lines (begins ∙ append_assoc line (10 ∷ []) after) ∙ whole_first line after plain in
    let lines : a.lines ≡ b.lines ++ line ∷ whole_lines after =
    sym cut ∙ ap whole_lines b.front ∙ lines_then b.lines rest b.plain ∙ ap (λ (l : List (List ℕ)). b.lines ++ l) whole in
    let opens = opens_next s next later b.lines (whole_lines after) line text other (subst (λ (l : List (List ℕ)). OpenTo s l text next) lines a.all) b.all in
    let is = opens.1 in
    bad is.cipher is.bytes is.is

-- ---- two wires

front_there : (old other : Wiring) (sent text rest : List ℕ) (next : Sealing) → IsOtherSide old other
    → OpensFront other.inward (other.held ++ sent) text rest next → OpensFront old.outward sent text rest next
front_there old other sent text rest next side is =
    subst (λ (s : Sealing). OpensFront s sent text rest next) side.next
    (subst (λ (h : List ℕ). OpensFront other.inward (h ++ sent) text rest next) side.held is)

pub other_opens : (old new other after : Wiring) (text added : List ℕ) (count : ℕ) (sends : SendsSealed old text count new) → IsOtherSide old other
    → OpensAll other sends.sent added after → (added ≡ take count text) × IsOtherSide new after
other_opens old new other after text added count sends side came =
    let front = front_there old other sends.sent added after.held after.inward side came.front in
    let same = opens_same old.outward new.outward after.inward sends.sent (take count text) added after.held sends.opens front came.piece in
    (same.texts, record { next = same.seals; held = same.none })

pub other_is_good : (old new other : Wiring) (text added : List ℕ) (count : ℕ) (sends : SendsSealed old text count new) → IsOtherSide old other
    → IsRefusedAfter other.inward (other.held ++ sends.sent) added BadLine → ⊥
other_is_good old new other text added count sends side is =
    let front = front_there old other sends.sent added is.0 is.1 side is.2 in
    let bad = is.3 in
    none_is_bad old.outward new.outward is.1 sends.sent (take count text) added is.0 bad.0 bad.1 sends.opens front bad.2 bad.3 bad.4
