-- Texts that are sealed one after the other.
use Rattle.std.proofs.Common.{◌≡◌, ◌⊎◌, inl, inr, ℕ, zero, suc, ◌<◌, ◌+◌, ◌++◌, [], ◌∷◌, ◌==◌, Bool, true, false, List, sym, ◌∙◌, ap, refl, arith, length, take, drop, subst, All, length-drop, take-append-drop, append_assoc, append-nil, zero-add}
use Rattle.std.proofs.lemmas.List.{drop-take, flat_map_more, length-take-le, take-take}
use Rattle.std.proofs.lemmas.List.Elements.{All-append}
use Rattle.std.proofs.lemmas.Bool.{eqb-false, eqb-true}
use Rattle.std.specs.List.{flat_map}
use Rattle.byte_ends.specs.Lines.{as_line}
use Rattle.line_reader.specs.Lines.{HasNoLf}
use Rattle.sealed_ends.specs.Batches.{EndsBatch, batch_bytes}
use Rattle.sealed_ends.specs.PlainFacts.{plain-cons, plain-encoded, plain-nil}
use Rattle.sealed_line.specs.Sealing.{IsUnsealed, Opens, Sealing, after_line, crossed, most_line_bytes, sealed, tag_of}
use Rattle.sealed_line.specs.declared.fault.SealFault.{SealFault}
use Rattle.sealed_line.specs.declared.fault.SealFault.TheVariants as seal
use Rattle.sealed_link.specs.Faults.{wire_fault}
use Rattle.sealed_link.specs.Lines.{IsBatch, IsHeldUp, OpensFront, SealTo, SealsFirst, SealsFront, SendsSealed, with_sealed}
use Rattle.sealed_link.specs.Wires.{Wiring, waiting_limit}
use Rattle.sealed_link.proofs.Opens.{front_more, front_none}

-- ---- texts

seal_more : (old now new : Wiring) (texts : List (List ℕ)) (text : List ℕ) → SealTo old texts now → length now.waiting < waiting_limit
    → new ≡ with_sealed now text → SealTo old (texts ++ text ∷ []) new
seal_more old now new [] text is few next =
    (subst (λ (w : Wiring). length w.waiting < waiting_limit) is few, next ∙ ap (λ w. with_sealed w text) is)
seal_more old now new (t ∷ texts) text is few next = (is.0, seal_more (with_sealed old t) now new texts text is.1 few next)

all_of_one : (text : List ℕ) → IsBatch text → All IsBatch (text ∷ [])
all_of_one text is zero d lt = is
all_of_one text is (suc k) d lt = absurd (omega (arith, lt))

pub seals_first : (old new : Wiring) (text : List ℕ) (count : ℕ) → SealsFirst old text count new → SealsFront old text count new
seals_first old new text count is = record {
  texts = is.lines ∷ [];
  batches = all_of_one is.lines is.batch;
  within = is.within;
  front = is.front ∙ flat_map_more as_line [] [] is.lines;
  all = (is.few, is.all);
}

take-add : (n m : ℕ) (bytes : List ℕ) → take (n + m) bytes ≡ take n bytes ++ take m (drop n bytes)
take-add n m bytes =
    sym (take-append-drop n (take (n + m) bytes)) ∙ ap (λ (l : List ℕ). l ++ drop n (take (n + m) bytes)) (take-take n (n + m) bytes (omega arith))
    ∙ ap (λ (l : List ℕ). take n bytes ++ l) (drop-take n m bytes)

pub seals_more : (old now new : Wiring) (text : List ℕ) (done more : ℕ) → SealsFront old text done now → SealsFirst now (drop done text) more new
    → SealsFront old text (done + more) new
seals_more old now new text done more is first = record {
  texts = is.texts ++ first.lines ∷ [];
  batches = All-append IsBatch is.texts (first.lines ∷ []) is.batches (all_of_one first.lines first.batch);
  within = let a = is.within in let b = first.within in omega (arith, a, b, length-drop done text);
  front = take-add done more text ∙ ap (λ (l : List ℕ). l ++ take more (drop done text)) is.front
      ∙ ap (λ (l : List ℕ). flat_map as_line is.texts ++ l) first.front ∙ flat_map_more as_line [] is.texts first.lines;
  all = seal_more old now new is.texts first.lines is.all first.few first.all;
}

-- ---- what they open to on the other side

sealed_behind : (s next : Sealing) (bytes text more : List ℕ) → OpensFront s bytes text [] next → OpensFront s (bytes ++ more) text more next
sealed_behind s next bytes text more is = record {
  lines = is.lines;
  plain = is.plain;
  front = ap (λ (l : List ℕ). l ++ more) (is.front ∙ append-nil (flat_map as_line is.lines));
  all = is.all;
}

-- one line more, which is the seal of these lines
sealed_more : (s next : Sealing) (bytes text lines : List ℕ) → OpensFront s bytes text [] next → Opens next (sealed next (crossed next lines)) lines
    → OpensFront s (bytes ++ as_line (sealed next (crossed next lines))) (text ++ as_line lines) [] (after_line next)
sealed_more s next bytes text lines is opens =
    let line = sealed next (crossed next lines) in
    front_more s next (bytes ++ as_line line) text (as_line line) line [] lines (sealed_behind s next bytes text (as_line line) is)
    (sym (append-nil (as_line line))) (plain-encoded (crossed next lines ++ tag_of next (crossed next lines))) opens

pub sends_none : (old new : Wiring) (text : List ℕ) → new ≡ old → SendsSealed old text 0 new
sends_none old new text same = record {
  sent = [];
  waits = ap (λ (w : Wiring). w.waiting) same ∙ sym (append-nil old.waiting);
  opens = subst (λ (n : Sealing). OpensFront old.outward [] [] [] n) (sym (ap (λ (w : Wiring). w.outward) same)) (front_none old.outward []);
}

pub sends_more : (old now new : Wiring) (text : List ℕ) (done more : ℕ) → SendsSealed old text done now → SealsFirst now (drop done text) more new
    → SendsSealed old text (done + more) new
sends_more old now new text done more is first =
    let line = sealed now.outward (crossed now.outward first.lines) in
    let sent = is.sent ++ as_line line in
    let whole : take (done + more) text ≡ take done text ++ as_line first.lines =
    take-add done more text ∙ ap (λ (l : List ℕ). take done text ++ l) first.front in
    let opens = sealed_more old.outward now.outward is.sent (take done text) first.lines is.opens first.opens in
    record {
      sent = sent;
      waits = ap (λ (w : Wiring). w.waiting) first.all ∙ ap (λ (l : List ℕ). l ++ as_line line) is.waits ∙ append_assoc old.waiting is.sent (as_line line);
      opens = subst (λ (n : Sealing). OpensFront old.outward sent (take (done + more) text) [] n) (sym (ap (λ (w : Wiring). w.outward) first.all))
          (subst (λ (l : List ℕ). OpensFront old.outward sent l [] (after_line now.outward)) (sym whole) opens);
    }

pub sends_first : (old new : Wiring) (text : List ℕ) (count : ℕ) → SealsFirst old text count new → SendsSealed old text count new
sends_first old new text count first =
    subst (λ (n : ℕ). SendsSealed old text n new) (zero-add count) (sends_more old old new text 0 count (sends_none old old text refl) first)

-- ---- why the first text isn't sealed

-- bytes begin with a line
record HasFirstLine (bytes : List ℕ) : Type 0 where
  line : List ℕ
  rest : List ℕ
  begins : bytes ≡ as_line line ++ rest
  plain : HasNoLf line

first_after : (b : ℕ) (front after : List ℕ) (is : Bool) → (b == 10) ≡ is → HasFirstLine (as_line front ++ after)
    → HasFirstLine (as_line (b ∷ front) ++ after)
first_after b front after true e more = record {
  line = [];
  rest = as_line front ++ after;
  begins = ap (λ (n : ℕ). n ∷ as_line front ++ after) (eqb-true b 10 e);
  plain = plain-nil;
}
first_after b front after false e more = record {
  line = b ∷ more.line;
  rest = more.rest;
  begins = ap (λ (l : List ℕ). b ∷ l) more.begins;
  plain = plain-cons b more.line (eqb-false b 10 e) more.plain;
}

first_line : (front after : List ℕ) → HasFirstLine (as_line front ++ after)
first_line [] after = record { line = []; rest = after; begins = refl; plain = plain-nil }
first_line (b ∷ front) after = first_after b front after (b == 10) refl (first_line front after)

-- a text that is too long is one line
long_first : (s : Sealing) (bytes : List ℕ) (at : ℕ) → EndsBatch batch_bytes bytes at → most_line_bytes < length (take at bytes)
    → (at < batch_bytes) ⊎ HasNoLf (take at bytes) → IsHeldUp s bytes (wire_fault seal.LongLine)
long_first s bytes at ends long (inl lt) = let within = ends.within in absurd (omega (arith, lt, long, length-take-le at bytes (omega (arith, within))))
long_first s bytes at ends long (inr plain) = (take at bytes, drop (at + 1) bytes, ends.whole, plain, long)

pub held_up : (s : Sealing) (bytes : List ℕ) (at : ℕ) (fault : SealFault) → EndsBatch batch_bytes bytes at → IsUnsealed s (take at bytes) fault
    → IsHeldUp s bytes (wire_fault fault)
held_up s bytes at seal.BadSeal ends is = absurd is
held_up s bytes at seal.LongLine ends is = long_first s bytes at ends is ends.few
held_up s bytes at seal.Spent ends is =
    let first = first_line (take at bytes) (drop (at + 1) bytes) in (first.line, first.rest, ends.whole ∙ first.begins, first.plain, is.0)
held_up s bytes at seal.NoMemory ends is =
    let first = first_line (take at bytes) (drop (at + 1) bytes) in (first.line, first.rest, ends.whole ∙ first.begins, first.plain, tt)
