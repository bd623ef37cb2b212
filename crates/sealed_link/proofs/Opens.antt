-- Lines that are opened one after the other.
use Rattle.std.proofs.Common.{◌≡◌, ◌≢◌, ℕ, zero, suc, ◌<◌, ◌≤◌, ◌+◌, ◌++◌, [], ◌∷◌, List, sym, ◌∙◌, ap, refl, arith, length, take, length-append, append_assoc, append-nil, subst, All}
use Rattle.std.proofs.lemmas.List.{flat_map_more, take-append-le}
use Rattle.std.proofs.lemmas.List.Elements.{All-append, All-nil, All-take}
use Rattle.std.specs.List.{flat_map}
use Rattle.byte_ends.specs.Lines.{as_line}
use Rattle.line_reader.specs.Lines.{HasNoLf, IsTooLong}
use Rattle.sealed_ends.specs.Unread.{sealed_limit}
use Rattle.sealed_line.specs.Sealing.{Opens, Sealing, after_line}
use Rattle.sealed_link.specs.Lines.{IsFrontRefused, IsRefusedAfter, IsUnheld, IsUnopenable, KeepsRest, OpenTo, OpensFront}
use Rattle.sealed_link.specs.Wires.{Wiring}
use Rattle.sealed_link.specs.declared.fault.WireFault.{WireFault}
use Rattle.sealed_link.specs.declared.fault.WireFault.TheVariants.{BadLine, LongLine, Spent, NoMemory}

pub open_more : (s next : Sealing) (lines : List (List ℕ)) (text line first : List ℕ) → OpenTo s lines text next → Opens next line first
    → OpenTo s (lines ++ line ∷ []) (text ++ as_line first) (after_line next)
open_more s next [] text line first is opens =
    (first, [], subst (λ n. Opens n line first) is.1 opens, ap (λ (l : List ℕ). l ++ as_line first) is.0 ∙ sym (append-nil (as_line first)), (refl, ap after_line is.1))
open_more s next (l ∷ lines) text line first is opens = (
  is.0,
  is.1 ++ as_line first,
  is.2,
  ap (λ (l : List ℕ). l ++ as_line first) is.3 ∙ append_assoc (as_line is.0) is.1 (as_line first),
  open_more (after_line s) next lines is.1 line first is.4 opens,
)

all_of_one : (line : List ℕ) → HasNoLf line → All HasNoLf (line ∷ [])
all_of_one line plain zero d lt = plain
all_of_one line plain (suc k) d lt = absurd (omega (arith, lt))

pub front_none : (s : Sealing) (bytes : List ℕ) → OpensFront s bytes [] bytes s
front_none s bytes = record { lines = []; plain = All-nil HasNoLf; front = refl; all = (refl, refl) }

pub front_more : (s next : Sealing) (bytes text rest line after first : List ℕ) → OpensFront s bytes text rest next → rest ≡ as_line line ++ after
    → HasNoLf line → Opens next line first → OpensFront s bytes (text ++ as_line first) after (after_line next)
front_more s next bytes text rest line after first is begins plain opens = record {
  lines = is.lines ++ line ∷ [];
  plain = All-append HasNoLf is.lines (line ∷ []) is.plain (all_of_one line plain);
  front = is.front ∙ ap (λ (l : List ℕ). flat_map as_line is.lines ++ l) begins ∙ sym (append_assoc (flat_map as_line is.lines) (as_line line) after)
      ∙ ap (λ (l : List ℕ). l ++ after) (flat_map_more as_line [] is.lines line);
  all = open_more s next is.lines text line first is.all opens;
}

long_line : (limit : ℕ) (bytes line rest : List ℕ) → bytes ≡ as_line line ++ rest → HasNoLf line → limit < length line → IsTooLong limit bytes
long_line limit bytes line rest begins plain more =
    let whole : bytes ≡ line ++ 10 ∷ rest = begins ∙ append_assoc line (10 ∷ []) rest in
    let within : limit + 1 ≤ length line = omega (arith, more) in
    let front : take (limit + 1) bytes ≡ take (limit + 1) line =
    ap (λ (l : List ℕ). take (limit + 1) l) whole ∙ take-append-le (limit + 1) line (10 ∷ rest) within in
    record {
      more = let long = ap (λ (l : List ℕ). length l) whole in omega (arith, long, length-append line (10 ∷ rest), more);
      plain = subst HasNoLf (sym front) (All-take (λ b. b ≢ 10) (limit + 1) line plain);
    }

long_piece : (limit : ℕ) (piece : List ℕ) → HasNoLf piece → limit < length piece → IsTooLong limit piece
long_piece limit piece plain more = record { more = more; plain = All-take (λ b. b ≢ 10) (limit + 1) piece plain }

-- why the first of these lines isn't opened is why the bytes at which it stands aren't
pub refused_line : (s : Sealing) (bytes line rest : List ℕ) (fault : WireFault) → bytes ≡ as_line line ++ rest → HasNoLf line
    → IsUnopenable s line fault → IsFrontRefused s bytes fault
refused_line s bytes line rest BadLine begins plain is = (line, rest, begins, plain, is)
refused_line s bytes line rest LongLine begins plain is = long_line sealed_limit bytes line rest begins plain is
refused_line s bytes line rest Spent begins plain is = is
refused_line s bytes line rest NoMemory begins plain is = is

-- why a piece at the end isn't held
pub refused_piece : (s : Sealing) (piece : List ℕ) (fault : WireFault) → HasNoLf piece → IsUnheld piece fault → IsFrontRefused s piece fault
refused_piece s piece BadLine plain is = absurd is
refused_piece s piece LongLine plain is = long_piece sealed_limit piece plain is
refused_piece s piece Spent plain is = absurd is
refused_piece s piece NoMemory plain is = is

-- a line that is held in part begins with what is held
pub begins_line : (held rest piece after : List ℕ) → rest ≡ as_line piece ++ after → held ++ rest ≡ as_line (held ++ piece) ++ after
begins_line held rest piece after is =
    ap (λ (l : List ℕ). held ++ l) is ∙ sym (append_assoc held (as_line piece) after)
    ∙ ap (λ (l : List ℕ). l ++ after) (sym (append_assoc held piece (10 ∷ [])))

pub kept_then : (a b c : Wiring) → KeepsRest a b → KeepsRest b c → KeepsRest a c
kept_then a b c first second = record {
  fault = second.fault ∙ first.fault;
  outward = second.outward ∙ first.outward;
  waiting = second.waiting ∙ first.waiting;
}

-- ---- the lines so far

pub record IsOpening (old : Wiring) (came into : List ℕ) (now : Wiring) (added rest : List ℕ) : Type 0 where
  pub text : List ℕ
  pub adds : added ≡ into ++ text
  pub front : OpensFront old.inward (old.held ++ came) text (now.held ++ rest) now.inward
  pub kept : KeepsRest old now

module _ (old : Wiring) (came into : List ℕ) (now : Wiring) (added rest : List ℕ) (is : IsOpening old came into now added rest) where
  pub opening_next : (piece after text added_new : List ℕ) → rest ≡ as_line piece ++ after → HasNoLf (now.held ++ piece)
      → Opens now.inward (now.held ++ piece) text → added_new ≡ added ++ as_line text
      → IsOpening old came into (record now { inward = after_line now.inward; held = [] }) added_new after
  opening_next piece after text added_new whole plain opens adds =
      let begins = begins_line now.held rest piece after whole in
      record {
        text = is.text ++ as_line text;
        adds = adds ∙ ap (λ (l : List ℕ). l ++ as_line text) is.adds ∙ append_assoc into is.text (as_line text);
        front = front_more old.inward now.inward (old.held ++ came) is.text (now.held ++ rest) (now.held ++ piece) after text is.front begins plain opens;
        kept = let kept = is.kept in record { fault = kept.fault; outward = kept.outward; waiting = kept.waiting };
      }

  pub opening_refused : (piece after : List ℕ) (fault : WireFault) (added_new : List ℕ) (new : Wiring) → rest ≡ as_line piece ++ after
      → HasNoLf (now.held ++ piece) → IsUnopenable now.inward (now.held ++ piece) fault → added_new ≡ added → KeepsRest now new
      → (text : List ℕ) × (added_new ≡ into ++ text) × (IsRefusedAfter old.inward (old.held ++ came) text fault × KeepsRest old new)
  opening_refused piece after fault added_new new whole plain why same kept =
      let begins = begins_line now.held rest piece after whole in
      let refused = refused_line now.inward (now.held ++ rest) (now.held ++ piece) after fault begins plain why in
      (is.text, same ∙ is.adds, ((now.held ++ rest, now.inward, is.front, refused), kept_then old now new is.kept kept))

  pub opening_unheld : (fault : WireFault) → HasNoLf (now.held ++ rest) → IsUnheld (now.held ++ rest) fault
      → (text : List ℕ) × (added ≡ into ++ text) × (IsRefusedAfter old.inward (old.held ++ came) text fault × KeepsRest old now)
  opening_unheld fault plain why =
      let refused = refused_piece now.inward (now.held ++ rest) fault plain why in
      (is.text, is.adds, ((now.held ++ rest, now.inward, is.front, refused), is.kept))
