-- What is left of a source stays what it was, whatever is read, opened and handed out.
use Rattle.std.proofs.Common.{◌≡◌, ℕ, ◌<◌, ◌≤◌, ◌-◌, ◌++◌, [], List, Option, Some, None, sym, ◌∙◌, ap, arith, length, take, drop, ◌≢◌, subst, length-append, append_assoc, take-append-drop, length-drop, min}
use Rattle.std.proofs.lemmas.List.{length-take-le, nil_from_length}
use Rattle.std.proofs.lemmas.List.Elements.{All-append}
use Rattle.std.proofs.Math.Seq.{take-append_seam, drop-append_seam}
use Rattle.std.specs.Io.KnownBytes.{Consumes, IsAtEnd, Keeps}
use Rattle.byte_ends.specs.Lines.{as_line}
use Rattle.line_reader.specs.Lines.{HasNoLf}
use Rattle.sealed_line.specs.Sealing.{Opens, Sealing, after_line}
use Rattle.sealed_ends.specs.OpenedFacts.{opened_first}
use Rattle.sealed_ends.specs.Opened.{left_of, opened, opened_texts, whole_lines}

pub kept_opened : (s : Sealing) (held line rest text : List ℕ) (a : Option (List ℕ)) → held ≡ as_line line ++ rest → HasNoLf line
    → Opens s line text → Keeps (left_of [] s held a) (left_of (as_line text) (after_line s) rest a)
kept_opened s held line rest text None whole plain is = tt
kept_opened s held line rest text (Some x) whole plain is =
    sym (ap (λ h. opened s (h ++ x)) whole ∙ ap (opened s) (append_assoc (as_line line) rest x)
    ∙ opened_first s line (rest ++ x) text plain is)

pub handed_out : (ready : List ℕ) (s : Sealing) (held : List ℕ) (n : ℕ) (a : Option (List ℕ))
    → Consumes (left_of ready s held a) (left_of (drop n ready) s held a) (take n ready)
handed_out ready s held n None = tt
handed_out ready s held n (Some x) =
    ap (λ l. l ++ opened s (held ++ x)) (sym (take-append-drop n ready)) ∙ append_assoc (take n ready) (drop n ready) (opened s (held ++ x))

pub kept_then : (a b c : Option (List ℕ)) (bytes : List ℕ) → Keeps a b → Consumes b c bytes → Consumes a c bytes
kept_then None b c bytes p q = tt
kept_then (Some x) None c bytes p q = absurd p
kept_then (Some x) (Some y) None bytes p q = absurd q
kept_then (Some x) (Some y) (Some z) bytes p q = sym p ∙ q

pub left_at_end : (s : Sealing) (a : Option (List ℕ)) → IsAtEnd a → IsAtEnd (left_of [] s [] a)
unfolding opened_texts whole_lines
left_at_end s None is = tt
left_at_end s (Some x) is = ap (opened s) is

pub handed_bytes : (copied rest into ready : List ℕ) (n : ℕ) → copied ≡ take n ready → length copied ≡ length (take n into) → n ≤ length into
    → take n (copied ++ rest) ≡ take n ready
handed_bytes copied rest into ready n is long within =
    let count : n ≡ length copied = sym (long ∙ length-take-le n into within) in
    ap (λ m. take m (copied ++ rest)) count ∙ take-append_seam copied rest ∙ is

pub none_ready : (copied into ready : List ℕ) (n : ℕ) → length copied ≡ length (take n into) → n ≡ 0 → n ≡ min (length ready) (length into)
    → 0 < length (copied ++ drop n into) → ready ≡ []
none_ready copied into ready n long none least some =
    let whole = length-append copied (drop n into) in
    let rest = length-drop n into in
    let taken = length-take-le n into (omega (arith, none)) in
    nil_from_length ready (omega (arith, whole, rest, taken, long, none, least, some))

-- what came last has no LF, nor has what was held
pub plain_more : (old came new : List ℕ) (n : ℕ) → length came ≡ n → new ≡ old ++ came → HasNoLf old → HasNoLf (drop (length new - n) new) → HasNoLf new
plain_more old came new n long is first last =
    let place : length new - n ≡ length old = omega (arith, ap (λ (l : List ℕ). length l) is, length-append old came, long) in
    let rest : drop (length new - n) new ≡ came =
    ap (λ k. drop k new) place ∙ ap (λ (l : List ℕ). drop (length old) l) is ∙ drop-append_seam old came in
    subst HasNoLf (sym is) (All-append (λ b. b ≢ 10) old came first (subst HasNoLf rest last))
