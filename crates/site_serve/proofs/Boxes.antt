-- What was read of a session and what it was answered: where its lines end, and what is added.
use Rattle.std.proofs.Common.{◌≡◌, ◌≢◌, ℕ, ◌+◌, ◌-◌, ◌≤◌, List, [], ◌∷◌, ◌++◌, Some, Result, Err, length}
use Rattle.std.proofs.Common.{take, drop, sym, ap, ◌∙◌, subst, arith, inl, inr, append_assoc, length-drop, take-add, take-append-drop, drop-drop}
use Rattle.std.proofs.lemmas.List.{drop-append-le, take_rest}
use Rattle.std.proofs.lemmas.List.Elements.{All-append}
use Rattle.byte_ends.specs.Lines.{as_line}
use Rattle.line_reader.specs.Lines.{HasNoLf, HasFirstLf}
use Rattle.gossip_line.specs.Answers.{Sends}
use Rattle.gossip_line.specs.declared.fault.LineFault.{LineFault}
use Rattle.gossip_line.specs.declared.fault.LineFault.TheVariants.{WriteFault}
use Rattle.site_serve.specs.Outboxes.{Adds, IsRefusingMemory}

-- what is written after what waits is added to it
pub adds_of : {T : Type 0} (text : List ℕ) (wanted : Result T LineFault) (sent : ℕ) (before after : List ℕ)
    (failed failures : ℕ) (said result : Result T LineFault) → sent ≤ length before
    → Sends text wanted (Some before) (Some after) failed failures said → IsRefusingMemory said result
    → Adds text wanted (drop sent before) (drop sent after) result
adds_of text wanted sent before after failed failures (Err WriteFault) result within cut refusing =
    inr (refusing, (cut.count, cut.proper, ap (drop sent) cut.prefix ∙ drop-append-le sent before (take cut.count text) within))
adds_of text wanted sent before after failed failures said result within h refusing =
    inl (refusing ∙ h.0, ap (drop sent) h.1.whole ∙ drop-append-le sent before text within)

-- the first LF of what comes after bytes with none is the first of all
pub first_after : (held : List ℕ) (count at : ℕ) → count ≤ length held → HasNoLf (take count held)
    → HasFirstLf (drop count held) at → HasFirstLf held (count + at)
first_after held count at within plain found =
    let parts : held ≡ take count held ++ drop count held = sym (take-append-drop count held) in
    let front : take (count + at) held ≡ take count held ++ take at (drop count held) = take-add count at held in
    let back : drop (count + at + 1) held ≡ drop (at + 1) (drop count held) =
    ap (λ n. drop n held) (let e : count + at + 1 ≡ count + (at + 1) = omega arith in e) ∙ sym (drop-drop (at + 1) count held) in record {
      within = omega (arith, length-drop count held, found.within);
      before = subst HasNoLf (sym front) (All-append (λ byte. byte ≢ 10) (take count held) (take at (drop count held)) plain found.before);
      whole =
          parts ∙ ap (λ l. take count held ++ l) found.whole
          ∙ sym (append_assoc (take count held) (as_line (take at (drop count held))) (drop (at + 1) (drop count held)))
          ∙ ap (λ l. l ++ drop (at + 1) (drop count held)) (sym (append_assoc (take count held) (take at (drop count held)) (10 ∷ [])))
          ∙ ap (λ l. as_line l ++ drop (at + 1) (drop count held)) (sym front)
          ∙ ap (λ l. as_line (take (count + at) held) ++ l) (sym back);
    }

-- where neither has one
pub plain_after : (held : List ℕ) (count : ℕ) → HasNoLf (take count held) → HasNoLf (drop count held) → HasNoLf held
plain_after held count plain more =
    subst HasNoLf (take-append-drop count held) (All-append (λ byte. byte ≢ 10) (take count held) (drop count held) plain more)

-- a slice past what is done and scanned
pub rest_is : (bytes read : List ℕ) (next scanned : ℕ) → read ≡ bytes
    → take (length read - (next + scanned)) (drop (next + scanned) read) ≡ drop scanned (drop next bytes)
rest_is bytes read next scanned is =
    take_rest read (next + scanned) ∙ ap (drop (next + scanned)) is ∙ sym (drop-drop scanned next bytes)

-- all that is left is scanned
pub all_plain : (bytes : List ℕ) (next count : ℕ) → count ≡ length bytes → HasNoLf (drop next bytes)
    → HasNoLf (take (count - next) (drop next bytes))
all_plain bytes next count is plain =
    subst HasNoLf (sym (ap (λ n. take (n - next) (drop next bytes)) is ∙ take_rest bytes next)) plain
