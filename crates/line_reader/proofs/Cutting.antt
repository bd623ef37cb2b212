-- What the first LF among the bytes that came is among all that are held.
use Rattle.std.proofs.Common.{◌≡◌, ◌≢◌, ℕ, ◌+◌, ◌-◌, Bool, true, false, List, [], ◌∷◌, ◌++◌, Result, Ok, Err, length}
use Rattle.std.proofs.Common.{take, drop, sym, ap, ◌∙◌, subst, arith, append_assoc, append-nil, length-append}
use Rattle.std.proofs.Math.Seq.{take-append-add, drop-append-add, drop-append_seam}
use Rattle.std.proofs.lemmas.List.{take_rest}
use Rattle.std.proofs.lemmas.List.Elements.{All-append}
use Rattle.byte_ends.specs.Lines.{as_line}
use Rattle.byte_ends.specs.declared.faults.BytesFault.{BytesFault}
use Rattle.byte_ends.specs.declared.faults.BytesFault.TheVariants.{TooLong, ReadFault, NoMemory}
use Rattle.line_reader.specs.Lines.{HasNoLf, HasFirstLf, Hands, Reading}

-- it comes after what was held before, which has none
pub first_lf_later : (held came all : List ℕ) (at : ℕ) → HasNoLf held → all ≡ held ++ came
    → HasFirstLf (drop (length held) all) at → HasFirstLf all (length held + at)
first_lf_later held came all at plain is first =
    let rest : drop (length held) all ≡ came = ap (drop (length held)) is ∙ drop-append_seam held came in
    let found : HasFirstLf came at = subst (λ l. HasFirstLf l at) rest first in
    let front : take (length held + at) all ≡ held ++ take at came = ap (take (length held + at)) is ∙ take-append-add held came at in
    let back : drop (length held + at + 1) all ≡ drop (at + 1) came =
    ap (λ n. drop n all) (let e : length held + at + 1 ≡ length held + (at + 1) = omega arith in e) ∙ ap (drop (length held + (at + 1))) is ∙ drop-append-add held came (at + 1) in record {
      within = omega (arith, ap length is, length-append held came, found.within);
      before = subst HasNoLf (sym front) (All-append (λ byte. byte ≢ 10) held (take at came) plain found.before);
      whole =
          is ∙ ap (λ l. held ++ l) found.whole ∙ sym (append_assoc held (as_line (take at came)) (drop (at + 1) came))
          ∙ ap (λ l. l ++ drop (at + 1) came) (sym (append_assoc held (take at came) (10 ∷ [])))
          ∙ ap (λ l. as_line l ++ drop (at + 1) came) (sym front)
          ∙ ap (λ l. as_line (take (length held + at) all) ++ l) (sym back);
    }

-- none is among what was held and what came
pub still_plain : (held came all : List ℕ) → HasNoLf held → all ≡ held ++ came → HasNoLf (drop (length held) all)
    → HasNoLf all
still_plain held came all plain is more =
    subst HasNoLf (sym is) (All-append (λ byte. byte ≢ 10) held came plain (subst HasNoLf (ap (drop (length held)) is ∙ drop-append_seam held came) more))

-- what is handed out of all that is held is handed out once that came
pub hands_later : (old mid new : Reading) (came : List ℕ) (result : Result Bool BytesFault)
    → mid.held ≡ old.held ++ came → mid.limit ≡ old.limit → Hands mid [] result new → Hands old came result new
hands_later old mid new came (Ok true) held limit h = rw (← limit, ← held, ← append-nil mid.held) h
hands_later old mid new came (Ok false) held limit h = rw (← limit, ← held, ← append-nil mid.held) h
hands_later old mid new came (Err TooLong) held limit h = rw (← limit, ← held, ← append-nil mid.held) h
hands_later old mid new came (Err ReadFault) held limit h = h ∙ append-nil mid.held ∙ held
hands_later old mid new came (Err NoMemory) held limit h = h ∙ append-nil mid.held ∙ held

-- a slice past what was held is the rest
pub past_is_rest : (held all scanned read : List ℕ) → scanned ≡ held → read ≡ all
    → take (length read - length scanned) (drop (length scanned) read) ≡ drop (length held) all
past_is_rest held all scanned read is also =
    take_rest read (length scanned) ∙ ap (λ l. drop (length l) read) is ∙ ap (drop (length held)) also
