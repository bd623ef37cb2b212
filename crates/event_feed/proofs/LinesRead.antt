-- What the reader of lines answers, and that a line is too long.
use Rattle.std.proofs.Common.{◌≡◌, ◌+◌, ◌<◌, ◌≤◌, ℕ, Bool, true, false, List, [], ◌∷◌, ◌++◌, Ok, Err, length}
use Rattle.std.proofs.Common.{take, get_or, ltb, sym, ap, ◌∙◌, subst, arith, append_assoc}
use Rattle.std.proofs.Math.ListN.{get_or-append}
use Rattle.std.proofs.Math.Seq.{get_or-append_seam}
use Rattle.std.proofs.lemmas.Bool.{ltb-true, ltb-false}
use Rattle.std.proofs.lemmas.List.{get_or-take, length-take}
use Rattle.byte_ends.specs.Lines.{as_line, without_cr}
use Rattle.byte_ends.specs.ReadAll.{CountsFault}
use Rattle.byte_ends.specs.declared.faults.BytesFault.{BytesFault}
use Rattle.byte_ends.specs.declared.faults.BytesFault.TheVariants.{TooLong}
use Rattle.line_reader.specs.Lines.{BeginsWithLine, Hands, HasNoLf, IsTooLong, PassesLine, Reading}

pub handed : (old new : Reading) (came : List ℕ) (whole : Bool) → whole ≡ true → Hands old came (Ok whole) new
    → (piece : List ℕ) × BeginsWithLine old.limit (old.held ++ came) piece new.held × (new.line ≡ without_cr piece)
handed old new came true is h = h
handed old new came false is h = cc

pub too_long : (old new : Reading) (came : List ℕ) (fault : BytesFault) → fault ≡ TooLong
    → Hands old came (Err fault) new
    → IsTooLong old.limit (old.held ++ came) × (new.held ≡ old.held ++ came)
too_long old new came fault is h = subst (λ f. Hands old came (Err f) new) is h

pub none_read : (old new : ℕ) (fault : BytesFault) → fault ≡ TooLong → CountsFault old new fault → new ≡ old
none_read old new fault is h = subst (CountsFault old new) is h

-- a byte of a list whose front has no LF is none
lf_past : (limit : ℕ) (bytes more piece rest : List ℕ) → IsTooLong limit bytes
    → bytes ++ more ≡ as_line piece ++ rest → length piece ≤ limit → ⊥
lf_past limit bytes more piece rest long is short =
    let within : length piece < length bytes = omega (arith, long.more) in
    let front : get_or (take (limit + 1) bytes) (length piece) 0 ≡ get_or bytes (length piece) 0 =
    get_or-take (limit + 1) bytes (length piece) 0 (omega arith) in
    let line : (piece ++ 10 ∷ []) ++ rest ≡ piece ++ 10 ∷ rest = append_assoc piece (10 ∷ []) rest in
    let at : get_or (bytes ++ more) (length piece) 0 ≡ 10 = ap (λ l. get_or l (length piece) 0) (is ∙ line)
    ∙ get_or-append_seam piece 10 rest 0 in
    let lf : get_or (take (limit + 1) bytes) (length piece) 0 ≡ 10 = front
    ∙ sym (get_or-append bytes more 0 (length piece) within) ∙ at in
    long.plain (length piece) 0 (omega (arith, length-take (limit + 1) bytes, long.more)) lf

-- so what is ended by an LF there is longer than a line may be
pub long_by : (b : Bool) (limit : ℕ) (bytes more piece rest : List ℕ) → IsTooLong limit bytes
    → bytes ++ more ≡ as_line piece ++ rest → ltb limit (length piece) ≡ b → limit < length piece
long_by true limit bytes more piece rest long is b = ltb-true limit (length piece) b
long_by false limit bytes more piece rest long is b = absurd
    (lf_past limit bytes more piece rest long is (ltb-false limit (length piece) b))

pub passed_all : (old came new : List ℕ) (whole : Bool) → whole ≡ false → PassesLine old came (Ok whole) new
    → HasNoLf (old ++ came)
passed_all old came new true is h = cc
passed_all old came new false is h = h.0
