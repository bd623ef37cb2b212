-- How bytes are cut into lines as they come.
use Rattle.std.proofs.Common.{◌≡◌, ◌≢◌, ℕ, false, cond, List, [], ◌∷◌, ◌++◌, refl, sym, ap, subst, ◌∙◌, eqb, arith}
use Rattle.std.proofs.Common.{append_assoc, append-nil, map}
use Rattle.std.proofs.Common.{Option, None, Some, Result, Ok, Err, true}
use Rattle.std.specs.Prelude.{MatchOption, OnOk, IfErr, is_some}
use Rattle.std.specs.Result.{result_err}
use Rattle.std.proofs.lemmas.Bool.{false≢true}
use Rattle.std.proofs.lemmas.Bool.Decides.{nat_tests}
use Rattle.std.proofs.lemmas.List.Elements.{All-head, All-tail, All-append, All-nil}
use Rattle.byte_ends.specs.Lines.{as_line, lines_of, pieces_of, put_before, without_cr}
use Rattle.line_reader.specs.Lines.{HasNoLf}
use Rattle.review_ops.specs.Operation.{Operation}
use Rattle.snapshot_text.specs.declared.fault.SnapFault.{SnapFault}
use Rattle.snapshot_text.specs.declared.blocks.Cutter.{Cutter}
use Rattle.snapshot_text.specs.Progress.{HasTaken, HasCut, IsFaultIn}

-- ---- lines of bytes
not_lf : (byte : ℕ) → byte ≢ 10 → eqb byte 10 ≡ false
not_lf byte h = grind (arith, nat_tests)

plain_head : (byte : ℕ) (piece : List ℕ) → HasNoLf (byte ∷ piece) → eqb byte 10 ≡ false
plain_head byte piece plain = not_lf byte (All-head (λ b. b ≢ 10) byte piece plain)

plain_tail : (byte : ℕ) (piece : List ℕ) → HasNoLf (byte ∷ piece) → HasNoLf piece
plain_tail byte piece plain = All-tail (λ b. b ≢ 10) byte piece plain

first_piece : (piece rest : List ℕ) → HasNoLf piece → pieces_of (piece ++ 10 ∷ rest) ≡ piece ∷ pieces_of rest
first_piece [] rest plain = refl
first_piece (byte ∷ piece) rest plain =
    ap (λ t. cond t ([] ∷ pieces_of (piece ++ 10 ∷ rest)) (put_before byte (pieces_of (piece ++ 10 ∷ rest))))
    (plain_head byte piece plain)
    ∙ ap (put_before byte) (first_piece piece rest (plain_tail byte piece plain))

one_piece : (byte : ℕ) (piece : List ℕ) → HasNoLf (byte ∷ piece) → pieces_of (byte ∷ piece) ≡ (byte ∷ piece) ∷ []
one_piece byte [] plain = ap (λ t. cond t ([] ∷ []) (put_before byte [])) (plain_head byte [] plain)
one_piece byte (next ∷ piece) plain =
    ap (λ t. cond t ([] ∷ pieces_of (next ∷ piece)) (put_before byte (pieces_of (next ∷ piece))))
    (plain_head byte (next ∷ piece) plain)
    ∙ ap (put_before byte) (one_piece next piece (plain_tail byte (next ∷ piece) plain))

pub first_line : (piece rest : List ℕ) → HasNoLf piece → lines_of (as_line piece ++ rest) ≡ without_cr piece ∷ lines_of rest
first_line piece rest plain =
    ap (map without_cr) (ap pieces_of (append_assoc piece (10 ∷ []) rest) ∙ first_piece piece rest plain)

one_line : (piece : List ℕ) → piece ≢ [] → HasNoLf piece → lines_of piece ≡ without_cr piece ∷ []
one_line [] some plain = absurd (some refl)
one_line (byte ∷ piece) some plain = ap (map without_cr) (one_piece byte piece plain)

-- ---- what the next line of a piece is
pub only_line : (piece line : List ℕ) (rest : List (List ℕ)) → HasNoLf piece → lines_of piece ≡ line ∷ rest
    → line ≡ without_cr piece
only_line [] line rest plain e = let none : [] ≡ line ∷ rest = e in absurd (cc)
only_line (byte ∷ piece) line rest plain e =
    let two : line ∷ rest ≡ without_cr (byte ∷ piece) ∷ [] = sym e ∙ one_line (byte ∷ piece) (λ h. cc) plain in cc

pub no_line : (piece : List ℕ) → HasNoLf piece → lines_of piece ≡ [] → piece ≡ without_cr piece
no_line [] plain e = refl
no_line (byte ∷ piece) plain e =
    let two : [] ≡ without_cr (byte ∷ piece) ∷ [] = sym e ∙ one_line (byte ∷ piece) (λ h. cc) plain in cc

-- ---- the start

module _ (base : List Operation) (came : List ℕ) (old new : Cutter) (has : HasCut base came old) where
  -- ---- more of the next line
  pub cut_held : (piece : List ℕ) → HasNoLf piece → new.held.items ≡ old.held.items ++ piece
      → new.progress ≡ old.progress → HasCut base (came ++ piece) new
  cut_held piece plain held same = record {
    lines = has.lines;
    front = has.front;
    form = ap (λ l. l ++ piece) has.form ∙ append_assoc has.front old.held.items piece
        ∙ ap (λ l. has.front ++ l) (sym held);
    cut = has.cut;
    plain = subst HasNoLf (sym held) (All-append (λ b. b ≢ 10) old.held.items piece has.plain plain);
    taken = subst (HasTaken base has.lines) (sym same) has.taken;
  }

  -- ---- a whole line, of which the last piece comes
  module _ (piece whole : List ℕ) (is : whole ≡ old.held.items ++ piece) (plain : HasNoLf whole) where
    came_whole : came ++ as_line piece ≡ has.front ++ as_line whole
    came_whole =
        ap (λ l. l ++ as_line piece) has.form ∙ append_assoc has.front old.held.items (as_line piece)
        ∙ ap (λ l. has.front ++ l) (sym (append_assoc old.held.items piece (10 ∷ [])) ∙ ap as_line (sym is))

    cut_whole : (rest : List ℕ)
        → lines_of ((has.front ++ as_line whole) ++ rest) ≡ has.lines ++ without_cr whole ∷ lines_of rest
    cut_whole rest =
        ap lines_of (append_assoc has.front (as_line whole) rest)
        ∙ has.cut (as_line whole ++ rest)
        ∙ ap (λ l. has.lines ++ l) (first_line whole rest plain)

    pub cut_line : new.held.items ≡ [] → HasTaken base (has.lines ++ without_cr whole ∷ []) new.progress
        → HasCut base (came ++ as_line piece) new
    cut_line none taken = record {
      lines = has.lines ++ without_cr whole ∷ [];
      front = has.front ++ as_line whole;
      form = came_whole ∙ sym (append-nil (has.front ++ as_line whole)) ∙ ap (λ l. (has.front ++ as_line whole) ++ l) (sym none);
      cut = λ rest. cut_whole rest ∙ sym (append_assoc has.lines (without_cr whole ∷ []) (lines_of rest));
      plain = subst HasNoLf (sym none) (All-nil (λ b. b ≢ 10));
      taken = taken;
    }

    pub cut_fault : (fault : SnapFault) (later : List ℕ)
        → IsFaultIn (has.lines ++ without_cr whole ∷ lines_of later) fault
        → IsFaultIn (lines_of ((came ++ as_line piece) ++ later)) fault
    cut_fault fault later is_fault = subst (λ l. IsFaultIn l fault)
        (sym (ap (λ l. lines_of (l ++ later)) came_whole ∙ cut_whole later)) is_fault

  -- ---- the end
  pub cut_none : old.held.items ≡ [] → lines_of came ≡ has.lines
  cut_none none =
      ap lines_of has.form ∙ has.cut old.held.items ∙ ap (λ l. has.lines ++ lines_of l) none ∙ append-nil has.lines

  pub cut_last : old.held.items ≢ [] → lines_of came ≡ has.lines ++ without_cr old.held.items ∷ []
  cut_last some =
      ap lines_of has.form ∙ has.cut old.held.items ∙ ap (λ l. has.lines ++ l) (one_line old.held.items some has.plain)

-- ---- a fault
-- what was found stays found, whatever comes
pub still_faulty : (fault : Option SnapFault) (P Q : Type 0) (came block : List ℕ) → is_some fault ≡ true
    → MatchOption fault P (λ f. (later : List ℕ) → IsFaultIn (lines_of (came ++ later)) f)
    → MatchOption fault Q (λ f. (later : List ℕ) → IsFaultIn (lines_of ((came ++ block) ++ later)) f)
still_faulty None P Q came block e read = absurd (false≢true e)
still_faulty (Some f) P Q came block e read =
    λ later. subst (λ l. IsFaultIn (lines_of l) f) (sym (append_assoc came block later)) (read (block ++ later))

-- where nothing was found, what came is cut or something is found in it
pub cut_or_faulty : {T : Type 0} (fault : Option SnapFault) (r : Result T SnapFault) (P Q : Type 0) (came bytes : List ℕ)
    → is_some fault ≡ false → MatchOption fault P (λ f. (later : List ℕ) → IsFaultIn (lines_of (came ++ later)) f)
    → OnOk r (P → Q) → IfErr r (λ f. P → (later : List ℕ) → IsFaultIn (lines_of (bytes ++ later)) f)
    → MatchOption (result_err r) Q (λ f. (later : List ℕ) → IsFaultIn (lines_of (bytes ++ later)) f)
cut_or_faulty None (Ok x) P Q came bytes e read ok err = ok read
cut_or_faulty None (Err f) P Q came bytes e read ok err = err read
cut_or_faulty (Some f) r P Q came bytes e read ok err = absurd (false≢true (sym e))
