-- What a crash leaves of lines that were being written.
use Rattle.std.proofs.Common.{◌≡◌, ◌⊎◌, inl, inr, ℕ, suc, List, [], ◌∷◌, ◌++◌, length, map, take, refl, sym, ap, ◌∙◌}
use Rattle.std.proofs.Common.{subst, arith, append_assoc, append-nil, length-append}
use Rattle.byte_ends.specs.Lines.{as_line}
use Rattle.review_ops.specs.Operation.{Operation}
use Rattle.review_ops.specs.Timestamp.{IsNumbered}
use Rattle.review_ops.specs.Good.{IsGood}
use Rattle.op_text.specs.Spelling.{SpellsOperation}
use Rattle.op_text.specs.Text.{operation_text, IsOneLine}
use Rattle.snapshot_text.specs.Snapshot.{operation_lines}
use Rattle.snapshot_text.specs.Sound.{AreSoundOperations}
use Rattle.site_journal.specs.Prefixes.{IsPrefix}
use Rattle.site_journal.specs.Text.{header_line, whole_lines, AreShort, SayOperations, IsTorn, SaysJournal, IsFresh}
use Rattle.site_journal.proofs.Bytes.{Plain, plain_of, has_none, plain_front, within_line, same_back}
use Rattle.site_journal.proofs.Lines.{say-append, whole-append, lines_are_whole, written_say}

-- a front of whole lines: the first so many of them, and a torn one
pub record Front (ops : List Operation) (text : List ℕ) : Type 0 where
  pub pieces : List (List ℕ)
  pub count : ℕ
  pub rest : List ℕ
  pub whole : text ≡ whole_lines pieces ++ rest
  pub says : SayOperations pieces (take count ops)
  pub torn : IsTorn rest

none : (ops : List Operation) (rest : List ℕ) → IsTorn rest → Front ops rest
none ops rest torn = record { pieces = []; count = 0; rest = rest; whole = refl; says = tt; torn = torn }

pub front_of_lines : (qs : List (List ℕ)) (ops : List Operation) (a b : List ℕ) → SayOperations qs ops
    → whole_lines qs ≡ a ++ b → Front ops a
front_of_lines [] ops [] b says e = none ops [] (record { plain = has_none [] tt; short = omega arith })
front_of_lines [] ops (x ∷ a) b says e = cc
front_of_lines (q ∷ qs) [] a b says e = absurd says
front_of_lines (q ∷ qs) (op ∷ ops) a b says e =
    elim (within_line q (whole_lines qs) a b (plain_of q says.0.plain) e) [
      | inl found ↦
          let later = front_of_lines qs ops found.0 b says.1 found.2 in record {
            pieces = q ∷ later.pieces;
            count = suc later.count;
            rest = later.rest;
            whole = found.1 ∙ ap (λ l. as_line q ++ l) later.whole
                ∙ sym (append_assoc (as_line q) (whole_lines later.pieces) later.rest);
            says = (says.0, later.says);
            torn = later.torn;
          }
      | inr found ↦ none (op ∷ ops) a (record {
        plain = has_none a (plain_front a found.0 (subst Plain found.1 (plain_of q says.0.plain)));
        short = let short = says.0.short in omega (arith, short, ap length found.1, length-append a found.0);
      })
    ]

-- lines before it
pub says_front : (text left more : List ℕ) (ops later : List Operation) → SaysJournal text ops [] → left ≡ text ++ more
    → (front : Front later more) → SaysJournal left (ops ++ take front.count later) front.rest
says_front text left more ops later says e front = record {
  pieces = says.pieces ++ front.pieces;
  whole = e ∙ ap (λ l. l ++ more) (says.whole ∙ ap (λ l. header_line ++ l) (append-nil (whole_lines says.pieces)))
      ∙ append_assoc header_line (whole_lines says.pieces) more
      ∙ ap (λ l. header_line ++ (whole_lines says.pieces ++ l)) front.whole
      ∙ ap (λ l. header_line ++ l) (sym (append_assoc (whole_lines says.pieces) (whole_lines front.pieces) front.rest))
      ∙ ap (λ l. header_line ++ (l ++ front.rest)) (sym (whole-append says.pieces front.pieces));
  says = say-append says.pieces front.pieces ops (take front.count later) says.says front.says;
  torn = front.torn;
}

module _ (line : (op : Operation) → IsNumbered op.stamp → IsGood op.deed → IsOneLine (operation_text op))
    (spells : (op : Operation) → IsNumbered op.stamp → IsGood op.deed → SpellsOperation (operation_text op) op) where
  pub crash_of_lines : (text left : List ℕ) (ops more : List Operation) → SaysJournal text ops [] → AreSoundOperations more
      → AreShort more
      → IsPrefix text left → IsPrefix left (text ++ operation_lines more)
      → (count : ℕ) × (rest : List ℕ) × SaysJournal left (ops ++ take count more) rest
  crash_of_lines text left ops more says sound short least most =
      let whole : text ++ operation_lines more ≡ text ++ (least.0 ++ most.0) = most.1 ∙ ap (λ l. l ++ most.0) least.1 ∙ append_assoc text least.0 most.0 in
      let back : whole_lines (map operation_text more) ≡ least.0 ++ most.0 = sym (lines_are_whole more) ∙ same_back text (operation_lines more) (least.0 ++ most.0) whole in
      let front = front_of_lines (map operation_text more) more least.0 most.0 (written_say line spells more sound short) back in
      (front.count, front.rest, says_front text left least.0 ops more says least.1 front)

pub crash_of_header : (left : List ℕ) → IsPrefix left header_line → IsFresh left ⊎ SaysJournal left [] []
crash_of_header left most = by_rest most.0 most.1
  where
    by_rest : (rest : List ℕ) → header_line ≡ left ++ rest → IsFresh left ⊎ SaysJournal left [] []
    by_rest [] e = inr (record {
      pieces = [];
      whole = sym (append-nil left) ∙ sym e ∙ sym (append-nil header_line);
      says = tt;
      torn = record { plain = has_none [] tt; short = omega arith };
    })
    by_rest (x ∷ rest) e = inl ((x ∷ rest, e), omega (arith, ap length e, length-append left (x ∷ rest)))
