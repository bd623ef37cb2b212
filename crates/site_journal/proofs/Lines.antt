-- What the lines of a journal say, line by line.
use Rattle.std.proofs.Common.{◌≡◌, ◌≢◌, ℕ, ◌≤◌, List, [], ◌∷◌, ◌++◌, length, map, refl, sym, ap, ◌∙◌, subst, arith}
use Rattle.std.proofs.Common.{append_assoc, append-nil, length-append}
use Rattle.std.proofs.lemmas.Grind.{flat_map-append}
use Rattle.std.proofs.lemmas.List.Elements.{All-weaker}
use Rattle.byte_ends.specs.Lines.{as_line}
use Rattle.review_ops.specs.Operation.{Operation}
use Rattle.review_ops.specs.Timestamp.{IsNumbered}
use Rattle.review_ops.specs.Good.{IsGood}
use Rattle.op_text.specs.Spelling.{SpellsOperation}
use Rattle.op_text.specs.Text.{operation_text, IsOneLine}
use Rattle.snapshot_text.specs.Snapshot.{operation_lines}
use Rattle.snapshot_text.specs.Sound.{AreSoundOperations}
use Rattle.site_journal.specs.Text.{header_line, journal_text, whole_lines, AreShort, SayOperations, IsTorn, SaysJournal}
use Rattle.site_journal.specs.Text.{IsFresh}
use Rattle.site_journal.proofs.Bytes.{Plain, plain_of, has_none, no_line_end, first_line, same_back}

pub say-append : (ps qs : List (List ℕ)) (ops more : List Operation) → SayOperations ps ops → SayOperations qs more
    → SayOperations (ps ++ qs) (ops ++ more)
say-append [] qs [] more a b = b
say-append [] qs (o ∷ ops) more a b = absurd a
say-append (p ∷ ps) qs [] more a b = absurd a
say-append (p ∷ ps) qs (o ∷ ops) more a b = (a.0, say-append ps qs ops more a.1 b)

pub whole-append : (ps qs : List (List ℕ)) → whole_lines (ps ++ qs) ≡ whole_lines ps ++ whole_lines qs
whole-append ps qs = flat_map-append as_line ps qs

-- a line more
pub whole-push : (ps : List (List ℕ)) (p : List ℕ) → whole_lines (ps ++ p ∷ []) ≡ whole_lines ps ++ as_line p
whole-push ps p = whole-append ps (p ∷ []) ∙ ap (λ l. whole_lines ps ++ l) (append-nil (as_line p))

-- there are as many bytes as lines, or more
pub whole-length : (ps : List (List ℕ)) → length ps ≤ length (whole_lines ps)
whole-length [] = omega arith
whole-length (p ∷ ps) =
    omega (arith, whole-length ps, length-append (as_line p) (whole_lines ps), length-append p (10 ∷ []))

-- ---- what is written

-- the lines of operations
pub lines_are_whole : (ops : List Operation) → operation_lines ops ≡ whole_lines (map operation_text ops)
lines_are_whole [] = refl
lines_are_whole (op ∷ ops) = ap (λ l. as_line (operation_text op) ++ l) (lines_are_whole ops)

module _ (line : (op : Operation) → IsNumbered op.stamp → IsGood op.deed → IsOneLine (operation_text op))
    (spells : (op : Operation) → IsNumbered op.stamp → IsGood op.deed → SpellsOperation (operation_text op) op) where
  pub written_say : (ops : List Operation) → AreSoundOperations ops → AreShort ops → SayOperations (map operation_text ops) ops
  written_say [] sound short = tt
  written_say (op ∷ ops) sound short = (
    record {
      plain = All-weaker (λ byte. 32 ≤ byte) (λ byte. byte ≢ 10) (λ byte high is. omega arith) (operation_text op)
          (line op sound.0.numbered sound.0.good).plain;
      short = short.0;
      spells = spells op sound.0.numbered sound.0.good;
    },
    written_say ops sound.1 short.1,
  )

  pub says_more : (text : List ℕ) (ops more : List Operation) → SaysJournal text ops [] → AreSoundOperations more → AreShort more
      → SaysJournal (text ++ operation_lines more) (ops ++ more) []
  says_more text ops more says sound short =
      let texts = map operation_text more in record {
        pieces = says.pieces ++ texts;
        whole = ap (λ l. l ++ operation_lines more)
            (says.whole ∙ ap (λ l. header_line ++ l) (append-nil (whole_lines says.pieces)))
            ∙ append_assoc header_line (whole_lines says.pieces) (operation_lines more)
            ∙ ap (λ l. header_line ++ (whole_lines says.pieces ++ l)) (lines_are_whole more)
            ∙ ap (λ l. header_line ++ l) (sym (whole-append says.pieces texts))
            ∙ ap (λ l. header_line ++ l) (sym (append-nil (whole_lines (says.pieces ++ texts))));
        says = say-append says.pieces texts ops more says.says (written_say more sound short);
        torn = says.torn;
      }

  pub says_first : (ops : List Operation) → AreSoundOperations ops → AreShort ops → SaysJournal (journal_text ops) ops []
  says_first ops sound short = record {
    pieces = map operation_text ops;
    whole = ap (λ l. header_line ++ l) (lines_are_whole ops ∙ sym (append-nil (whole_lines (map operation_text ops))));
    says = written_say ops sound short;
    torn = none_torn;
  }
    where
      none_torn : IsTorn []
      none_torn = record { plain = has_none [] tt; short = omega arith }

-- ---- one reading

module _ (once : (text : List ℕ) (op other : Operation) → SpellsOperation text op → SpellsOperation text other → op ≡ other) where
  same_lines : (ps qs : List (List ℕ)) (ops others : List Operation) (r s : List ℕ) → SayOperations ps ops
      → SayOperations qs others → Plain r → Plain s
      → whole_lines ps ++ r ≡ whole_lines qs ++ s → (ops ≡ others) × (r ≡ s)
  same_lines [] [] [] [] r s a b pr ps' e = (refl, e)
  same_lines [] [] [] (o ∷ others) r s a b pr ps' e = absurd b
  same_lines [] [] (o ∷ ops) others r s a b pr ps' e = absurd a
  same_lines [] (q ∷ qs) ops others r s a b pr ps' e =
      absurd (no_line_end q (whole_lines qs ++ s) (subst Plain (e ∙ append_assoc (as_line q) (whole_lines qs) s) pr))
  same_lines (p ∷ ps) [] ops others r s a b pr ps' e =
      absurd (no_line_end p (whole_lines ps ++ r) (subst Plain (sym e ∙ append_assoc (as_line p) (whole_lines ps) r) ps'))
  same_lines (p ∷ ps) (q ∷ qs) [] others r s a b pr ps' e = absurd a
  same_lines (p ∷ ps) (q ∷ qs) (o ∷ ops) [] r s a b pr ps' e = absurd b
  same_lines (p ∷ ps) (q ∷ qs) (o ∷ ops) (x ∷ others) r s a b pr ps' e =
      let both = first_line p q (whole_lines ps ++ r) (whole_lines qs ++ s) (plain_of p a.0.plain)
      (plain_of q b.0.plain)
      (sym (append_assoc (as_line p) (whole_lines ps) r) ∙ e ∙ append_assoc (as_line q) (whole_lines qs) s) in
      let rest = same_lines ps qs ops others r s a.1 b.1 pr ps' both.1 in
      let head : o ≡ x = once p o x a.0.spells (subst (λ t. SpellsOperation t x) (sym both.0) b.0.spells) in
      let tail : ops ≡ others = rest.0 in (cc, rest.1)

  pub one_reading : (text : List ℕ) (ops others : List Operation) (rest other : List ℕ) → SaysJournal text ops rest
      → SaysJournal text others other → (ops ≡ others) × (rest ≡ other)
  one_reading text ops others rest other a b =
      let whole : header_line ++ (whole_lines a.pieces ++ rest) ≡ header_line ++ (whole_lines b.pieces ++ other) = sym a.whole ∙ b.whole in
      let bodies : whole_lines a.pieces ++ rest ≡ whole_lines b.pieces ++ other = same_back header_line (whole_lines a.pieces ++ rest) (whole_lines b.pieces ++ other) whole in
      same_lines a.pieces b.pieces ops others rest other a.says b.says (plain_of rest a.torn.plain)
      (plain_of other b.torn.plain) bodies

pub not_fresh : (text : List ℕ) (ops : List Operation) (rest : List ℕ) → SaysJournal text ops rest → ¬ IsFresh text
not_fresh text ops rest says fresh = let few = fresh.1 in omega
    (arith, ap length says.whole, length-append header_line (whole_lines says.pieces ++ rest), few)
