-- The text of a snapshot says its operations.
use Rattle.std.proofs.Common.{◌≡◌, inr, ℕ, suc, ◌-◌, ◌^◌, ◌<◌, ◌≤◌, false, cond, eqb, List, [], ◌∷◌, ◌++◌, map, take}
use Rattle.std.proofs.Common.{length, get_or, refl, sym, ap, ◌∙◌, arith, append_assoc, decimal}
use Rattle.std.specs.Prelude.{codes, All}
use Rattle.std.specs.List.{AllByRecursion}
use Rattle.std.specs.Str.Parse.{AllDigits}
use Rattle.std.proofs.lemmas.Bool.Decides.{nat_tests}
use Rattle.std.proofs.lemmas.Fmt.{decimal_is_IsNumeral_wide, length-decimal-le_wide}
use Rattle.std.proofs.lemmas.Str.Parse.{digit_from_value}
use Rattle.byte_ends.specs.Lines.{lines_of, pieces_of, put_before, without_cr}
use Rattle.review_ops.specs.Timestamp.{IsNumbered}
use Rattle.review_ops.specs.Good.{IsGood}
use Rattle.review_ops.specs.Operation.{Operation}
use Rattle.op_text.specs.Spelling.{SpellsOperation}
use Rattle.op_text.specs.Text.{operation_text, IsOneLine}
use Rattle.byte_ends.specs.Lines.{as_line}
use Rattle.snapshot_text.specs.Snapshot.{IsEndLine, IsNoEndLine, IsOperationLine, AreOperationLines, SaysOperations}
use Rattle.snapshot_text.specs.Snapshot.{operation_lines, snapshot_text}
use Rattle.snapshot_text.specs.Sound.{IsSound, AreSoundOperations}

-- ---- a text with no control character is one line

abbrev pub ArePlain : List ℕ → Type 0
ArePlain = AllByRecursion (λ byte. 32 ≤ byte)

ArePlain-append : (xs ys : List ℕ) → ArePlain xs → ArePlain ys → ArePlain (xs ++ ys)
ArePlain-append [] ys p q = q
ArePlain-append (x ∷ xs) ys p q = (p.0, ArePlain-append xs ys p.1 q)

not_lf : (byte : ℕ) → 32 ≤ byte → eqb byte 10 ≡ false
not_lf byte h = grind (arith, nat_tests)

not_cr : (byte : ℕ) → 32 ≤ byte → eqb byte 13 ≡ false
not_cr byte h = grind (arith, nat_tests)

first_piece : (text rest : List ℕ) → ArePlain text → pieces_of (text ++ 10 ∷ rest) ≡ text ∷ pieces_of rest
first_piece [] rest plain = refl
first_piece (byte ∷ text) rest plain =
    ap (λ t. cond t ([] ∷ pieces_of (text ++ 10 ∷ rest)) (put_before byte (pieces_of (text ++ 10 ∷ rest))))
    (not_lf byte plain.0)
    ∙ ap (put_before byte) (first_piece text rest plain.1)

last_plain : (byte : ℕ) (text : List ℕ) → ArePlain (byte ∷ text) → 32 ≤ get_or (byte ∷ text) (length text) 0
last_plain byte [] plain = plain.0
last_plain byte (next ∷ text) plain = last_plain next text plain.1

no_cr_at : (text : List ℕ) (last : ℕ) → length text - 1 ≡ last → 32 ≤ get_or text last 0 → without_cr text ≡ text
no_cr_at text last e h = ap (λ k. cond (eqb (get_or text k 0) 13) (take k text) text) e
    ∙ ap (λ t. cond t (take last text) text) (not_cr (get_or text last 0) h)

no_cr : (text : List ℕ) → ArePlain text → without_cr text ≡ text
no_cr [] plain = refl
no_cr (byte ∷ text) plain = no_cr_at (byte ∷ text) (length text) (omega arith) (last_plain byte text plain)

first_line : (text rest : List ℕ) → ArePlain text → lines_of (as_line text ++ rest) ≡ text ∷ lines_of rest
first_line text rest plain =
    ap (map without_cr) (ap pieces_of (append_assoc text (10 ∷ []) rest) ∙ first_piece text rest plain)
    ∙ ap (λ l. l ∷ lines_of rest) (no_cr text plain)

-- ---- digits

digits_plain : (digits : List ℕ) → AllDigits 10 digits → ArePlain digits
digits_plain [] all = tt
digits_plain (d ∷ digits) all = (omega (arith, (digit_from_value d all.0).0), digits_plain digits all.1)

is_end_line : (n : ℕ) → n < 10 ^ 20 → IsEndLine (codes "end " ++ decimal n) n
is_end_line n small = let is = decimal_is_IsNumeral_wide n (omega (arith, small)) in record {
  digits = decimal n;
  form = refl;
  numeral = is.0;
  short = length-decimal-le_wide 20 n (omega arith) small (omega (arith, small));
  value = is.1;
}

end_plain : (n : ℕ) → n < 10 ^ 20 → ArePlain (codes "end " ++ decimal n)
end_plain n small =
    let is = decimal_is_IsNumeral_wide n (omega (arith, small)) in
    ArePlain-append (codes "end ") (decimal n) (omega arith, (omega arith, (omega arith, (omega arith, tt))))
    (digits_plain (decimal n) is.0.1)

header_plain : ArePlain (codes "reviewgate 2")
header_plain = (omega arith, (omega arith, (omega arith, (omega arith, (omega arith, (omega arith, (omega arith, (omega arith, (omega arith, (omega arith, (omega arith, (omega arith, tt))))))))))))

-- ---- lines of operations

module _ (on_line : (op : Operation) → IsNumbered op.stamp → IsGood op.deed → IsOneLine (operation_text op))
    (spelled : (op : Operation) → IsNumbered op.stamp → IsGood op.deed → SpellsOperation (operation_text op) op) where
  to_recursion : (text : List ℕ) → All (λ byte. 32 ≤ byte) text → ArePlain text
  to_recursion [] all = tt
  to_recursion (byte ∷ text) all =
      (all 0 0 (omega arith), to_recursion text (λ i d within. all (suc i) d (omega arith)))

  no_end_line : (text : List ℕ) → IsOneLine text → IsNoEndLine text
  no_end_line text one n is = let first : 123 ≡ 101 = ap (λ l. get_or l 0 0) (sym one.begins ∙ is.form) in omega
      (arith, first)

  is_operation_line : (op : Operation) → IsSound op → IsOperationLine (operation_text op) op
  is_operation_line op sound = record {
    other = no_end_line (operation_text op) (on_line op sound.numbered sound.good);
    spells = spelled op sound.numbered sound.good;
  }

  are_operation_lines : (ops : List Operation) → AreSoundOperations ops → AreOperationLines (map operation_text ops) ops
  are_operation_lines [] sound = tt
  are_operation_lines (op ∷ ops) sound = (is_operation_line op sound.0, are_operation_lines ops sound.1)

  lines_of-operations : (ops : List Operation) (rest : List ℕ) → AreSoundOperations ops
      → lines_of (operation_lines ops ++ rest) ≡ map operation_text ops ++ lines_of rest
  lines_of-operations [] rest sound = refl
  lines_of-operations (op ∷ ops) rest sound =
      ap lines_of (append_assoc (as_line (operation_text op)) (operation_lines ops) rest)
      ∙ first_line (operation_text op) (operation_lines ops ++ rest)
      (to_recursion (operation_text op) (on_line op sound.0.numbered sound.0.good).plain)
      ∙ ap (λ l. operation_text op ∷ l) (lines_of-operations ops rest sound.1)

  end_alone : (n : ℕ) → n < 10 ^ 20 → lines_of (as_line (codes "end " ++ decimal n)) ≡ (codes "end " ++ decimal n) ∷ []
  end_alone n small =
      ap (map without_cr) (first_piece (codes "end " ++ decimal n) [] (end_plain n small))
      ∙ ap (λ l. l ∷ []) (no_cr (codes "end " ++ decimal n) (end_plain n small))

  lines_of-snapshot : (ops : List Operation) → AreSoundOperations ops → length ops < 10 ^ 20
      → lines_of (snapshot_text ops)
      ≡ codes "reviewgate 2" ∷ (map operation_text ops ++ (codes "end " ++ decimal (length ops)) ∷ [])
  lines_of-snapshot ops sound few =
      ap lines_of (append_assoc (as_line (codes "reviewgate 2")) (operation_lines ops) (as_line (codes "end " ++ decimal (length ops))))
      ∙ first_line (codes "reviewgate 2")
      (operation_lines ops ++ as_line (codes "end " ++ decimal (length ops))) header_plain
      ∙ ap (λ l. codes "reviewgate 2" ∷ l)
      (lines_of-operations ops (as_line (codes "end " ++ decimal (length ops))) sound)
      ∙ ap (λ l. codes "reviewgate 2" ∷ (map operation_text ops ++ l)) (end_alone (length ops) few)

  pub read_back : (ops : List Operation) → AreSoundOperations ops → length ops < 10 ^ 20
      → SaysOperations (lines_of (snapshot_text ops)) ops
  read_back ops sound few = (
    codes "end " ++ decimal (length ops),
    record {
      first = codes "reviewgate 2";
      front = map operation_text ops;
      form = lines_of-snapshot ops sound few;
      header = inr refl;
      operations = are_operation_lines ops sound;
    },
    is_end_line (length ops) few,
  )
