-- The text of groups has one reading: where two texts are equal, so are their lines, one after the other.
use Rattle.std.proofs.Common.{◌≡◌, ℕ, List, [], ◌∷◌, ◌++◌, map, flat_map, refl, sym, ap, ◌∙◌, arith, append_assoc}
use Rattle.std.proofs.Common.{append-nil, decimal}
use Rattle.std.specs.Prelude.{codes}
use Rattle.std.specs.List.{AllByRecursion}
use Rattle.std.proofs.lemmas.List.{append_cancel_left}
use Rattle.state_core.specs.declared.item.Item.{Item}
use Rattle.ready_core.specs.declared.verdicts.Refusal.{Refusal}
use Rattle.byte_ends.specs.Lines.{as_line}
use Rattle.report_text.specs.Printed.{IsSmallItem}
use Rattle.report_text.specs.Report.{item_text, end_line}
use Rattle.report_text.specs.ReportLaws.{head, line_then, same_item, same_number, same_out}
use Rattle.report_changes.specs.declared.lines.Line.{Line}
use Rattle.report_changes.specs.declared.lines.Line.TheVariants.{NotReady, Ready, Out, Gone}
use Rattle.report_changes.specs.Lines.{group_text, line_text}
use Rattle.report_changes.specs.Reading.{GroupLine, IsSmallEntry, ends, group_lines, entries_text, group_line_text, entry_read, says}

-- its first byte, which shows its kind
abbrev entry_head : GroupLine → ℕ
entry_head (says (NotReady item)) = 45
entry_head (says (Ready item)) = 43
entry_head (says (Out left)) = 111
entry_head (says (Gone item)) = 103
entry_head (ends ready out) = 101

head-entry : (entry : GroupLine) (rest : List ℕ) → head (group_line_text entry ++ rest) ≡ entry_head entry
head-entry (says (NotReady item)) rest = refl
head-entry (says (Ready item)) rest = refl
head-entry (says (Out left)) rest = refl
head-entry (says (Gone item)) rest = refl
head-entry (ends ready out) rest = refl

entry_heads : (a b : GroupLine) (s t : List ℕ) → group_line_text a ++ s ≡ group_line_text b ++ t → entry_head a ≡ entry_head b
entry_heads a b s t e = sym (head-entry a s) ∙ ap head e ∙ head-entry b t

same_named : (word : List ℕ) (a b : Item) (s t : List ℕ) → IsSmallItem a → IsSmallItem b
    → as_line (word ++ item_text a) ++ s ≡ as_line (word ++ item_text b) ++ t → (a ≡ b) × (s ≡ t)
same_named word a b s t p q e =
    let whole : word ++ (item_text a ++ 10 ∷ s) ≡ word ++ (item_text b ++ 10 ∷ t) =
    sym (append_assoc word (item_text a) (10 ∷ s)) ∙ sym (line_then (word ++ item_text a) s) ∙ e
    ∙ line_then (word ++ item_text b) t ∙ append_assoc word (item_text b) (10 ∷ t) in
    let rest = append_cancel_left word (item_text a ++ 10 ∷ s) (item_text b ++ 10 ∷ t) whole in
    let item = same_item a b s t 10 10 p q (omega arith) (omega arith) rest in
    (item.0, cc (item.1))

end_then : (ready out : ℕ) (rest : List ℕ)
    → end_line ready out ++ rest ≡ codes "end " ++ (decimal ready ++ 32 ∷ (decimal out ++ 10 ∷ rest))
end_then ready out rest =
    line_then (codes "end " ++ decimal ready ++ codes " " ++ decimal out) rest
    ∙ append_assoc (codes "end " ++ decimal ready ++ codes " ") (decimal out) (10 ∷ rest)
    ∙ append_assoc (codes "end " ++ decimal ready) (codes " ") (decimal out ++ 10 ∷ rest)

same_end : (a b c d : ℕ) (s t : List ℕ) → IsSmallEntry (ends a b) → IsSmallEntry (ends c d)
    → end_line a b ++ s ≡ end_line c d ++ t → (a ≡ c) × (b ≡ d) × (s ≡ t)
same_end a b c d s t p q e =
    let whole = sym (end_then a b s) ∙ e ∙ end_then c d t in
    let rest : decimal a ++ 32 ∷ (decimal b ++ 10 ∷ s) ≡ decimal c ++ 32 ∷ (decimal d ++ 10 ∷ t) = cc (whole) in
    let first = same_number a c (decimal b ++ 10 ∷ s) (decimal d ++ 10 ∷ t) 32 32 p.0 q.0 (omega arith) (omega arith) rest in
    let after : decimal b ++ 10 ∷ s ≡ decimal d ++ 10 ∷ t = cc (first.1) in
    let second = same_number b d s t 10 10 p.1 q.1 (omega arith) (omega arith) after in
    (first.0, second.0, cc (second.1))

same_line : (a b : Line) (s t : List ℕ) → IsSmallEntry (says a) → IsSmallEntry (says b)
    → line_text a ++ s ≡ line_text b ++ t → (entry_read (says a) ≡ entry_read (says b)) × (s ≡ t)
same_line (NotReady a) (NotReady b) s t p q e =
    let same = same_named (codes "-ready ") a b s t p q e in (ap (λ i. says (NotReady i)) same.0, same.1)
same_line (Ready a) (Ready b) s t p q e =
    let same = same_named (codes "+ready ") a b s t p q e in (ap (λ i. says (Ready i)) same.0, same.1)
same_line (Out a) (Out b) s t p q e =
    let same = same_out a b s t p.item q.item p.refusal q.refusal e in
    (ap (λ (l : Item × Refusal). says (Out (record { item = l.0; refusal = l.1; rank = 0 }))) same.0, same.1)
same_line (Gone a) (Gone b) s t p q e =
    let same = same_named (codes "gone ") a b s t p q e in (ap (λ i. says (Gone i)) same.0, same.1)
same_line a b s t p q e = absurd (omega (arith, entry_heads (says a) (says b) s t e))

no_end : (line : Line) → ¬ (entry_head (says line) ≡ 101)
no_end (NotReady item) e = omega (arith, e)
no_end (Ready item) e = omega (arith, e)
no_end (Out left) e = omega (arith, e)
no_end (Gone item) e = omega (arith, e)

same_entry : (a b : GroupLine) (s t : List ℕ) → IsSmallEntry a → IsSmallEntry b → group_line_text a ++ s ≡ group_line_text b ++ t
    → (entry_read a ≡ entry_read b) × (s ≡ t)
same_entry (says a) (says b) s t p q e = same_line a b s t p q e
same_entry (says a) (ends c d) s t p q e = absurd (no_end a (entry_heads (says a) (ends c d) s t e))
same_entry (ends a b) (says c) s t p q e = absurd (no_end c (sym (entry_heads (ends a b) (says c) s t e)))
same_entry (ends a b) (ends c d) s t p q e =
    let same = same_end a b c d s t p q e in (ap (λ n. ends n b) same.0 ∙ ap (λ n. ends c n) same.1, same.2)

no_head : (entry : GroupLine) (rest : List ℕ) → ¬ ([] ≡ group_line_text entry ++ rest)
no_head (says (NotReady item)) rest e = let bad : 0 ≡ 45 = ap head e in omega (arith, bad)
no_head (says (Ready item)) rest e = let bad : 0 ≡ 43 = ap head e in omega (arith, bad)
no_head (says (Out left)) rest e = let bad : 0 ≡ 111 = ap head e in omega (arith, bad)
no_head (says (Gone item)) rest e = let bad : 0 ≡ 103 = ap head e in omega (arith, bad)
no_head (ends ready out) rest e = let bad : 0 ≡ 101 = ap head e in omega (arith, bad)

pub one_reading : (entries others : List GroupLine) → AllByRecursion IsSmallEntry entries
    → AllByRecursion IsSmallEntry others → entries_text entries ≡ entries_text others → map entry_read entries ≡ map entry_read others
one_reading [] [] p q e = refl
one_reading [] (b ∷ others) p q e = absurd (no_head b (entries_text others) e)
one_reading (a ∷ entries) [] p q e = absurd (no_head a (entries_text entries) (sym e))
one_reading (a ∷ entries) (b ∷ others) p q e =
    let first = same_entry a b (entries_text entries) (entries_text others) p.0 q.0 e in
    let later = one_reading entries others p.1 q.1 first.1 in
    ap (λ r. r ∷ map entry_read entries) first.0 ∙ ap (λ l. entry_read b ∷ l) later

all_says : (lines : List Line) (rest : List GroupLine)
    → entries_text (map says lines ++ rest) ≡ flat_map line_text lines ++ entries_text rest
all_says [] rest = refl
all_says (line ∷ lines) rest =
    ap (λ l. line_text line ++ l) (all_says lines rest)
    ∙ sym (append_assoc (line_text line) (flat_map line_text lines) (entries_text rest))

pub group_is : (lines : List Line) (ready out : ℕ) → group_text lines ready out ≡ entries_text (group_lines lines ready out)
group_is [] ready out = refl
group_is (line ∷ lines) ready out =
    sym (all_says (line ∷ lines) (ends ready out ∷ [])
    ∙ ap (λ l. flat_map line_text (line ∷ lines) ++ l) (append-nil (end_line ready out)))
