-- A report's text has one reading: where two texts are equal, so is what they hold, line by line and number by number.
use Rattle.std.proofs.Common.{◌≡◌, ℕ, ◌^◌, ◌<◌, List, [], ◌∷◌, ◌++◌, length, map, flat_map, refl, sym, ap, ◌∙◌, arith}
use Rattle.std.proofs.Common.{append_assoc, decimal}
use Rattle.std.specs.Prelude.{codes}
use Rattle.std.specs.List.{AllByRecursion}
use Rattle.std.specs.Str.Parse.{AllDigits, digits_value}
use Rattle.std.proofs.lemmas.Fmt.{decimal_is_IsNumeral}
use Rattle.std.proofs.lemmas.Str.Parse.{digit_from_value}
use Rattle.state_core.specs.declared.item.Item.{Item}
use Rattle.gate_rules.specs.declared.condition.Side.{Side}
use Rattle.gate_rules.specs.declared.condition.Side.TheVariants.{Require, Reject}
use Rattle.gate_rules.specs.declared.condition.Clause.{Clause}
use Rattle.gate_rules.specs.declared.condition.Clause.TheVariants.{OpenState, CurrentSet, StatusIn, Approval}
use Rattle.ready_core.specs.declared.verdicts.Left.{Left}
use Rattle.ready_core.specs.declared.verdicts.Refusal.{Refusal}
use Rattle.ready_core.specs.declared.verdicts.Refusal.TheVariants.{Own, Cycle, Unknown, Dependency}
use Rattle.ready_core.specs.Verdicts.{Judged}
use Rattle.gate_rules.specs.Words.{clause_text, side_name}
use Rattle.ready_core.specs.Words.{refusal_text}
use Rattle.report_text.specs.Report.{item_text, ready_line, out_line, end_line, report_of}
use Rattle.report_text.specs.Printed.{printed, IsSmallItem, IsSmallClause, IsSmallRefusal, IsSmallLeft, AreSmall}

-- ---- numbers, up to a byte that is no digit

same_digits : (a b s t : List ℕ) (x y : ℕ) → AllDigits 10 a → AllDigits 10 b → x < 48 → y < 48 → a ++ x ∷ s ≡ b ++ y ∷ t
    → (a ≡ b) × (x ∷ s ≡ y ∷ t)
same_digits [] [] s t x y p q low_x low_y e = (refl, e)
same_digits [] (d ∷ b) s t x y p q low_x low_y e = let same : x ≡ d = cc in absurd
    (omega (arith, (digit_from_value d q.0).0))
same_digits (c ∷ a) [] s t x y p q low_x low_y e = let same : c ≡ y = cc in absurd
    (omega (arith, (digit_from_value c p.0).0))
same_digits (c ∷ a) (d ∷ b) s t x y p q low_x low_y e =
    let first : c ≡ d = cc in
    let rest : a ++ x ∷ s ≡ b ++ y ∷ t = cc in
    let later = same_digits a b s t x y p.1 q.1 low_x low_y rest in
    (ap (λ k. k ∷ a) first ∙ ap (λ l. d ∷ l) later.0, later.1)

pub same_number : (m n : ℕ) (s t : List ℕ) (x y : ℕ) → m < 2 ^ 64 → n < 2 ^ 64 → x < 48 → y < 48
    → decimal m ++ x ∷ s ≡ decimal n ++ y ∷ t → (m ≡ n) × (x ∷ s ≡ y ∷ t)
same_number m n s t x y small_m small_n low_x low_y e =
    let a = decimal_is_IsNumeral m small_m in
    let b = decimal_is_IsNumeral n small_n in
    let digits = same_digits (decimal m) (decimal n) s t x y a.0.1 b.0.1 low_x low_y e in
    (sym a.1 ∙ ap (digits_value 10) digits.0 ∙ b.1, digits.1)

-- ---- items

item_then : (item : Item) (rest : List ℕ)
    → item_text item ++ rest ≡ decimal item.change ++ 44 ∷ (decimal item.set ++ rest)
item_then item rest =
    append_assoc (decimal item.change ++ codes ",") (decimal item.set) rest
    ∙ append_assoc (decimal item.change) (codes ",") (decimal item.set ++ rest)

pub same_item : (a b : Item) (s t : List ℕ) (x y : ℕ) → IsSmallItem a → IsSmallItem b → x < 48 → y < 48
    → item_text a ++ x ∷ s ≡ item_text b ++ y ∷ t → (a ≡ b) × (x ∷ s ≡ y ∷ t)
same_item a b s t x y p q low_x low_y e =
    let change = same_number a.change b.change (decimal a.set ++ x ∷ s) (decimal b.set ++ y ∷ t) 44 44 p.change q.change (omega arith) (omega arith) (sym (item_then a (x ∷ s)) ∙ e ∙ item_then b (y ∷ t)) in
    let rest : decimal a.set ++ x ∷ s ≡ decimal b.set ++ y ∷ t = cc (change.1) in
    let set = same_number a.set b.set s t x y p.set q.set low_x low_y rest in
    (ap (λ n. record { change = n; set = a.set }) change.0 ∙ ap (λ n. record { change = b.change; set = n }) set.0, set.1)

-- ---- refusals, up to the end of the line

abbrev pub head : List ℕ → ℕ
head [] = 0
head (x ∷ xs) = x

abbrev clause_head : Clause → ℕ
clause_head OpenState = 111
clause_head CurrentSet = 99
clause_head StatusIn = 115
clause_head (Approval n) = 97

head-clause : (clause : Clause) (rest : List ℕ) → head (clause_text clause ++ rest) ≡ clause_head clause
head-clause OpenState rest = refl
head-clause CurrentSet rest = refl
head-clause StatusIn rest = refl
head-clause (Approval n) rest = refl

clause_heads : (a b : Clause) (s t : List ℕ) → clause_text a ++ s ≡ clause_text b ++ t → clause_head a ≡ clause_head b
clause_heads a b s t e = sym (head-clause a s) ∙ ap head e ∙ head-clause b t

same_clause : (a b : Clause) (s t : List ℕ) → IsSmallClause a → IsSmallClause b
    → clause_text a ++ 10 ∷ s ≡ clause_text b ++ 10 ∷ t → (a ≡ b) × (s ≡ t)
same_clause OpenState OpenState s t p q e = (refl, cc)
same_clause OpenState CurrentSet s t p q e =
    absurd (omega (arith, clause_heads OpenState CurrentSet (10 ∷ s) (10 ∷ t) e))
same_clause OpenState StatusIn s t p q e = absurd (omega (arith, clause_heads OpenState StatusIn (10 ∷ s) (10 ∷ t) e))
same_clause OpenState (Approval n) s t p q e =
    absurd (omega (arith, clause_heads OpenState (Approval n) (10 ∷ s) (10 ∷ t) e))
same_clause CurrentSet OpenState s t p q e =
    absurd (omega (arith, clause_heads CurrentSet OpenState (10 ∷ s) (10 ∷ t) e))
same_clause CurrentSet CurrentSet s t p q e = (refl, cc)
same_clause CurrentSet StatusIn s t p q e = absurd (omega (arith, clause_heads CurrentSet StatusIn (10 ∷ s) (10 ∷ t) e))
same_clause CurrentSet (Approval n) s t p q e =
    absurd (omega (arith, clause_heads CurrentSet (Approval n) (10 ∷ s) (10 ∷ t) e))
same_clause StatusIn OpenState s t p q e = absurd (omega (arith, clause_heads StatusIn OpenState (10 ∷ s) (10 ∷ t) e))
same_clause StatusIn CurrentSet s t p q e = absurd (omega (arith, clause_heads StatusIn CurrentSet (10 ∷ s) (10 ∷ t) e))
same_clause StatusIn StatusIn s t p q e = (refl, cc)
same_clause StatusIn (Approval n) s t p q e =
    absurd (omega (arith, clause_heads StatusIn (Approval n) (10 ∷ s) (10 ∷ t) e))
same_clause (Approval m) OpenState s t p q e =
    absurd (omega (arith, clause_heads (Approval m) OpenState (10 ∷ s) (10 ∷ t) e))
same_clause (Approval m) CurrentSet s t p q e =
    absurd (omega (arith, clause_heads (Approval m) CurrentSet (10 ∷ s) (10 ∷ t) e))
same_clause (Approval m) StatusIn s t p q e =
    absurd (omega (arith, clause_heads (Approval m) StatusIn (10 ∷ s) (10 ∷ t) e))
same_clause (Approval m) (Approval n) s t p q e =
    let rest : decimal m ++ 10 ∷ s ≡ decimal n ++ 10 ∷ t = cc in
    let number = same_number m n s t 10 10 p q (omega arith) (omega arith) rest in
    (ap Approval number.0, cc (number.1))

-- a refusal's first byte, which shows its kind
abbrev refusal_head : Refusal → ℕ
refusal_head (Own condition) = 114
refusal_head Cycle = 99
refusal_head (Unknown n) = 117
refusal_head (Dependency n) = 100

own_head : (side : Side) (clause rest : List ℕ) → head (side_name side ++ codes " " ++ clause ++ rest) ≡ 114
own_head Require clause rest = refl
own_head Reject clause rest = refl

head-refusal : (refusal : Refusal) (rest : List ℕ) → head (refusal_text refusal ++ rest) ≡ refusal_head refusal
head-refusal (Own condition) rest = own_head condition.side (clause_text condition.clause) rest
head-refusal Cycle rest = refl
head-refusal (Unknown n) rest = refl
head-refusal (Dependency n) rest = refl

refusal_heads : (a b : Refusal) (s t : List ℕ) → refusal_text a ++ s ≡ refusal_text b ++ t
    → refusal_head a ≡ refusal_head b
refusal_heads a b s t e = sym (head-refusal a s) ∙ ap head e ∙ head-refusal b t

-- the sides' names differ in their third byte
abbrev third : List ℕ → ℕ
third [] = 0
third (x ∷ []) = 0
third (x ∷ y ∷ []) = 0
third (x ∷ y ∷ z ∷ rest) = z

same_own : (side other : Side) (a b : Clause) (s t : List ℕ) → IsSmallClause a → IsSmallClause b
    → side_name side ++ codes " " ++ clause_text a ++ 10 ∷ s ≡ side_name other ++ codes " " ++ clause_text b ++ 10 ∷ t
    → (side ≡ other) × (a ≡ b) × (s ≡ t)
same_own Require Require a b s t p q e = let rest : clause_text a ++ 10 ∷ s ≡ clause_text b ++ 10 ∷ t = cc in let same = same_clause a b s t p q rest in (refl, same.0, same.1)
same_own Require Reject a b s t p q e = let bad : 113 ≡ 106 = ap third e in absurd (omega (arith, bad))
same_own Reject Require a b s t p q e = let bad : 106 ≡ 113 = ap third e in absurd (omega (arith, bad))
same_own Reject Reject a b s t p q e = let rest : clause_text a ++ 10 ∷ s ≡ clause_text b ++ 10 ∷ t = cc in let same = same_clause a b s t p q rest in (refl, same.0, same.1)

same_refusal : (a b : Refusal) (s t : List ℕ) → IsSmallRefusal a → IsSmallRefusal b
    → refusal_text a ++ 10 ∷ s ≡ refusal_text b ++ 10 ∷ t → (a ≡ b) × (s ≡ t)
same_refusal (Own a) (Own b) s t p q e =
    let own = same_own a.side b.side a.clause b.clause s t p q e in
    (ap Own (ap (λ x. record { side = x; clause = a.clause }) own.0 ∙ ap (λ x. record { side = b.side; clause = x }) own.1), own.2)
same_refusal (Own m) Cycle s t p q e = absurd (omega (arith, refusal_heads (Own m) Cycle (10 ∷ s) (10 ∷ t) e))
same_refusal (Own m) (Unknown n) s t p q e =
    absurd (omega (arith, refusal_heads (Own m) (Unknown n) (10 ∷ s) (10 ∷ t) e))
same_refusal (Own m) (Dependency n) s t p q e =
    absurd (omega (arith, refusal_heads (Own m) (Dependency n) (10 ∷ s) (10 ∷ t) e))
same_refusal Cycle (Own n) s t p q e = absurd (omega (arith, refusal_heads Cycle (Own n) (10 ∷ s) (10 ∷ t) e))
same_refusal Cycle Cycle s t p q e = (refl, cc)
same_refusal Cycle (Unknown n) s t p q e = absurd (omega (arith, refusal_heads Cycle (Unknown n) (10 ∷ s) (10 ∷ t) e))
same_refusal Cycle (Dependency n) s t p q e =
    absurd (omega (arith, refusal_heads Cycle (Dependency n) (10 ∷ s) (10 ∷ t) e))
same_refusal (Unknown m) (Own n) s t p q e =
    absurd (omega (arith, refusal_heads (Unknown m) (Own n) (10 ∷ s) (10 ∷ t) e))
same_refusal (Unknown m) Cycle s t p q e = absurd (omega (arith, refusal_heads (Unknown m) Cycle (10 ∷ s) (10 ∷ t) e))
same_refusal (Unknown m) (Unknown n) s t p q e =
    let rest : decimal m ++ 10 ∷ s ≡ decimal n ++ 10 ∷ t = cc in
    let number = same_number m n s t 10 10 p q (omega arith) (omega arith) rest in
    (ap Unknown number.0, cc (number.1))
same_refusal (Unknown m) (Dependency n) s t p q e =
    absurd (omega (arith, refusal_heads (Unknown m) (Dependency n) (10 ∷ s) (10 ∷ t) e))
same_refusal (Dependency m) (Own n) s t p q e =
    absurd (omega (arith, refusal_heads (Dependency m) (Own n) (10 ∷ s) (10 ∷ t) e))
same_refusal (Dependency m) Cycle s t p q e =
    absurd (omega (arith, refusal_heads (Dependency m) Cycle (10 ∷ s) (10 ∷ t) e))
same_refusal (Dependency m) (Unknown n) s t p q e =
    absurd (omega (arith, refusal_heads (Dependency m) (Unknown n) (10 ∷ s) (10 ∷ t) e))
same_refusal (Dependency m) (Dependency n) s t p q e =
    let rest : decimal m ++ 10 ∷ s ≡ decimal n ++ 10 ∷ t = cc in
    let number = same_number m n s t 10 10 p q (omega arith) (omega arith) rest in
    (ap Dependency number.0, cc (number.1))

-- ---- lines

pub line_then : (text rest : List ℕ) → (text ++ 10 ∷ []) ++ rest ≡ text ++ 10 ∷ rest
line_then text rest = append_assoc text (10 ∷ []) rest

same_ready : (a b : Item) (s t : List ℕ) → IsSmallItem a → IsSmallItem b → ready_line a ++ s ≡ ready_line b ++ t
    → (a ≡ b) × (s ≡ t)
same_ready a b s t p q e =
    let whole = sym (line_then (codes "ready " ++ item_text a) s) ∙ e ∙ line_then (codes "ready " ++ item_text b) t in
    let rest : item_text a ++ 10 ∷ s ≡ item_text b ++ 10 ∷ t = cc (whole) in
    let item = same_item a b s t 10 10 p q (omega arith) (omega arith) rest in
    (item.0, cc (item.1))

out_then : (left : Left) (rest : List ℕ)
    → out_line left ++ rest ≡ codes "out " ++ (item_text left.item ++ 32 ∷ (refusal_text left.refusal ++ 10 ∷ rest))
out_then left rest =
    line_then (codes "out " ++ item_text left.item ++ codes " " ++ refusal_text left.refusal) rest
    ∙ append_assoc (codes "out " ++ item_text left.item ++ codes " ") (refusal_text left.refusal) (10 ∷ rest)
    ∙ append_assoc (codes "out " ++ item_text left.item) (codes " ") (refusal_text left.refusal ++ 10 ∷ rest)

pub same_out : (a b : Left) (s t : List ℕ) → IsSmallItem a.item → IsSmallItem b.item → IsSmallRefusal a.refusal
    → IsSmallRefusal b.refusal
    → out_line a ++ s ≡ out_line b ++ t → (printed a ≡ printed b) × (s ≡ t)
same_out a b s t item_a item_b p q e =
    let whole = sym (out_then a s) ∙ e ∙ out_then b t in
    let rest : item_text a.item ++ 32 ∷ (refusal_text a.refusal ++ 10 ∷ s) ≡ item_text b.item ++ 32 ∷ (refusal_text b.refusal ++ 10 ∷ t) = cc (whole) in
    let item = same_item a.item b.item (refusal_text a.refusal ++ 10 ∷ s) (refusal_text b.refusal ++ 10 ∷ t) 32 32 item_a item_b (omega arith) (omega arith) rest in
    let after : refusal_text a.refusal ++ 10 ∷ s ≡ refusal_text b.refusal ++ 10 ∷ t = cc (item.1) in
    let refusal = same_refusal a.refusal b.refusal s t p q after in
    (ap (λ i. (i, a.refusal)) item.0 ∙ ap (λ r. (b.item, r)) refusal.0, refusal.1)

-- ---- the lines of one kind, up to those of another

same_all_ready : (items others : List Item) (s t : List ℕ) → AllByRecursion IsSmallItem items
    → AllByRecursion IsSmallItem others → head s < 114 → head t < 114
    → flat_map ready_line items ++ s ≡ flat_map ready_line others ++ t → (items ≡ others) × (s ≡ t)
same_all_ready [] [] s t p q low_s low_t e = (refl, e)
same_all_ready [] (b ∷ others) s t p q low_s low_t e = let same : head s ≡ 114 = ap head e in absurd
    (omega (arith, same))
same_all_ready (a ∷ items) [] s t p q low_s low_t e = let same : 114 ≡ head t = ap head e in absurd
    (omega (arith, same))
same_all_ready (a ∷ items) (b ∷ others) s t p q low_s low_t e =
    let whole = sym (append_assoc (ready_line a) (flat_map ready_line items) s) ∙ e ∙ append_assoc (ready_line b) (flat_map ready_line others) t in
    let line = same_ready a b (flat_map ready_line items ++ s) (flat_map ready_line others ++ t) p.0 q.0 whole in
    let later = same_all_ready items others s t p.1 q.1 low_s low_t line.1 in
    (ap (λ i. i ∷ items) line.0 ∙ ap (λ l. b ∷ l) later.0, later.1)

same_all_out : (out others : List Left) (s t : List ℕ) → AllByRecursion IsSmallLeft out
    → AllByRecursion IsSmallLeft others → head s < 111 → head t < 111
    → flat_map out_line out ++ s ≡ flat_map out_line others ++ t → map printed out ≡ map printed others
same_all_out [] [] s t p q low_s low_t e = refl
same_all_out [] (b ∷ others) s t p q low_s low_t e = let same : head s ≡ 111 = ap head e in absurd (omega (arith, same))
same_all_out (a ∷ out) [] s t p q low_s low_t e = let same : 111 ≡ head t = ap head e in absurd (omega (arith, same))
same_all_out (a ∷ out) (b ∷ others) s t p q low_s low_t e =
    let whole = sym (append_assoc (out_line a) (flat_map out_line out) s) ∙ e ∙ append_assoc (out_line b) (flat_map out_line others) t in
    let line = same_out a b (flat_map out_line out ++ s) (flat_map out_line others ++ t) p.0.item q.0.item p.0.refusal q.0.refusal whole in
    let later = same_all_out out others s t p.1 q.1 low_s low_t line.1 in
    ap (λ l. l ∷ map printed out) line.0 ∙ ap (λ l. printed b ∷ l) later

-- what follows the ready lines begins with no `r`
below_ready : (out : List Left) (ready count : ℕ) → head (flat_map out_line out ++ end_line ready count) < 114
below_ready [] ready count = omega arith
below_ready (left ∷ out) ready count = omega arith

pub one_report : (verdicts others : Judged) → AreSmall verdicts → AreSmall others
    → report_of verdicts ≡ report_of others
    → (verdicts.ready ≡ others.ready) × (map printed verdicts.out ≡ map printed others.out)
one_report verdicts others p q e =
    let end_a = end_line (length verdicts.ready) (length verdicts.out) in
    let end_b = end_line (length others.ready) (length others.out) in
    let whole =
    sym (append_assoc (flat_map ready_line verdicts.ready) (flat_map out_line verdicts.out) end_a)
    ∙ e
    ∙ append_assoc (flat_map ready_line others.ready) (flat_map out_line others.out) end_b
    in
    let ready = same_all_ready verdicts.ready others.ready (flat_map out_line verdicts.out ++ end_a)
    (flat_map out_line others.out ++ end_b) p.ready q.ready
    (below_ready verdicts.out (length verdicts.ready) (length verdicts.out)) (below_ready others.out (length others.ready) (length others.out)) whole in
    (ready.0, same_all_out verdicts.out others.out end_a end_b p.out q.out (omega arith) (omega arith) ready.1)
