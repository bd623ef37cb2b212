-- What a front lacks, line by line.
use Rattle.std.proofs.Common.{◌≡◌, ◌≤◌, ◌<◌, ◌&&◌, ◌||◌, ◌==◌, ℕ, Bool, true, false, cond, List, [], ◌∷◌, ◌++◌}
use Rattle.std.proofs.Common.{flat_map, filter, take, length, get_or, refl, sym, ap, subst, ◌∙◌, arith, eq-eqb, take_at}
use Rattle.std.proofs.Common.{append_assoc}
use Rattle.std.specs.Prelude.{nat_lt}
use Rattle.std.specs.declared.cmp.Ordering.{Ordering}
use Rattle.std.specs.declared.cmp.Ordering.TheVariants.{Less, Equal, Greater}
use Rattle.std.specs.Ordering.{ordering_then, nat_cmp}
use Rattle.std.specs.List.{All, AllByRecursion, list_any}
use Rattle.std.specs.List.Sorted.{IsStrictlySortedBy}
use Rattle.std.proofs.lemmas.Bool.{ltb-true, ltb-false, lt-ltb, le-ltb}
use Rattle.std.proofs.lemmas.List.{length-map, length-append, take_all, take-append-le}
use Rattle.std.proofs.lemmas.List.Elements.{All-head, All-tail}
use Rattle.std.proofs.lemmas.List.Folds.{list_any-append, list_any_at}
use Rattle.std.proofs.lemmas.List.Kept.{IsStrictlySortedBy-filter}
use Rattle.review_ops.specs.Deed.{deed_cmp}
use Rattle.review_ops.specs.Operation.{Operation}
use Rattle.replica_core.specs.Clock.{is_of}
use Rattle.replica_core.specs.Front.{Reaches, row_order, reach_of}
use Rattle.replica_core.specs.Journal.{same_operation, has}
use Rattle.replica_core.specs.Missing.{row_by_row, is_past, IsMissing}
use Rattle.replica_core.specs.Sets.{has-filter}
use Rattle.replica_core.specs.RowLine.{RowLine}
use Rattle.replica_core.specs.Lines.{ops_of, row_of, rows_of, IsLine, AreLines}
use Rattle.replica_core.specs.Searches.{ops_past}
use Rattle.replica_core.proofs.Sought.{IsOf, site_of, start_of}
use Rattle.replica_core.proofs.Filed.{all_of, has_of}
use Rattle.replica_core.proofs.LineLists.{row_at, empty_line}

-- what the front lacks of a line, and of all of them
abbrev pub past : List Operation → Reaches → RowLine → List Operation
past journal front line = ops_past (reach_of front line.site line.start) (ops_of journal line)

abbrev pub lacked : List Operation → Reaches → List RowLine → List Operation
lacked journal front lines = flat_map (past journal front) lines

nothing_both : (a : Bool) → (a && false) ≡ false
nothing_both true = refl
nothing_both false = refl

and_true : (a : Bool) → (a && true) ≡ a
and_true true = refl
and_true false = refl

-- ---- in order
then_less : (o p q : Ordering) → ordering_then o p ≡ Less → ordering_then o (ordering_then p q) ≡ Less
then_less Less p q e = refl
then_less Equal Less q e = refl
then_less Equal Equal q e = cc
then_less Equal Greater q e = cc
then_less Greater p q e = cc

row_before : (x y : Operation) → row_order (x.stamp.site, x.stamp.start) (y.stamp.site, y.stamp.start) ≡ Less
    → row_by_row x y ≡ Less
row_before x y e = then_less (nat_cmp x.stamp.site y.stamp.site) (nat_cmp x.stamp.start y.stamp.start) (ordering_then (nat_cmp x.stamp.seq y.stamp.seq) (ordering_then (nat_cmp x.stamp.time y.stamp.time) (deed_cmp x.deed y.deed))) e

all_kept : {T : Type 0} (P : T → Type 0) (test : T → Bool) (xs : List T) → AllByRecursion P xs
    → AllByRecursion P (filter test xs)
all_kept P test [] all = tt
all_kept P test (x ∷ xs) all = elim (test x) as (λ t. AllByRecursion P (cond t (x ∷ filter test xs) (filter test xs))) [
  | true ↦ (all.0, all_kept P test xs all.1)
  | false ↦ all_kept P test xs all.1
]

all_joined : {T : Type 0} (P : T → Type 0) (xs ys : List T) → AllByRecursion P xs → AllByRecursion P ys
    → AllByRecursion P (xs ++ ys)
all_joined P [] ys all also = also
all_joined P (x ∷ xs) ys all also = (all.0, all_joined P xs ys all.1 also)

-- lists in order, the first of one row and the second of later ones
module _ (site start : ℕ) where
  before_all : (x : Operation) → IsOf site start x → (ys : List Operation)
      → AllByRecursion (λ y. row_order (site, start) (y.stamp.site, y.stamp.start) ≡ Less) ys
      → AllByRecursion (λ y. row_by_row x y ≡ Less) ys
  before_all x of_x [] later = tt
  before_all x of_x (y ∷ ys) later =
      (row_before x y (ap (λ s. row_order (s, x.stamp.start) (y.stamp.site, y.stamp.start)) (site_of site start x of_x) ∙ ap (λ s. row_order (site, s) (y.stamp.site, y.stamp.start)) (start_of site start x of_x) ∙ later.0), before_all x of_x ys later.1)

  sorted_joined : (xs ys : List Operation) → IsStrictlySortedBy row_by_row xs → AllByRecursion (IsOf site start) xs
      → IsStrictlySortedBy row_by_row ys
      → AllByRecursion (λ y. row_order (site, start) (y.stamp.site, y.stamp.start) ≡ Less) ys
      → IsStrictlySortedBy row_by_row (xs ++ ys)
  unfolding IsStrictlySortedBy
  sorted_joined [] ys sorted all also later = also
  sorted_joined (x ∷ xs) ys sorted all also later =
      (all_joined (λ y. row_by_row x y ≡ Less) xs ys sorted.0 (before_all x all.0 ys later), sorted_joined xs ys sorted.1 all.1 also later)

module _ (journal : List Operation) (front : Reaches) where
  all_past : (line : RowLine) → IsLine journal line
      → AllByRecursion (IsOf line.site line.start) (past journal front line)
  all_past line is = all_kept (IsOf line.site line.start)
      (λ op. nat_lt (reach_of front line.site line.start) op.stamp.seq) (ops_of journal line)
      (all_of journal line is.filed)

  later_row : (row : ℕ × ℕ) (site start : ℕ) (xs : List Operation) → row_order row (site, start) ≡ Less
      → AllByRecursion (IsOf site start) xs
      → AllByRecursion (λ y. row_order row (y.stamp.site, y.stamp.start) ≡ Less) xs
  later_row row site start [] less all = tt
  later_row row site start (x ∷ xs) less all = (ap (λ s. row_order row (s, x.stamp.start)) (site_of site start x all.0) ∙ ap (λ s. row_order row (site, s)) (start_of site start x all.0) ∙ less, later_row row site start xs less all.1)

  later_all : (row : ℕ × ℕ) (lines : List RowLine) → AllByRecursion (λ r. row_order row r ≡ Less) (rows_of lines)
      → All (IsLine journal) lines
      → AllByRecursion (λ y. row_order row (y.stamp.site, y.stamp.start) ≡ Less) (lacked journal front lines)
  later_all row [] less each = tt
  later_all row (line ∷ lines) less each =
      all_joined (λ y. row_order row (y.stamp.site, y.stamp.start) ≡ Less) (past journal front line)
      (lacked journal front lines)
      (later_row row line.site line.start (past journal front line) less.0 (all_past line (All-head (IsLine journal) line lines each)))
      (later_all row lines less.1 (All-tail (IsLine journal) line lines each))

  lacked_sorted : (lines : List RowLine) → IsStrictlySortedBy row_order (rows_of lines) → All (IsLine journal) lines
      → IsStrictlySortedBy row_by_row (lacked journal front lines)
  unfolding IsStrictlySortedBy
  lacked_sorted [] sorted each = tt
  lacked_sorted (line ∷ lines) sorted each =
      let is = All-head (IsLine journal) line lines each in
      let rest = All-tail (IsLine journal) line lines each in
      sorted_joined line.site line.start (past journal front line) (lacked journal front lines)
      (IsStrictlySortedBy-filter row_by_row (λ op. nat_lt (reach_of front line.site line.start) op.stamp.seq) (ops_of journal line) is.filed.ordered.sorted)
      (all_past line is) (lacked_sorted lines sorted.1 rest) (later_all (row_of line) lines sorted.0 rest)

  -- ---- and just those that lie past it
  at_line : (op : Operation) (line : RowLine) (of : Bool) → is_of line.site line.start op ≡ of → (h : Bool)
      → (nat_lt (reach_of front line.site line.start) op.stamp.seq && (of && h)) ≡ (of && (is_past front op && h))
  at_line op line true e h = ap (λ r. nat_lt r op.stamp.seq && h)
      (λ i. reach_of front (sym (site_of line.site line.start op e) i) (sym (start_of line.site line.start op e) i))
  at_line op line false e h = nothing_both (nat_lt (reach_of front line.site line.start) op.stamp.seq)

  past_has : (op : Operation) (line : RowLine) → IsLine journal line
      → has (past journal front line) op ≡ (is_of line.site line.start op && (is_past front op && has journal op))
  past_has op line is =
      has-filter (λ o. nat_lt (reach_of front line.site line.start) o.stamp.seq) (ops_of journal line) op
      ∙ ap (λ t. nat_lt (reach_of front line.site line.start) op.stamp.seq && t) (has_of journal line is.filed op)
      ∙ at_line op line (is_of line.site line.start op) refl (has journal op)

  lacked_has : (op : Operation) (lines : List RowLine) → All (IsLine journal) lines → has
      (lacked journal front lines) op ≡ list_any
      (λ line. is_of line.site line.start op && (is_past front op && has journal op)) lines
  lacked_has op [] each = refl
  lacked_has op (line ∷ lines) each =
      list_any-append (λ o. same_operation o op) (past journal front line) (lacked journal front lines)
      ∙ ap (λ t. t || has (lacked journal front lines) op)
      (past_has op line (All-head (IsLine journal) line lines each))
      ∙ ap (λ t. (is_of line.site line.start op && (is_past front op && has journal op)) || t)
      (lacked_has op lines (All-tail (IsLine journal) line lines each))

  none_by : (test : RowLine → Bool) (lines : List RowLine) → list_any (λ line. test line && false) lines ≡ false
  none_by test [] = refl
  none_by test (line ∷ lines) =
      ap (λ t. t || list_any (λ l. test l && false) lines) (nothing_both (test line)) ∙ none_by test lines

  some_by : (test : RowLine → Bool) (lines : List RowLine)
      → list_any (λ line. test line && true) lines ≡ list_any test lines
  some_by test [] = refl
  some_by test (line ∷ lines) = ap (λ t. t || list_any (λ l. test l && true) lines) (and_true (test line))
      ∙ ap (λ t. test line || t) (some_by test lines)

  module _ (lines : List RowLine) (are : AreLines journal lines) where
    of_some : (op : Operation) → has journal op ≡ true → list_any (λ line. is_of line.site line.start op) lines ≡ true
    of_some op h =
        let there = are.whole op h in
        let k = there.0 in
        let low : k < length lines = omega (arith, there.1, length-map lines row_of) in
        let line = get_or lines k (empty_line op.stamp.site op.stamp.start) in
        let row : row_of line ≡ (op.stamp.site, op.stamp.start) = sym (row_at lines k low (op.stamp.site, op.stamp.start) (empty_line op.stamp.site op.stamp.start)) ∙ there.2 in
        list_any_at (λ l. is_of l.site l.start op) lines k (empty_line op.stamp.site op.stamp.start) low
        (ap (λ t. t && op.stamp.start == line.start) (eq-eqb op.stamp.site line.site (sym (ap (λ r. r.0) row))) ∙ eq-eqb op.stamp.start line.start (sym (ap (λ r. r.1) row)))

    whole_has : (op : Operation) (p h : Bool) → is_past front op ≡ p → has journal op ≡ h
        → list_any (λ line. is_of line.site line.start op && (p && h)) lines ≡ (p && h)
    whole_has op true true is_p is_h = some_by (λ line. is_of line.site line.start op) lines ∙ of_some op is_h
    whole_has op true false is_p is_h = none_by (λ line. is_of line.site line.start op) lines
    whole_has op false h is_p is_h = none_by (λ line. is_of line.site line.start op) lines

    pub IsMissing-lines : IsMissing journal front (lacked journal front lines)
    IsMissing-lines = record {
      sorted = lacked_sorted lines are.sorted are.each;
      members = λ op. lacked_has op lines are.each ∙ whole_has op (is_past front op) (has journal op) refl refl
          ∙ sym (has-filter (is_past front) journal op);
    }

-- ---- up to a limit
-- all are copied where the limit isn't passed
all_copied : (ops : List Operation) (limit : ℕ) → nat_lt limit (length ops) ≡ false
    → (take limit ops ≡ ops) × (length ops ≤ limit)
all_copied ops limit none = let low : length ops ≤ limit = ltb-false limit (length ops) none in (take_all limit ops low, low)

pub nothing_left : (ops : List Operation) (limit : ℕ) → length ops ≤ limit
    → (ops ≡ take limit ops) × (false ≡ nat_lt limit (length ops))
nothing_left ops limit low = (sym (take_all limit ops low), sym (le-ltb limit (length ops) low))

-- others are left where as many as the limit are in, and one more is to come
pub one_left : (ops whole rest : List Operation) (op : Operation) (limit : ℕ) → length ops ≡ limit
    → ops ++ op ∷ rest ≡ whole → (ops ≡ take limit whole) × (true ≡ nat_lt limit (length whole))
one_left ops whole rest op limit full is = (
  sym (ap (take limit) (sym is) ∙ take_at ops (op ∷ rest) limit full),
  sym (ap (λ l. nat_lt limit (length l)) (sym is) ∙ lt-ltb limit (length (ops ++ op ∷ rest)) (omega (arith, full, length-append ops (op ∷ rest)))),
)

-- what was copied, this line's and what later lines lack are the whole
module _ (ops past rest whole new : List Operation) (limit : ℕ) (more : Bool) (is : ops ++ (past ++ rest) ≡ whole)
    (copied : new ≡ take limit (ops ++ past)) (left : more ≡ nat_lt limit (length (ops ++ past))) where
  joined : (ops ++ past) ++ rest ≡ whole
  joined = append_assoc ops past rest ∙ is

  pub stopped : more ≡ true → (new ≡ take limit whole) × (true ≡ nat_lt limit (length whole))
  stopped some =
      let high : limit < length (ops ++ past) = ltb-true limit (length (ops ++ past)) (sym left ∙ some) in (
        copied ∙ sym (take-append-le limit (ops ++ past) rest (omega (arith, high))) ∙ ap (take limit) joined,
        sym (ap (λ l. nat_lt limit (length l)) (sym joined) ∙ lt-ltb limit (length ((ops ++ past) ++ rest)) (omega (arith, high, length-append (ops ++ past) rest))),
      )

  pub gone_on : more ≡ false → (new ++ rest ≡ whole) × (length new ≤ limit)
  gone_on none =
      let parts = all_copied (ops ++ past) limit (sym left ∙ none) in
      let all : new ≡ ops ++ past = copied ∙ parts.0 in
      (ap (λ l. l ++ rest) all ∙ joined, subst (λ l. length l ≤ limit) (sym all) parts.1)
