-- The rows of a table, one after another, and the table in its page.
use Rattle.std.proofs.Common.{◌≡◌, ◌∙◌, ◌+◌, ◌<◌, ℕ, List, [], ◌∷◌, ◌++◌, length, take, get_or, refl, ap, sym, subst}
use Rattle.std.proofs.Common.{append_assoc, append-nil}
use Rattle.std.proofs.Common.{All, Contains, drop}
use Rattle.std.proofs.lemmas.List.{take_more}
use Rattle.std.proofs.lemmas.List.Elements.{All-contains_itself, All-drop, All-filter, All-same, All-take}
use Rattle.page_routes.specs.declared.route.Choice.{Choice}
use Rattle.gate_rules.specs.Rules.{GateRules}
use Rattle.ready_core.specs.Verdicts.{Judged}
use Rattle.ready_core.specs.declared.verdicts.Left.{Left}
use Rattle.ready_core.specs.declared.verdicts.Refusal.{Refusal}
use Rattle.ready_core.specs.declared.verdicts.Refusal.TheVariants.{Dependency}
use Rattle.state_core.specs.State.{State}
use Rattle.state_core.specs.declared.item.Item.{Item}
use Rattle.page_text.specs.declared.rows.Row.{Row}
use Rattle.page_text.specs.declared.rows.Row.TheVariants.{Waits}
use Rattle.page_text.specs.Table.{AddsCause, AddsEnd, AddsRow, AddsRows, AddsTable, AreRows, EndsRow, HasTable}
use Rattle.page_text.specs.Table.{IsCauseHtml}
use Rattle.page_text.specs.Table.{about_html, front_html, left_html, place_html, table_begins, table_ends, why_html}
use Rattle.std.specs.Prelude.{◌-◌, ◌*◌, IfSome, Option, None, Some, codes}
use Rattle.markup_text.specs.Adding.{adds_then, grows_then, none_is_some}
use Rattle.markup_text.specs.Growing.{Adds, AddsAll, Grows}
use Rattle.page_text.specs.Rowless.{AddsRowless, IsRowless}
use Rattle.page_text.specs.Rows.{all_rows, chosen_rows, is_asked, row_item, rows_on}
use Rattle.page_text.specs.Titles.{IsEnded}
use Rattle.page_text.specs.Walk.{IsEndOfChain}
use Rattle.page_text.proofs.Adding.{then2}
use Rattle.page_text.proofs.RowlessSteps.{end_rowless, lacks_rows, rowless_append}

module _ (state : State) (verdicts : Judged) where
  -- the end of an item's chain
  pub end_added : (item : Item) (cause : Left) (a b : Option (List ℕ)) → IsEndOfChain state verdicts item cause
      → Adds (left_html cause) a b → Grows (AddsEnd state verdicts item) a b
  end_added item cause a None ends adds = tt
  end_added item cause None (Some new) ends adds = absurd adds
  end_added item cause (Some old) (Some new) ends adds = record { cause = cause; ends = ends; is = adds }

  -- the cause of an item that waits for another one
  pub cause_added : (left : Left) (change : ℕ) (a b : Option (List ℕ)) → left.refusal ≡ Dependency change
      → Grows (AddsEnd state verdicts left.item) a b → Grows (AddsCause state verdicts left) a b
  cause_added left change a None is end = tt
  cause_added left change None (Some new) is end = absurd end
  cause_added left change (Some old) (Some new) is end =
      let html = left_html end.cause in record {
        cause = html;
        shown = subst (λ (refusal : Refusal). IsCauseHtml state verdicts left refusal html) (sym is)
            (end.cause, end.ends, refl);
        is = end.is;
      }

  -- of any other one
  pub no_cause : (left : Left) (a : Option (List ℕ)) → IsCauseHtml state verdicts left left.refusal []
      → Grows (AddsCause state verdicts left) a a
  no_cause left None none = tt
  no_cause left (Some html) none = record { cause = []; shown = none; is = sym (append-nil html) }

-- the rows that are asked for, and those of them that are on a page, are rows of verdicts
pub chosen_there : (state : State) (choice : Choice) (verdicts : Judged) (rows : List Row)
    → rows ≡ chosen_rows state choice verdicts → All (Contains (all_rows verdicts)) rows
chosen_there state choice verdicts rows are =
    let all = all_rows verdicts in
    All-same (Contains all) rows (chosen_rows state choice verdicts) are
    (All-filter (is_asked state choice) (Contains all) all (All-contains_itself all))

pub shown_there : (verdicts : Judged) (page : ℕ) (rows shown : List Row) → shown ≡ rows_on page rows
    → All (Contains (all_rows verdicts)) rows → All (Contains (all_rows verdicts)) shown
shown_there verdicts page rows shown are there =
    let all = all_rows verdicts in
    let passed = 100 * (page - 1) in
    All-same (Contains all) shown (rows_on page rows) are
    (All-take (Contains all) 100 (drop passed rows) (All-drop (Contains all) passed rows there))

module _ (gate : GateRules) (state : State) (verdicts : Judged) where
  -- a row that was added in three parts
  pub row_added : (row : Row) (a b c d : Option (List ℕ)) (more : List ℕ) → EndsRow gate state verdicts row more
      → Adds (place_html row) a b → Adds (about_html state (row_item row)) b c → Adds more c d
      → Grows (AddsRow gate state verdicts row) a d
  row_added row a b c d more ends p q r =
      grows_then a c d
      (λ x y z f m. record { more = more; ends = ends; is = then2 x y z (front_html state row) more f m })
      (adds_then a b c (place_html row) (about_html state (row_item row)) p q) r

  -- of which the last one is another HTML
  pub cells_added : (row : Row) (a b c d cells : Option (List ℕ)) → IfSome cells (EndsRow gate state verdicts row)
      → Adds (place_html row) a b → Adds (about_html state (row_item row)) b c → AddsAll cells c d
      → Grows (AddsRow gate state verdicts row) a d
  cells_added row a b c None cells ends p q r = tt
  cells_added row a b c (Some html) None ends p q r = absurd (none_is_some r)
  cells_added row a b c (Some html) (Some more) ends p q r = row_added row a b c (Some html) more ends p q r

  -- the cells of an item that waits
  pub cells_end : (left : Left) (a b c d e : Option (List ℕ)) → a ≡ Some [] → Adds (why_html gate left.refusal) a b
      → Adds (codes "<td>") b c → Grows (AddsCause state verdicts left) c d → Adds (codes "</td></tr>\n") d e
      → IfSome e (EndsRow gate state verdicts (Waits left))
  cells_end left a b c d None begun p q r s = tt
  cells_end left a b c None (Some v) begun p q r s = absurd s
  cells_end left a b None (Some u) (Some v) begun p q r s = absurd r
  cells_end left a None (Some z) (Some u) (Some v) begun p q r s = absurd q
  cells_end left None (Some y) (Some z) (Some u) (Some v) begun p q r s = absurd p
  cells_end left (Some x) (Some y) (Some z) (Some u) (Some v) begun p q r s =
      let empty : x ≡ [] = cc in
      let why = why_html gate left.refusal in (
        r.cause,
        r.shown,
        s ∙ ap (λ l. l ++ codes "</td></tr>\n")
            (r.is ∙ ap (λ l. l ++ r.cause) (q ∙ ap (λ l. l ++ codes "<td>") (p ∙ ap (λ l. l ++ why) empty))),
      )

  -- no row was added
  pub no_rows : (a : Option (List ℕ)) → Grows (AddsRows gate state verdicts []) a a
  no_rows None = tt
  no_rows (Some html) = record { table = []; is = sym (append-nil html); each = refl }

  are_more : (rows : List Row) (row : Row) (html more : List ℕ) → EndsRow gate state verdicts row more
      → AreRows gate state verdicts rows html
      → AreRows gate state verdicts (rows ++ row ∷ []) (html ++ (front_html state row ++ more))
  are_more [] row html more ends none = (
    more,
    [],
    ap (λ l. l ++ (front_html state row ++ more)) none ∙ sym (append-nil (front_html state row ++ more)),
    ends,
    refl,
  )
  are_more (other ∷ rows) row html more ends are =
      let new = front_html state row ++ more in (
        are.0,
        are.1 ++ new,
        ap (λ l. l ++ new) are.2 ∙ append_assoc (front_html state other ++ are.0) are.1 new,
        are.3,
        are_more rows row are.1 more ends are.4,
      )

  row_more : (rows : List Row) (row : Row) (a b c : List ℕ) → AddsRows gate state verdicts rows a b
      → AddsRow gate state verdicts row b c → AddsRows gate state verdicts (rows ++ row ∷ []) a c
  row_more rows row a b c so_far added = record {
    table = so_far.table ++ (front_html state row ++ added.more);
    is = then2 a b c so_far.table (front_html state row ++ added.more) so_far.is added.is;
    each = are_more rows row so_far.table added.more added.ends so_far.each;
  }

  pub rows_more : (rows : List Row) (i : ℕ) (d : Row) (a b c : Option (List ℕ)) → i < length rows
      → Grows (AddsRows gate state verdicts (take i rows)) a b
      → Grows (AddsRow gate state verdicts (get_or rows i d)) b c
      → Grows (AddsRows gate state verdicts (take (i + 1) rows)) a c
  rows_more rows i d a b c inside so_far added =
      grows_then a b c
      (λ x y z p q. subst (λ l. AddsRows gate state verdicts l x z) (sym (take_more rows i d inside))
      (row_more (take i rows) (get_or rows i d) x y z p q)) so_far added

  -- the table was added
  pub table_added : (page : ℕ) (rows shown : List Row) (a b c d : Option (List ℕ)) → shown ≡ rows_on page rows
      → Adds (table_begins page (length rows)) a b → Grows (AddsRows gate state verdicts shown) b c
      → Adds table_ends c d
      → Grows (AddsTable gate state verdicts page rows) a d
  table_added page rows shown a b c None are begins added ends = tt
  table_added page rows shown a b None (Some z) are begins added ends = absurd ends
  table_added page rows shown a None (Some y) (Some z) are begins added ends = absurd added
  table_added page rows shown None (Some x) (Some y) (Some z) are begins added ends = absurd begins
  table_added page rows shown (Some old) (Some x) (Some y) (Some z) are begins added ends =
      let first = table_begins page (length rows) in record {
        table = added.table;
        each = subst (λ list. AreRows gate state verdicts list added.table) are added.each;
        is = ends ∙ ap (λ l. l ++ table_ends)
            (added.is ∙ ap (λ l. l ++ added.table) begins ∙ append_assoc old first added.table)
            ∙ append_assoc old (first ++ added.table) table_ends;
      }

  -- a page that has no row before the table and none after it
  pub table_had : (page : ℕ) (rows : List Row) (a b c : Option (List ℕ)) (text : List ℕ) → IfSome a IsRowless
      → Grows (AddsTable gate state verdicts page rows) a b → AddsRowless b c → IsEnded c text
      → HasTable gate state verdicts page rows text
  table_had page rows a b None text before added after ended = absurd ended
  table_had page rows a None (Some z) text before added after ended = absurd after
  table_had page rows None (Some y) (Some z) text before added after ended = absurd added
  table_had page rows (Some x) (Some y) (Some z) text before added after ended =
      let ends = codes "</main>\n</body>\n</html>\n" in
      let body = table_begins page (length rows) ++ added.table ++ table_ends in record {
        before = x;
        table = added.table;
        after = after.html ++ ends;
        none_before = lacks_rows x before;
        each = added.each;
        none_after = lacks_rows (after.html ++ ends) (rowless_append after.html ends after.rowless end_rowless);
        is = ended ∙ ap (λ l. l ++ ends) (after.is ∙ ap (λ l. l ++ after.html) added.is)
            ∙ append_assoc (x ++ body) after.html ends;
      }
