-- The pages of a list, and the report.
use Rattle.std.proofs.Common.{◌≡◌, ◌∙◌, ◌+◌, ◌*◌, ◌-◌, ℕ, zero, suc, List, [], ◌∷◌, ◌++◌, Bool, true, None, map}
use Rattle.std.proofs.Common.{flat_map, length, take, drop, refl, ap, sym, arith}
use Rattle.std.specs.Prelude.{filter, ◌&&◌, if◌then◌else◌}
use Rattle.std.proofs.Math.Seq.{take-add}
use Rattle.std.proofs.lemmas.List.Concat.{flat_map-append}
use Rattle.std.proofs.lemmas.List.Folds.{flat_map-map}
use Rattle.state_core.specs.State.{State}
use Rattle.state_core.specs.declared.item.Item.{Item}
use Rattle.ready_core.specs.Verdicts.{Judged}
use Rattle.report_text.specs.Report.{end_line, ready_line, report_of}
use Rattle.page_routes.specs.declared.route.Choice.{Choice}
use Rattle.page_routes.specs.declared.route.Shown.TheVariants.{All}
use Rattle.page_text.specs.declared.rows.Row.{Row}
use Rattle.page_text.specs.declared.rows.Row.TheVariants.{Enters, Waits}
use Rattle.page_text.specs.Rows.{all_rows, chosen_rows, entering, has_reason, has_words, is_asked, is_shown, row_item}
use Rattle.page_text.specs.Rows.{row_line, rows_on, rows_to, words_searched}

no_rows : {X : Type 0} (rows : List X) → [] ≡ take (100 * 0) rows
no_rows [] = refl
no_rows (row ∷ rows) = refl

pub pages_in_turn : (pages : ℕ) (rows : List Row) → rows_to pages rows ≡ take (100 * pages) rows
pages_in_turn zero rows = no_rows rows
pages_in_turn (suc pages) rows =
    let before : 100 * (suc pages - 1) ≡ 100 * pages = omega arith in
    let through : 100 * suc pages ≡ 100 * pages + 100 = omega arith in
    ap (λ l. l ++ rows_on (suc pages) rows) (pages_in_turn pages rows)
    ∙ ap (λ n. take (100 * pages) rows ++ take 100 (drop n rows)) before
    ∙ sym (take-add (100 * pages) 100 rows)
    ∙ ap (λ n. take n rows) (sym through)

shown_all : (row : Row) → is_shown All row ≡ true
shown_all (Enters item place) = refl
shown_all (Waits left) = refl

asked_all : (state : State) (choice : Choice) → choice.shown ≡ All → choice.reason ≡ None → choice.words ≡ None
    → (row : Row) → is_asked state choice row ≡ true
asked_all state choice shown reason words row =
    ap (λ s. is_shown s row && has_reason choice.reason row
    && has_words state (words_searched choice.words) (row_item row)) shown
    ∙ ap (λ r. is_shown All row && has_reason r row
    && has_words state (words_searched choice.words) (row_item row)) reason
    ∙ ap (λ w. is_shown All row && true && has_words state (words_searched w) (row_item row)) words
    ∙ ap (λ b. b && true && true) (shown_all row)

kept : {X : Type 0} (test : X → Bool) → ((x : X) → test x ≡ true) → (xs : List X) → filter test xs ≡ xs
kept test passes [] = refl
kept test passes (x ∷ xs) =
    ap (λ b. if b then x ∷ filter test xs else filter test xs) (passes x) ∙ ap (λ l. x ∷ l) (kept test passes xs)

ready_lines : (place : ℕ) (items : List Item) → flat_map row_line (entering place items) ≡ flat_map ready_line items
ready_lines place [] = refl
ready_lines place (item ∷ items) = ap (λ l. ready_line item ++ l) (ready_lines (suc place) items)

pub all_are_the_report : (state : State) (choice : Choice) (verdicts : Judged) → choice.shown ≡ All
    → choice.reason ≡ None → choice.words ≡ None
    → flat_map row_line (chosen_rows state choice verdicts) ++ end_line (length verdicts.ready) (length verdicts.out)
    ≡ report_of verdicts
all_are_the_report state choice verdicts shown reason words =
    ap (λ l. flat_map row_line l ++ end_line (length verdicts.ready) (length verdicts.out))
    (kept (is_asked state choice) (asked_all state choice shown reason words) (all_rows verdicts))
    ∙ ap (λ l. l ++ end_line (length verdicts.ready) (length verdicts.out))
    (flat_map-append row_line (entering 1 verdicts.ready) (map Waits verdicts.out)
    ∙ ap (λ l. l ++ flat_map row_line (map Waits verdicts.out)) (ready_lines 1 verdicts.ready)
    ∙ ap (λ l. flat_map ready_line verdicts.ready ++ l) (flat_map-map row_line Waits verdicts.out))
