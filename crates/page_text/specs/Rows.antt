-- The rows of a list of items, which of them are asked for, and which are on a page. What is listed is the project's
-- own; that an item is over is as in `report_changes`.
use Rattle.std.specs.Prelude.{ℕ, zero, suc, Bool, true, false, ◌&&◌, ◌||◌, ◌-◌, ◌*◌, not, List, [], ◌∷◌, ◌++◌, Option}
use Rattle.std.specs.Prelude.{None, Some}
use Rattle.std.specs.Prelude.{String, decimal, drop, filter, map, option_map, string_bytes, take}
use Rattle.std.specs.Char.{to_ascii_lowercase}
use Rattle.std.specs.declared.alloc.Global.{Global}
use Rattle.gate_rules.specs.declared.condition.Side.{Side}
use Rattle.gate_rules.specs.declared.condition.Side.TheVariants as side
use Rattle.state_core.specs.State.{State}
use Rattle.state_core.specs.declared.item.Item.{Item}
use Rattle.ready_core.specs.Verdicts.{Judged}
use Rattle.ready_core.specs.declared.verdicts.Refusal.{Refusal}
use Rattle.ready_core.specs.declared.verdicts.Refusal.TheVariants as refusal
use Rattle.report_changes.specs.Over.{is_over}
use Rattle.report_text.specs.Report.{out_line, ready_line}
use Rattle.page_routes.specs.declared.route.Choice.{Choice}
use Rattle.page_routes.specs.declared.route.Reason.{Reason}
use Rattle.page_routes.specs.declared.route.Reason.TheVariants.{Require, Reject, Cycle, Unknown, Dependency}
use Rattle.page_routes.specs.declared.route.Shown.{Shown}
use Rattle.page_routes.specs.declared.route.Shown.TheVariants.{All, Open, Ready}
use Rattle.page_text.specs.declared.rows.Row.{Row}
use Rattle.page_text.specs.declared.rows.Row.TheVariants.{Enters, Waits}
use Rattle.page_text.specs.Search.{contains}
use Rattle.page_text.specs.Subject.{subject_of}

-- ---- all rows

-- the ready items with their places, the first of which is given
abbrev pub entering : ℕ → List Item → List Row
entering place [] = []
entering place (item ∷ items) = Enters item place ∷ entering (suc place) items

-- the ready items in gate order, from place 1, and then the others in item order
abbrev pub all_rows : Judged → List Row
all_rows verdicts = entering 1 verdicts.ready ++ map Waits verdicts.out

abbrev pub row_item : Row → Item
row_item (Enters item place) = item
row_item (Waits left) = left.item

-- ---- which are asked for

-- an item that waits is open where it isn't over
abbrev pub is_shown : Shown → Row → Bool
is_shown shown (Enters item place) = true
is_shown Open (Waits left) = not (is_over left.refusal)
is_shown Ready (Waits left) = false
is_shown All (Waits left) = true

abbrev pub is_by : Reason → Side → Bool
is_by Require side.Require = true
is_by Reject side.Reject = true
is_by _ _ = false

-- the refusal is for the reason: a condition of its side, or of its kind
abbrev pub is_for : Reason → Refusal → Bool
is_for reason (refusal.Own condition) = is_by reason condition.side
is_for Cycle refusal.Cycle = true
is_for Unknown (refusal.Unknown number) = true
is_for Dependency (refusal.Dependency number) = true
is_for _ _ = false

abbrev pub waits_for : Reason → Row → Bool
waits_for reason (Enters item place) = false
waits_for reason (Waits left) = is_for reason left.refusal

-- where no reason is asked for, each item passes
abbrev pub has_reason : Option Reason → Row → Bool
has_reason None row = true
has_reason (Some reason) row = waits_for reason row

-- the words that are searched for in lower case, if some are
abbrev pub words_searched : Option (String Global) → Option (List ℕ)
words_searched words = option_map (map to_ascii_lowercase) (option_map string_bytes words)

-- the subject or the number of the change contains the words in lower case, without regard to the case of its own ASCII
-- letters
abbrev pub is_found : State → List ℕ → Item → Bool
is_found state words item =
    contains words (map to_ascii_lowercase (subject_of state item))
    || contains words (map to_ascii_lowercase (decimal item.change))

-- where no words are searched for, each item passes
abbrev pub has_words : State → Option (List ℕ) → Item → Bool
has_words state None item = true
has_words state (Some words) item = is_found state words item

abbrev pub is_asked : State → Choice → Row → Bool
is_asked state choice row =
    is_shown choice.shown row && has_reason choice.reason row
    && has_words state (words_searched choice.words) (row_item row)

-- the rows that are asked for
abbrev pub chosen_rows : State → Choice → Judged → List Row
chosen_rows state choice verdicts = filter (is_asked state choice) (all_rows verdicts)

-- ---- pages

-- the rows on a page, from 1: a page has 100
abbrev pub rows_on : ℕ → List Row → List Row
rows_on page rows = take 100 (drop (100 * (page - 1)) rows)

-- the rows on the first pages, as many as this, one after the other
abbrev pub rows_to : ℕ → List Row → List Row
rows_to zero rows = []
rows_to (suc pages) rows = rows_to pages rows ++ rows_on (suc pages) rows

-- ---- the report

-- the line of a report that says what the row says
abbrev pub row_line : Row → List ℕ
row_line (Enters item place) = ready_line item
row_line (Waits left) = out_line left
