-- What a reader holds of each item who follows lines one after the other, and what is to be held of verdicts.
use Rattle.std.specs.Prelude.{List, [], ◌∷◌, ◌++◌, Option, None, Some, if◌then◌else◌, Contains}
use Rattle.std.specs.List.Sorted.{IsStrictlySortedBy}
use Rattle.state_core.specs.declared.item.Item.{Item}
use Rattle.state_core.specs.Items.{item_cmp}
use Rattle.ready_core.specs.declared.verdicts.Refusal.{Refusal}
use Rattle.ready_core.specs.Verdicts.{Judged, items_out}
use Rattle.report_changes.specs.declared.lines.Line.{Line}
use Rattle.report_changes.specs.declared.lines.Line.TheVariants.{NotReady, Ready, Out, Gone}
use Rattle.report_changes.specs.Listing.{listed_of, is_same_item, IsLeftOutFor}
use Rattle.report_changes.specs.Lines.{changed}

-- the verdict on a listed item
pub data Stand : Type 0 where
  stands_ready : Stand
  stands_out : Refusal → Stand

-- the verdict on each item that is listed; of one that isn't, nothing
abbrev pub Held : Type 0
Held = Item → Option Stand

abbrev pub nothing_listed : Held
nothing_listed item = None

-- one item has this verdict from now on
abbrev pub put : Item → Option Stand → Held → Held
put item stand held other = if is_same_item item other then stand else held other

-- ---- what a line says to its reader

abbrev pub after_one_line : Line → Held → Held
after_one_line (NotReady item) held = put item None held
after_one_line (Ready item) held = put item (Some stands_ready) held
after_one_line (Out left) held = put left.item (Some (stands_out left.refusal)) held
after_one_line (Gone item) held = put item None held

abbrev pub after_lines : List Line → Held → Held
after_lines [] held = held
after_lines (line ∷ lines) held = after_lines lines (after_one_line line held)

-- ---- the groups of what is listed of these verdicts in turn, after what was listed before

abbrev pub empty : Judged
empty = record { ready = []; out = [] }

abbrev pub all_changed : Judged → List Judged → List Line
all_changed before [] = []
all_changed before (verdicts ∷ later) = changed before (listed_of verdicts) ++ all_changed (listed_of verdicts) later

-- ---- what is to be held of verdicts

-- the item has this verdict in this listing
abbrev pub StandsIn : Judged → Item → Option Stand → Type 0
StandsIn listing item None = (¬ Contains listing.ready item) × (¬ Contains (items_out listing.out) item)
StandsIn listing item (Some stands_ready) = Contains listing.ready item
StandsIn listing item (Some (stands_out refusal)) = IsLeftOutFor listing.out item refusal

-- no item is both ready and left out, and none is left out twice
pub record NamesEachOnce (verdicts : Judged) : Type 0 where
  pub apart : (item : Item) → Contains verdicts.ready item → ¬ Contains (items_out verdicts.out) item
  pub in_order : IsStrictlySortedBy item_cmp (items_out verdicts.out)
