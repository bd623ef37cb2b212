-- What is ready after a group of lines, which is a whole report or says what changed. The lines of both are the
-- project's own (`report_text`, `report_changes`).
use Rattle.std.specs.Prelude.{◌≡◌, ◌==◌, ◌&&◌, ◌||◌, ℕ, Bool, true, List, [], ◌∷◌, ◌++◌, filter, flat_map, length, not}
use Rattle.std.specs.Prelude.{if◌then◌else◌, Contains}
use Rattle.std.specs.List.{IsDistinct, list_any}
use Rattle.std.specs.Ordering.{eq_by_cmp}
use Rattle.state_core.specs.declared.item.Item.{Item}
use Rattle.state_core.specs.Items.{item_cmp}
use Rattle.enqueue_lines.specs.declared.site_line.SiteLine.{SiteLine}
use Rattle.enqueue_lines.specs.declared.site_line.SiteLine.TheVariants.{Ready, NowReady, NotReady, End, Nothing}
use Rattle.report_changes.specs.Listing.{is_same_item}

-- whether an item is among these
abbrev pub is_among : List Item → Item → Bool
is_among items item = list_any (is_same_item item) items

-- no two of these are one
abbrev pub AreNamedOnce : List Item → Type 0
AreNamedOnce items = IsDistinct (eq_by_cmp item_cmp) items

-- ---- a group: the items that its lines list as ready, say to be ready now, and say not to be any more

pub record GroupItems : Type 0 where
  pub listed : List Item
  pub added : List Item
  pub removed : List Item

abbrev pub listed_by : SiteLine → List Item
listed_by (Ready item) = item ∷ []
listed_by parsed = []

abbrev pub added_by : SiteLine → List Item
added_by (NowReady item) = item ∷ []
added_by parsed = []

abbrev pub removed_by : SiteLine → List Item
removed_by (NotReady item) = item ∷ []
removed_by parsed = []

abbrev pub items_of_lines : List SiteLine → GroupItems
items_of_lines lines = record {
  listed = flat_map listed_by lines;
  added = flat_map added_by lines;
  removed = flat_map removed_by lines;
}

-- ---- what is ready after a group that ends with how many are

-- a group that lists items, or after which none is ready, is a whole report: what it lists is ready. Any other takes
-- away from what was ready before, and adds to it
abbrev pub is_none : List Item → Bool
is_none items = length items == 0

abbrev pub is_report : GroupItems → ℕ → Bool
is_report group count = (count == 0) || not (is_none group.listed)

abbrev pub ready_following : List Item → GroupItems → List Item
ready_following before group = filter (λ item. not (is_among group.removed item)) before ++ group.added

abbrev pub ready_after : List Item → GroupItems → ℕ → List Item
ready_after before group count = if is_report group count then group.listed else ready_following before group

-- a report doesn't say what changed: it adds nothing, and takes nothing away from what it lists
abbrev pub is_one_kind : GroupItems → ℕ → Bool
is_one_kind group count =
    not (is_report group count) || (is_none group.added && (is_none group.listed || is_none group.removed))

-- the end line fits the lines before it: they are of one kind, and make so many items ready, each once
pub record Fits (before : List Item) (group : GroupItems) (count : ℕ) : Type 0 where
  pub one_kind : is_one_kind group count ≡ true
  pub counted : length (ready_after before group count) ≡ count
  pub apart : AreNamedOnce (ready_after before group count)

-- ---- what is handed over

-- what is ready, by the lines so far, and what was handed over before the first of them
pub record ReadySoFar : Type 0 where
  pub ready : List Item
  pub earlier : List Item

-- the items that are ready and weren't before, in their order
abbrev pub fresh : ReadySoFar → List Item → List Item
fresh held now = filter (λ item. not (is_among held.ready item || is_among held.earlier item)) now

abbrev pub ready_first : List Item → ReadySoFar
ready_first now = record { ready = now; earlier = [] }

-- ---- over groups, by what is ready after each

abbrev pub handed_over : ReadySoFar → List (List Item) → List Item
handed_over held [] = []
handed_over held (now ∷ later) = fresh held now ++ handed_over (ready_first now) later

-- an item that is ready stays so
abbrev pub StaysReady : Item → List (List Item) → Type 0
StaysReady item [] = Unit {0}
StaysReady item (now ∷ later) = Contains now item × StaysReady item later
