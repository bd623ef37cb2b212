-- What the text of a front spells: for a site and a run of it, how many operations of that run are there, without a
-- gap.
use Rattle.std.specs.Prelude.{◌≡◌, ℕ, ◌≤◌, ◌==◌, ◌&&◌, List, [], ◌∷◌, map, filter, Some, IsUtf8, string_bytes, codes}
use Rattle.std.specs.FinMap.{entries}
use Rattle.serde_json.specs.Data.{Data, array, Items, no_items, item}
use Rattle.serde_json.specs.Read.{read}
use Rattle.serde_json.specs.Written.{compact_text}
use Rattle.replica_core.specs.Clock.{greatest}
use Rattle.replica_core.specs.Front.{Reaches, reach_of, AreFromOneOn}
use Rattle.op_text.specs.declared.fault.OpTextFault.{OpTextFault}
use Rattle.op_text.specs.declared.fault.OpTextFault.TheVariants.{NotJson, BadShape, BadBody, NoMemory}
use Rattle.replica_core.specs.declared.front.Row.{Row}
use Rattle.op_text.specs.Field.{number_in}
use Rattle.op_text.specs.Text.{whole}

-- the site, the run and the count of an entry
abbrev pub Entry : Type 0
Entry = ℕ × ℕ × ℕ

-- a list of the three numbers, each within its bounds
abbrev pub HoldsEntry : Items → Entry → Type 0
HoldsEntry (item site (item start (item count no_items))) entry =
    (number_in site ≡ Some entry.0) × (entry.0 ≤ 65535) × (number_in start ≡ Some entry.1) × (entry.1 ≤ 4294967295)
    × (number_in count ≡ Some entry.2)
HoldsEntry values entry = ⊥

abbrev pub IsEntry : Data → Entry → Type 0
IsEntry (array values) entry = HoldsEntry values entry
IsEntry value entry = ⊥

-- the items are these entries, in order
abbrev pub AreEntries : Items → List Entry → Type 0
AreEntries no_items [] = Unit {0}
AreEntries no_items (entry ∷ entries) = ⊥
AreEntries (item value values) [] = ⊥
AreEntries (item value values) (entry ∷ entries) = IsEntry value entry × AreEntries values entries

-- the bytes are the JSON text of a list
pub record IsList (text : List ℕ) (values : Items) : Type 0 where
  pub utf8 : IsUtf8 text
  pub value : read text ≡ Some (array values)

-- the text is a list of entries, as they are: in any order, with any repeated
abbrev pub SpellsEntries : List ℕ → List Entry → Type 0
SpellsEntries text entries = (values : Items) × IsList text values × AreEntries values entries

-- the counts that the entries give for a site and a start of it
abbrev pub counts_of : List Entry → ℕ → ℕ → List ℕ
counts_of entries site start = map (λ entry. entry.2) (filter (λ entry. entry.0 == site && entry.1 == start) entries)

-- the front reaches in each row as far as the greatest count that an entry gives for it; a count of 0 is as none
pub record SayFront (entries : List Entry) (front : Reaches) : Type 0 where
  pub reaches : (site start : ℕ) → reach_of front site start ≡ greatest (counts_of entries site start)
  pub reached : AreFromOneOn front

-- the text is a list of entries that say the front
abbrev pub SpellsFront : List ℕ → Reaches → Type 0
SpellsFront text front = (entries : List Entry) × SpellsEntries text entries × SayFront entries front

-- ---- the text that is written: the compact JSON text of the front's rows, in their order
abbrev pub entry_of : (ℕ × ℕ) × ℕ → Entry
entry_of row = (row.0.0, row.0.1, row.1)

abbrev pub entries_of : Reaches → List Entry
entries_of front = map entry_of (entries front)

-- the entry of a row and how far it is reached
abbrev pub entry_of_row : Row × ℕ → Entry
entry_of_row row = (row.0.site, row.0.start, row.1)

abbrev pub entry_data : Entry → Data
entry_data entry = array (item (whole entry.0) (item (whole entry.1) (item (whole entry.2) no_items)))

abbrev pub entries_data : List Entry → Items
entries_data [] = no_items
entries_data (entry ∷ entries) = item (entry_data entry) (entries_data entries)

unfoldable pub front_text : Reaches → List ℕ
front_text front = compact_text (array (entries_data (entries_of front)))

-- What each refusal of a front's text means. `NoMemory` says nothing about the text.
abbrev pub IsFrontRefusal : List ℕ → OpTextFault → Type 0
IsFrontRefusal text NotJson = (values : Items) → ¬ IsList text values
IsFrontRefusal text (BadShape key) = (string_bytes key ≡ codes "front") × (values : Items) × IsList text values
    × ((entries : List Entry) → ¬ AreEntries values entries)
IsFrontRefusal text (BadBody fault) = ⊥
IsFrontRefusal text NoMemory = Unit {0}
