-- Which item of a gate file's list of bases is refused, and why. The names are the project's own.
use Rattle.std.specs.Prelude.{◌≡◌, ◌<◌, ◌≤◌, ◌+◌, ℕ, List, Some, None, codes, slice_get}
use Rattle.footer_text.specs.Bases.{IsBase}
use Rattle.footer_text.specs.Flaws.{HasFlaw, flaw_name}
use Rattle.serde_json.specs.Data.{Data, Items, Members, array}
use Rattle.serde_json.specs.Find.{as_str, get_member}
use Rattle.gate_rules.specs.Reading.{list_of}
use Rattle.gate_rules.specs.declared.bad_base.BadBase.{BadBase}
use Rattle.gate_rules.specs.declared.bad_base.ItemFlaw.{ItemFlaw}
use Rattle.gate_rules.specs.declared.bad_base.ItemFlaw.TheVariants.{TooMany, NotText, NoBase}

-- the item at a place is one of the first eight, and a text that is a base
pub record IsTaken (place : ℕ) (item : Data) : Type 0 where
  pub few : place < 8
  pub text : List ℕ
  pub is_text : as_str item ≡ Some text
  pub is_base : IsBase text

-- the item at a place is refused for this flaw
abbrev pub IsRefusedFor : ℕ → Data → ItemFlaw → Type 0
IsRefusedFor place item TooMany = 8 ≤ place
IsRefusedFor place item NotText = (place < 8) × (as_str item ≡ None)
IsRefusedFor place item (NoBase flaw) =
    (place < 8) × (text : List ℕ) × (as_str item ≡ Some text) × HasFlaw text flaw

-- the item is refused, and each one before it is taken; items are counted from 1
pub record IsFirstRefused (items : List Data) (bad : BadBase) : Type 0 where
  pub place : ℕ
  pub counted : bad.item ≡ place + 1
  pub item : Data
  pub here : slice_get items place ≡ Some item
  pub refused : IsRefusedFor place item bad.flaw
  pub before : (earlier : ℕ) (other : Data) → earlier < place → slice_get items earlier ≡ Some other
      → IsTaken earlier other

-- the list under `bases` has this first refused item
pub record IsBadItem (members : Members) (bad : BadBase) : Type 0 where
  pub items : Items
  pub list : get_member (codes "bases") members ≡ Some (array items)
  pub first : IsFirstRefused (list_of items) bad

abbrev pub item_flaw_name : ItemFlaw → List ℕ
item_flaw_name TooMany = codes "TooMany"
item_flaw_name NotText = codes "NotText"
item_flaw_name (NoBase flaw) = flaw_name flaw
