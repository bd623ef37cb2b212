-- The item that a question is about: a patch set that is named, or the current one.
use Rattle.std.specs.Prelude.{◌≡◌, ℕ, Option, None, Some}
use Rattle.state_core.specs.declared.item.Item.{Item}
use Rattle.state_core.specs.State.{State}
use Rattle.state_core.specs.Items.{IsCurrentItem, IsItem}

abbrev pub IsItemAsked : State → ℕ → Option ℕ → Item → Type 0
IsItemAsked state number None item = IsCurrentItem state item × (item.change ≡ number)
IsItemAsked state number (Some set) item = IsItem state item × (item.change ≡ number) × (item.set ≡ set)
