-- The items that were handed over before, one a line.
use Rattle.std.specs.Prelude.{◌≡◌, ◌-◌, ◌<◌, ℕ, List, Some, slice_get, take}
use Rattle.std.specs.List.{AllZip}
use Rattle.report_text.specs.Report.{item_text}
use Rattle.state_core.specs.declared.item.Item.{Item}
use Rattle.enqueue_lines.specs.Lines.{IsShortItem}
use Rattle.enqueue_lines.specs.declared.fault.EnqueueFault.{EnqueueFault}
use Rattle.enqueue_lines.specs.declared.fault.EnqueueFault.TheVariants.{BadHanded, NoMemory}

abbrev pub IsItemLine : List ℕ → Item → Type 0
IsItemLine line item = line ≡ item_text item

-- the line of this number is no item; or memory was refused
abbrev pub IsNoItem : ℕ → List ℕ → EnqueueFault → Type 0
IsNoItem number line (BadHanded bad) = (bad ≡ number) × ((item : Item) → IsShortItem item → ¬ IsItemLine line item)
IsNoItem number line fault = fault ≡ NoMemory

-- the line with this number, from 1, is the first that is no item; or memory was refused
abbrev pub IsRefusedHanded : List (List ℕ) → EnqueueFault → Type 0
IsRefusedHanded lines (BadHanded number) =
    (line : List ℕ) × (0 < number) × (slice_get lines (number - 1) ≡ Some line)
    × IsNoItem number line (BadHanded number)
    × (items : List Item) × AllZip IsItemLine (take (number - 1) lines) items
IsRefusedHanded lines fault = fault ≡ NoMemory
