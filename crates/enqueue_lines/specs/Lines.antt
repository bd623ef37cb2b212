-- What a line that a site prints says of which items are ready. The texts of the lines are those of reports and of
-- groups of changes.
use Rattle.std.specs.Prelude.{◌≡◌, ◌⊎◌, ◌<◌, ◌^◌, ℕ, List, [], ◌++◌, codes, decimal}
use Rattle.state_core.specs.declared.item.Item.{Item}
use Rattle.report_text.specs.Report.{item_text}
use Rattle.enqueue_lines.specs.declared.site_line.SiteLine.{SiteLine}
use Rattle.enqueue_lines.specs.declared.site_line.SiteLine.TheVariants.{Ready, NowReady, NotReady, End, Nothing}

-- its numbers have at most 32 bits
pub record IsShortItem (item : Item) : Type 0 where
  pub change : item.change < 2 ^ 32
  pub set : item.set < 2 ^ 32

-- the first word of a line, and what comes after a blank
abbrev pub site_line_word : SiteLine → List ℕ
site_line_word (Ready item) = codes "ready"
site_line_word (NowReady item) = codes "+ready"
site_line_word (NotReady item) = codes "-ready"
site_line_word (End ready out) = codes "end"
site_line_word Nothing = []

abbrev pub counts_text : ℕ → ℕ → List ℕ
counts_text ready out = decimal ready ++ codes " " ++ decimal out

abbrev pub rest_of : SiteLine → List ℕ
rest_of (Ready item) = item_text item
rest_of (NowReady item) = item_text item
rest_of (NotReady item) = item_text item
rest_of (End ready out) = counts_text ready out
rest_of Nothing = []

-- its line, without the line end
abbrev pub site_line_text : SiteLine → List ℕ
site_line_text parsed = site_line_word parsed ++ codes " " ++ rest_of parsed

-- why an item waits, that it isn't listed any more, and where a site listens say nothing of what is ready
abbrev pub BeginsPassed : List ℕ → List ℕ → Type 0
BeginsPassed word line = (rest : List ℕ) × (line ≡ word ++ rest)

abbrev pub IsPassedLine : List ℕ → Type 0
IsPassedLine line =
    BeginsPassed (codes "out ") line ⊎ BeginsPassed (codes "gone ") line ⊎ BeginsPassed (codes "listening ") line

abbrev pub LineSays : List ℕ → SiteLine → Type 0
LineSays line (Ready item) = line ≡ site_line_text (Ready item)
LineSays line (NowReady item) = line ≡ site_line_text (NowReady item)
LineSays line (NotReady item) = line ≡ site_line_text (NotReady item)
LineSays line (End ready out) = line ≡ site_line_text (End ready out)
LineSays line Nothing = IsPassedLine line

-- the numbers of what is parsed fit: those of items 32 bits, and counts 64
abbrev pub NumbersFit : SiteLine → Type 0
NumbersFit (Ready item) = IsShortItem item
NumbersFit (NowReady item) = IsShortItem item
NumbersFit (NotReady item) = IsShortItem item
NumbersFit (End ready out) = (ready < 2 ^ 64) × (out < 2 ^ 64)
NumbersFit Nothing = Unit {0}
