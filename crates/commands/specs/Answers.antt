-- What each command prints: its text as a relation to the texts of its inputs.
use Rattle.std.specs.Prelude.{◌≡◌, ◌⊎◌, ◌<◌, ℕ, Bool, true, false, Contains, List, [], ◌∷◌, ◌++◌, Option, None, Some}
use Rattle.std.specs.Prelude.{Ok, Err}
use Rattle.std.specs.Prelude.{codes, decimal, flat_map, length}
use Rattle.byte_ends.specs.Lines.{lines_of}
use Rattle.footer_text.specs.Footers.{AreFooters}
use Rattle.gate_check.specs.Checked.{IsCheck, check_line, check_text}
use Rattle.gate_check.specs.Evidence.{Evidence}
use Rattle.gate_rules.specs.Rules.{GateRules}
use Rattle.gate_rules.specs.Spelling.{SpellsGate}
use Rattle.graph_text.specs.Drawing.{IsGraphText}
use Rattle.ready_core.specs.Verdicts.{AreVerdicts, Judged}
use Rattle.ready_core.specs.declared.verdicts.Left.{Left}
use Rattle.replica_core.specs.InOrder.{IsInOrderOf}
use Rattle.replica_core.specs.Journal.{all_arrived}
use Rattle.state_core.specs.Known.{IsKnown}
use Rattle.state_core.specs.State.{State, state_of}
use Rattle.state_core.specs.declared.item.Item.{Item}
use Rattle.json.specs.Token.{Token}
use Rattle.json_line.specs.Tokens.{json_line, numbers_listed, object_of, texts_listed}
use Rattle.report_json.specs.Report.{out_item_tokens, ready_item_tokens, report_tokens}
use Rattle.report_json.specs.Why.{IsFullWhyLine, IsWhyLine}
use Rattle.report_text.specs.Report.{out_line, ready_line, report_of}
use Rattle.byte_ends.specs.Lines.{as_line}
use Rattle.snapshot_text.specs.Snapshot.{SaysOperations, snapshot_text}
use Rattle.review_ops.specs.Operation.{Operation}
use Rattle.script_play.specs.Playing.{AreFirst, IsRunText}
use Rattle.script_text.specs.Script.{IsUnreadScript, SaysScript}
use Rattle.script_text.specs.declared.fault.ScriptFault.{ScriptFault}
use Rattle.script_text.specs.declared.fault.ScriptFault.TheVariants.{BadLine, NoMemory}
use Rattle.script_text.specs.declared.script.Step.{Step}
use Rattle.why_text.specs.All.{WritesConditions}
use Rattle.why_text.specs.Asked.{IsItemAsked}
use Rattle.why_text.specs.Why.{IsWhy}
use Rattle.world_core.specs.World.{new_world}
use Rattle.command_line.specs.declared.asked.CheckCommand.{CheckCommand}
use Rattle.command_line.specs.declared.asked.Detail.{Detail}
use Rattle.command_line.specs.declared.asked.Detail.TheVariants.{AllConditions, Cause}
use Rattle.command_line.specs.declared.asked.FootersCommand.{FootersCommand}
use Rattle.command_line.specs.declared.asked.OutputFormat.{OutputFormat}
use Rattle.command_line.specs.declared.asked.OutputFormat.TheVariants.{Json, Text}
use Rattle.command_line.specs.declared.asked.ReadyItemCommand.{ReadyItemCommand}
use Rattle.command_line.specs.declared.asked.Strictness.{Strictness}
use Rattle.command_line.specs.declared.asked.Strictness.TheVariants.{Strict}
use Rattle.command_line.specs.declared.asked.WhyCommand.{WhyCommand}
use Rattle.console.specs.Console.{ConsoleState}
use Rattle.console.specs.Inputs.{IsHad, record_input}
use Rattle.console.specs.Printing.{Ended}
use Rattle.console.specs.declared.refusals.Refusal.{Refusal}
use Rattle.console.specs.declared.refusals.Refusal.TheVariants.{Memory, NoItem, Script, Waits, Warnings}

-- the answer is printed; or the change or the patch set that is asked for isn't there, or memory was refused, before
-- anything was printed
abbrev pub IsPrintedWhole : (List ℕ → Type 0) → (ℕ → Option ℕ → Type 0) → List ℕ → Ended → Type 0
IsPrintedWhole IsSo IsMissing answer (Ok done) = IsSo answer
IsPrintedWhole IsSo IsMissing answer (Err (NoItem change set)) = IsMissing change set × (answer ≡ [])
IsPrintedWhole IsSo IsMissing answer (Err refusal) = (refusal ≡ Memory) × (answer ≡ [])

-- the answer is so of the rules that the gate file spells, and of the state of the operations that the snapshot says
pub record IsOf (gate snapshot : List ℕ) (IsSo : GateRules → State → List ℕ → Type 0) (answer : List ℕ) : Type 0 where
  pub rules : GateRules
  pub spelled : SpellsGate gate rules
  pub ops : List Operation
  pub says : SaysOperations (lines_of snapshot) ops
  pub so : IsSo rules (state_of (all_arrived [] ops)) answer

-- the state of the operations that the snapshot says hasn't got what is asked for
pub record LacksAsked (snapshot : List ℕ) (HasIt : State → Type 0) : Type 0 where
  pub ops : List Operation
  pub says : SaysOperations (lines_of snapshot) ops
  pub none : ¬ HasIt (state_of (all_arrived [] ops))

-- this is asked for, and the state that the snapshot says hasn't got it
abbrev pub Misses : (ℕ → Option ℕ → Type 0) → List ℕ → (State → Type 0) → ℕ → Option ℕ → Type 0
Misses IsAskedFor snapshot HasIt change set = IsAskedFor change set × LacksAsked snapshot HasIt

-- nothing is asked for
abbrev pub MissesNone : ℕ → Option ℕ → Type 0
MissesNone change set = ⊥

-- ---- `ready`: the report of the state

-- the report of verdicts
abbrev pub report_as : OutputFormat → Judged → List ℕ
report_as Text verdicts = report_of verdicts
report_as Json verdicts = json_line (report_tokens verdicts)

abbrev pub IsReport : OutputFormat → GateRules → State → List ℕ → Type 0
IsReport format rules state answer =
    (verdicts : Judged) × AreVerdicts rules state verdicts × (answer ≡ report_as format verdicts)

-- ---- `ready --item`: the line of an item in the report

-- the state has the item that is asked for
abbrev pub HasItem : ℕ → Option ℕ → State → Type 0
HasItem change set state = (item : Item) × IsItemAsked state change set item

abbrev pub IsItemText : ℕ → Option ℕ → ℕ → Option ℕ → Type 0
IsItemText change set number other = (number ≡ change) × (other ≡ set)

-- what is said of an item that is ready, and of one that is left out
abbrev pub ready_as : OutputFormat → Item → List ℕ
ready_as Text item = ready_line item
ready_as Json item = json_line (ready_item_tokens item)

abbrev pub out_as : OutputFormat → Left → List ℕ
out_as Text left = out_line left
out_as Json left = json_line (out_item_tokens left)

-- the item is left out, and the answer is its line
abbrev pub IsLeftSo : OutputFormat → List Left → Item → Bool → List ℕ → Type 0
IsLeftSo format out item is_ready answer =
    (is_ready ≡ false) × (left : Left) × Contains out left × (left.item ≡ item) × (answer ≡ out_as format left)

-- whether the item is ready, and its line
abbrev pub StandsSo : OutputFormat → Judged → Item → Bool → List ℕ → Type 0
StandsSo format verdicts item is_ready answer =
    ((is_ready ≡ true) × Contains verdicts.ready item × (answer ≡ ready_as format item))
    ⊎ IsLeftSo format verdicts.out item is_ready answer

abbrev pub IsStanding : ReadyItemCommand → Bool → GateRules → State → List ℕ → Type 0
IsStanding command is_ready rules state answer =
    (item : Item) × (verdicts : Judged) × IsItemAsked state command.change command.set item
    × AreVerdicts rules state verdicts × StandsSo command.format verdicts item is_ready answer

-- how `ready --item` ends: successfully for a ready item, with `Waits` for one that waits
abbrev pub EndsItem : Bool → Ended → Type 0
EndsItem is_ready (Ok done) = is_ready ≡ true
EndsItem is_ready (Err Waits) = is_ready ≡ false
EndsItem is_ready (Err refusal) = ⊥

-- the line of the item is printed, and the command ends by that; or there is no such item, or memory was refused
abbrev pub IsItemPrinted : ReadyItemCommand → GateRules → State → List ℕ → Ended → Type 0
IsItemPrinted command rules state answer (Ok done) = IsStanding command true rules state answer
IsItemPrinted command rules state answer (Err Waits) = IsStanding command false rules state answer
IsItemPrinted command rules state answer (Err (NoItem number other)) =
    IsItemText command.change command.set number other × (¬ HasItem command.change command.set state) × (answer ≡ [])
IsItemPrinted command rules state answer (Err refusal) = (refusal ≡ Memory) × (answer ≡ [])

abbrev pub IsItemAnswer : List ℕ → List ℕ → ReadyItemCommand → List ℕ → Ended → Type 0
IsItemAnswer gate snapshot command answer ended =
    (rules : GateRules) × SpellsGate gate rules × (ops : List Operation) × SaysOperations (lines_of snapshot) ops
    × IsItemPrinted command rules (state_of (all_arrived [] ops)) answer ended

-- ---- `why`: why an item waits, for which the text of the gate file is looked at, too

-- what comes after the cause: nothing, or each condition of the gate
abbrev pub WritesMore : Detail → List ℕ → GateRules → State → Item → List ℕ → Type 0
WritesMore Cause gate rules state item more = more ≡ []
WritesMore AllConditions gate rules state item more = WritesConditions gate rules state item more

abbrev pub IsReasonText : List ℕ → Detail → GateRules → State → Judged → Item → List ℕ → Type 0
IsReasonText gate detail rules state verdicts item answer =
    (reason more : List ℕ) × IsWhy gate rules state verdicts item reason × WritesMore detail gate rules state item more
    × (answer ≡ reason ++ more)

abbrev pub IsReasonLine : List ℕ → Detail → GateRules → State → Judged → Item → List ℕ → Type 0
IsReasonLine gate Cause rules state verdicts item answer = IsWhyLine gate rules state verdicts item answer
IsReasonLine gate AllConditions rules state verdicts item answer = IsFullWhyLine gate rules state verdicts item answer

-- the reason by verdicts, as lines or as JSON
abbrev pub IsReasonAs : OutputFormat → List ℕ → Detail → GateRules → State → Judged → Item → List ℕ → Type 0
IsReasonAs Text gate detail rules state verdicts item answer = IsReasonText gate detail rules state verdicts item answer
IsReasonAs Json gate detail rules state verdicts item answer = IsReasonLine gate detail rules state verdicts item answer

abbrev pub IsReasonFor : List ℕ → Detail → OutputFormat → GateRules → State → Item → List ℕ → Type 0
IsReasonFor gate detail format rules state item answer =
    (verdicts : Judged) × AreVerdicts rules state verdicts
    × IsReasonAs format gate detail rules state verdicts item answer

abbrev pub IsWhyAnswer : List ℕ → WhyCommand → GateRules → State → List ℕ → Type 0
IsWhyAnswer gate command rules state answer =
    (item : Item) × IsItemAsked state command.change command.set item
    × IsReasonFor gate command.detail command.format rules state item answer

-- ---- `graph`: the items and what they wait for, around a change of which a patch set is known, where one is named

abbrev pub HasAround : Option ℕ → State → Type 0
HasAround None state = Unit {0}
HasAround (Some number) state = IsKnown state number

abbrev pub IsAround : Option ℕ → ℕ → Option ℕ → Type 0
IsAround around number other = (around ≡ Some number) × (other ≡ None)

-- the change isn't known, and is named
abbrev pub IsRefusedAround : Option ℕ → State → Refusal → Type 0
IsRefusedAround around state refusal =
    (number : ℕ) × (other : Option ℕ) × IsAround around number other × (refusal ≡ NoItem number other)
    × ¬ HasAround around state

abbrev pub IsPicture : Option ℕ → GateRules → State → List ℕ → Type 0
IsPicture around rules state answer = HasAround around state × IsGraphText rules state around answer

-- ---- `merge`: the snapshot of the operations of either, each once, as a grow-only set merges

-- the answer is the snapshot of the operations that either snapshot says
pub record IsMergedText (first second answer : List ℕ) : Type 0 where
  pub ops : List Operation
  pub others : List Operation
  pub of_first : SaysOperations (lines_of first) ops
  pub of_second : SaysOperations (lines_of second) others
  pub both : List Operation
  pub union : IsInOrderOf (ops ++ others) both
  pub text : answer ≡ snapshot_text both

-- ---- `footers`: the footers of the message under the gate's bases

abbrev pub need_line : ℕ → List ℕ
need_line change = as_line (codes "need " ++ decimal change)

abbrev pub ignored_line : List ℕ → List ℕ
ignored_line value = as_line (codes "ignored " ++ value)

abbrev pub count_line : ℕ → ℕ → List ℕ
count_line needs ignored = as_line (codes "end " ++ decimal needs ++ codes " " ++ decimal ignored)

-- a line for each change that is needed, then one for each value that names none, then how many there are of both
abbrev pub footers_text : List ℕ → List (List ℕ) → List ℕ
footers_text needs ignored =
    flat_map need_line needs ++ flat_map ignored_line ignored ++ count_line (length needs) (length ignored)

-- the same as JSON, with the bases: {"needs":[101],"ignored":["I0123456789"],"bases":["https://review.example.org/"]}
abbrev pub footers_tokens : List (List ℕ) → List ℕ → List (List ℕ) → List Token
footers_tokens bases needs ignored =
    object_of
    (numbers_listed (codes "needs") needs
    ++ (texts_listed (codes "ignored") ignored ++ texts_listed (codes "bases") bases))

abbrev pub footers_as : OutputFormat → List (List ℕ) → List ℕ → List (List ℕ) → List ℕ
footers_as Text bases needs ignored = footers_text needs ignored
footers_as Json bases needs ignored = json_line (footers_tokens bases needs ignored)

-- the answer has the changes that the message depends on under the gate's bases, and the footers that name none
pub record AreFooterLines (gate message : List ℕ) (command : FootersCommand) (answer : List ℕ) : Type 0 where
  pub rules : GateRules
  pub spelled : SpellsGate gate rules
  pub needs : List ℕ
  pub ignored : List (List ℕ)
  pub footers : AreFooters rules.bases command.change message needs ignored
  pub text : answer ≡ footers_as command.format rules.bases needs ignored

-- ---- `check`: what the gate asks for, and warnings, with the record of a snapshot, where one is named

-- the snapshot says the record of this state
abbrev pub SaysRecord : State → List ℕ → Type 0
SaysRecord state snapshot =
    (ops : List Operation) × SaysOperations (lines_of snapshot) ops × (state ≡ state_of (all_arrived [] ops))

abbrev pub GivesRecord : List (List ℕ) → Option State → Type 0
GivesRecord [] state = state ≡ None
GivesRecord (snapshot ∷ []) None = ⊥
GivesRecord (snapshot ∷ []) (Some state) = SaysRecord state snapshot
GivesRecord (snapshot ∷ other ∷ texts) state = ⊥

-- a record is had, where one is named
abbrev pub IsRecordHad : Option (List ℕ) → Option State → ConsoleState → ConsoleState → Type 0
IsRecordHad None None old new = new ≡ old
IsRecordHad (Some name) (Some state) old new = IsHad (record_input name) (SaysRecord state) old new
IsRecordHad name state old new = ⊥

-- how `check` ends, by the number of warnings
abbrev pub EndsChecked : Strictness → ℕ → Ended → Type 0
EndsChecked strictness count (Ok done) = strictness ≡ Strict → count ≡ 0
EndsChecked strictness count (Err (Warnings found)) = (strictness ≡ Strict) × (found ≡ count) × (0 < count)
EndsChecked strictness count (Err refusal) = ⊥

-- what is said of the gate
abbrev pub check_as : OutputFormat → GateRules → Option Evidence → List ℕ
check_as Text rules evidence = check_text rules evidence
check_as Json rules evidence = check_line rules evidence

-- that is printed, and the check ends by its warnings; or memory was refused before anything was printed
abbrev pub IsCheckText : CheckCommand → GateRules → Option State → List ℕ → Ended → Type 0
IsCheckText command rules state answer ended =
    ((count : ℕ) × IsCheck (check_as command.format) rules state answer count
    × EndsChecked command.strictness count ended)
    ⊎ ((answer ≡ []) × (ended ≡ Err Memory))

abbrev pub IsChecked : List ℕ → List (List ℕ) → CheckCommand → List ℕ → Ended → Type 0
IsChecked gate snapshots command answer ended =
    (rules : GateRules) × SpellsGate gate rules × (state : Option State) × GivesRecord snapshots state
    × IsCheckText command rules state answer ended

-- ---- `simulate`: the answers of the script's lines, in a run of the world

-- the gate that reports are made under: none where no gate file is named
abbrev pub GivesGate : List (List ℕ) → Option GateRules → Type 0
GivesGate [] under = under ≡ None
GivesGate (gate ∷ []) under = (rules : GateRules) × SpellsGate gate rules × (under ≡ Some rules)
GivesGate (gate ∷ other ∷ texts) under = ⊥

-- how a script of these steps is played: to its end; to its bad line, once the lines before that are answered; or over
-- some first steps, where memory is refused. The answer is the text of a run of the steps that were played
abbrev pub IsPlayed : ℕ → List Step → Option ℕ → List ℕ → Ended → Type 0
IsPlayed sites steps bad answer (Ok done) = (bad ≡ None) × IsRunText (new_world sites) steps answer
IsPlayed sites steps bad answer (Err (Script (BadLine line))) =
    (bad ≡ Some line) × IsRunText (new_world sites) steps answer
IsPlayed sites steps bad answer (Err (Script NoMemory)) =
    (first : List Step) × AreFirst first steps × IsRunText (new_world sites) first answer
IsPlayed sites steps bad answer (Err refusal) = ⊥

-- the script isn't read, or it says steps, which are played
abbrev pub IsPlayedText : Option GateRules → List ℕ → List ℕ → Ended → Type 0
IsPlayedText under script answer ended =
    ((fault : ScriptFault) × IsUnreadScript script fault × (ended ≡ Err (Script fault)) × (answer ≡ []))
    ⊎ ((sites : ℕ) × (steps : List Step) × (bad : Option ℕ) × SaysScript under script sites steps bad
    × IsPlayed sites steps bad answer ended)

-- the texts are the script's and, where a gate file is named, the gate's
abbrev pub IsSimulated : List ℕ → List (List ℕ) → List ℕ → Ended → Type 0
IsSimulated script gates answer ended =
    (under : Option GateRules) × GivesGate gates under × IsPlayedText under script answer ended
