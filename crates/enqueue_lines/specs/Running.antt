-- What is handed over of lines as they come: the lines are those of whole groups, one after the other, and then some of
-- the next group. A group is handed over once its end line has come.
use Rattle.std.specs.Prelude.{◌≡◌, ◌+◌, ◌-◌, ◌^◌, ℕ, List, [], ◌∷◌, ◌++◌, Option, None, Some, All, flat_map, length}
use Rattle.std.specs.Prelude.{min}
use Rattle.std.specs.Io.KnownBytes.{Appends, Consumes, IsAtEnd}
use Rattle.std.specs.List.{AllZip}
use Rattle.byte_ends.specs.Lines.{as_line, without_cr}
use Rattle.state_core.specs.declared.item.Item.{Item}
use Rattle.enqueue_lines.specs.Groups.{Fits, ReadySoFar, fresh, handed_over, ready_first, ready_after, items_of_lines}
use Rattle.enqueue_lines.specs.Lines.{LineSays}
use Rattle.enqueue_lines.specs.Printing.{Pipe, item_lines, report_lines}
use Rattle.enqueue_lines.specs.declared.run.Step.{Step}
use Rattle.enqueue_lines.specs.declared.run.Step.TheVariants.{GoesOn, EndsWith, Stops}
use Rattle.enqueue_lines.specs.declared.site_line.SiteLine.{SiteLine}
use Rattle.enqueue_lines.specs.declared.site_line.SiteLine.TheVariants.{Ready, NowReady, NotReady, End, Nothing}

-- ---- groups

-- what the lines of a group say before its end line, and what that says
pub record LineGroup : Type 0 where
  pub lines : List SiteLine
  pub ready : ℕ
  pub out : ℕ

abbrev pub group_says : LineGroup → List SiteLine
group_says group = group.lines ++ End group.ready group.out ∷ []

abbrev pub all_say : List LineGroup → List SiteLine
all_say groups = flat_map group_says groups

-- no line but the last ends the group
abbrev pub IsNoEnd : SiteLine → Type 0
IsNoEnd (Ready item) = Unit {0}
IsNoEnd (NowReady item) = Unit {0}
IsNoEnd (NotReady item) = Unit {0}
IsNoEnd (End ready out) = ⊥
IsNoEnd Nothing = Unit {0}

abbrev pub AreWhole : List LineGroup → Type 0
AreWhole groups = All (λ group. All IsNoEnd group.lines) groups

-- ---- what is handed over of groups

-- what is ready after a group, where this was ready before
abbrev pub ready_then : List Item → LineGroup → List Item
ready_then before group = ready_after before (items_of_lines group.lines) group.ready

abbrev pub ready_in_turn : List Item → List LineGroup → List (List Item)
ready_in_turn before [] = []
ready_in_turn before (group ∷ later) = ready_then before group ∷ ready_in_turn (ready_then before group) later

-- each group's end line fits its lines
abbrev pub AllFit : List Item → List LineGroup → Type 0
AllFit before [] = Unit {0}
AllFit before (group ∷ later) =
    Fits before (items_of_lines group.lines) group.ready × AllFit (ready_then before group) later

-- what is held after these groups
abbrev pub held_after : ReadySoFar → List LineGroup → ReadySoFar
held_after held [] = held
held_after held (group ∷ later) = held_after (ready_first (ready_then held.ready group)) later

-- the items that groups hand over
abbrev pub handed_by : ReadySoFar → List LineGroup → List Item
handed_by held groups = handed_over held (ready_in_turn held.ready groups)

-- before the first line
abbrev pub starting : List Item → ReadySoFar
starting earlier = record { ready = []; earlier = earlier }

-- ---- lines in bytes

abbrev pub SaysPiece : List ℕ → SiteLine → Type 0
SaysPiece piece parsed = LineSays (without_cr piece) parsed

-- the bytes are lines that say this, and then a rest
pub record SaysLines (bytes rest : List ℕ) (lines : List SiteLine) : Type 0 where
  pub pieces : List (List ℕ)
  pub whole : bytes ≡ flat_map as_line pieces ++ rest
  pub each : AllZip SaysPiece pieces lines

-- ---- the law of handing over

-- of bytes that are whole groups and then a rest, these lines and these reports are written
pub record PrintsGroups (pipe : Pipe) (earlier : List Item) (bytes rest lines reports : List ℕ) : Type 0 where
  pub groups : List LineGroup
  pub whole : AreWhole groups
  pub fit : AllFit [] groups
  pub says : SaysLines bytes rest (all_say groups)
  pub lines_are : lines ≡ item_lines pipe (handed_by (starting earlier) groups)
  pub reports_are : reports ≡ report_lines pipe (handed_by (starting earlier) groups)

-- what both outputs have taken, if that is known, and how many writes to each failed
pub record KnownOutputs : Type 0 where
  pub printed : Option (List ℕ)
  pub unprinted : ℕ
  pub reported : Option (List ℕ)
  pub unreported : ℕ

-- what is left of the input, if that is known, how many of its reads failed, and both outputs
pub record KnownEnds : Type 0 where
  pub left : Option (List ℕ)
  pub unread : ℕ
  pub outputs : KnownOutputs

abbrev pub outputs_at : Option (List ℕ) → ℕ → Option (List ℕ) → ℕ → KnownOutputs
outputs_at printed unprinted reported unreported = record {
  printed = printed;
  unprinted = unprinted;
  reported = reported;
  unreported = unreported;
}

abbrev pub ends_at : Option (List ℕ) → ℕ → KnownOutputs → KnownEnds
ends_at left unread outputs = record { left = left; unread = unread; outputs = outputs }

-- these lines and these reports were written, and no write failed
pub record WritesTexts (lines reports : List ℕ) (old new : KnownOutputs) : Type 0 where
  pub printed : Appends old.printed new.printed lines
  pub reported : Appends old.reported new.reported reports
  pub none_unprinted : new.unprinted ≡ old.unprinted
  pub none_unreported : new.unreported ≡ old.unreported

-- between the two states these bytes were read: whole groups, which were handed over, and then this rest; no read or
-- write failed
pub record HandsOver (pipe : Pipe) (earlier : List Item) (old new : KnownEnds) (rest : List ℕ) : Type 0 where
  pub came : List ℕ
  pub lines : List ℕ
  pub reports : List ℕ
  pub prints : PrintsGroups pipe earlier came rest lines reports
  pub consumed : Consumes old.left new.left came
  pub none_unread : new.unread ≡ old.unread
  pub written : WritesTexts lines reports old.outputs new.outputs

-- ---- the parts of a step

-- a line that came says this; or there is no more, and the rest is held
abbrev pub line_says : Option SiteLine → List SiteLine
line_says None = []
line_says (Some parsed) = parsed ∷ []

abbrev pub IsSiteLine : List ℕ → Option SiteLine → Type 0
IsSiteLine line None = ⊥
IsSiteLine line (Some parsed) = LineSays line parsed

-- what a line does to the kept lines of a group: an end line ends the group, and of any other what it says is kept
abbrev pub KeepsSiteLine : SiteLine → List SiteLine → List SiteLine → Step → Type 0
KeepsSiteLine (End ready out) old new step = (step ≡ EndsWith ready) × (new ≡ old)
KeepsSiteLine (Ready item) old new step =
    (step ≡ GoesOn) × (items_of_lines new ≡ items_of_lines (old ++ Ready item ∷ []))
KeepsSiteLine (NowReady item) old new step =
    (step ≡ GoesOn) × (items_of_lines new ≡ items_of_lines (old ++ NowReady item ∷ []))
KeepsSiteLine (NotReady item) old new step =
    (step ≡ GoesOn) × (items_of_lines new ≡ items_of_lines (old ++ NotReady item ∷ []))
KeepsSiteLine Nothing old new step = (step ≡ GoesOn) × (items_of_lines new ≡ items_of_lines (old ++ Nothing ∷ []))

-- so the next line is read, of these bytes, after which this is held
abbrev pub StepsOn : List ℕ → List ℕ → List SiteLine → List SiteLine → Step → Type 0
StepsOn bytes rest old new GoesOn = (parsed : SiteLine) × SaysLines bytes rest (parsed ∷ []) × IsNoEnd parsed
    × (items_of_lines new ≡ items_of_lines (old ++ parsed ∷ []))
StepsOn bytes rest old new (EndsWith ready) = (out : ℕ) × SaysLines bytes rest (End ready out ∷ []) × (new ≡ old)
StepsOn bytes rest old new Stops = SaysLines bytes rest [] × (new ≡ old)

-- what has come of a group: all its lines, or some
abbrev pub with_end : List SiteLine → Option ℕ → ℕ → List SiteLine
with_end lines None out = lines
with_end lines (Some ready) out = lines ++ End ready out ∷ []

-- the greatest number of a line, at which counting stops
abbrev pub most_lines : ℕ
most_lines = 2 ^ 64 - 1

-- the count after so many further lines
abbrev pub counted_on : ℕ → ℕ → ℕ
counted_on before more = min (before + more) most_lines

-- these lines came; those that say something are kept, and all of them are counted
pub record GroupComes (bytes rest : List ℕ) (kept : List SiteLine) (count : ℕ) (ended : Option ℕ) : Type 0 where
  pub lines : List SiteLine
  pub out : ℕ
  pub whole : All IsNoEnd lines
  pub says : SaysLines bytes rest (with_end lines ended out)
  pub kept_is : items_of_lines kept ≡ items_of_lines lines
  pub counted : count ≡ counted_on 0 (length (with_end lines ended out))

-- the lines and the reports of these items were written
abbrev pub WritesItems : Pipe → List Item → KnownOutputs → KnownOutputs → Type 0
WritesItems pipe items old new = WritesTexts (item_lines pipe items) (report_lines pipe items) old new

-- a group was handed over: these bytes say it, its end line fits, what it makes ready was written, and its lines were
-- counted
pub record GroupIsHanded (pipe : Pipe) (bytes rest : List ℕ) (number numbered : ℕ) (old new : ReadySoFar)
    (before after : KnownEnds) : Type 0 where
  pub group : LineGroup
  pub whole : All IsNoEnd group.lines
  pub says : SaysLines bytes rest (group_says group)
  pub fits : Fits old.ready (items_of_lines group.lines) group.ready
  pub held : new ≡ ready_first (ready_then old.ready group)
  pub written : WritesItems pipe (fresh old (ready_then old.ready group)) before.outputs after.outputs
  pub none_unread : after.unread ≡ before.unread
  pub numbered_is : numbered ≡ counted_on number (length (group_says group))

-- no further group has begun: no line or part of one is left
pub record NoGroupIsLeft (bytes : List ℕ) (before after : KnownEnds) : Type 0 where
  pub says : SaysLines bytes [] []
  pub end : IsAtEnd after.left
  pub none_unread : after.unread ≡ before.unread
  pub quiet : after.outputs ≡ before.outputs
