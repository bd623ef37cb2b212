-- How handing over ends: at the end of the input, or early, with the reason and with what was written of the group at
-- fault.
use Rattle.std.specs.Prelude.{◌≡◌, ◌⊎◌, ◌≤◌, ◌<◌, ◌+◌, ℕ, Bool, true, false, List, [], Option, Result}
use Rattle.std.specs.Prelude.{Ok, Err, All, length, take}
use Rattle.std.specs.Io.KnownBytes.{Appends, IsAtEnd}
use Rattle.byte_ends.specs.Failures.{OneFailed}
use Rattle.line_reader.specs.Lines.{BeginsWithLine, HasNoLf, IsTooLong}
use Rattle.state_core.specs.declared.item.Item.{Item}
use Rattle.enqueue_lines.specs.Groups.{Fits, GroupItems, ReadySoFar, fresh, ready_first, ready_after, items_of_lines}
use Rattle.enqueue_lines.specs.Lines.{NumbersFit}
use Rattle.enqueue_lines.specs.Printing.{Pipe, item_lines, report_lines}
use Rattle.enqueue_lines.specs.Running.{GroupComes, GroupIsHanded, HandsOver, IsNoEnd, KnownEnds, KnownOutputs}
use Rattle.enqueue_lines.specs.Running.{LineGroup}
use Rattle.enqueue_lines.specs.Running.{NoGroupIsLeft, SaysLines, SaysPiece, StepsOn, WritesItems, WritesTexts, all_say}
use Rattle.enqueue_lines.specs.Running.{counted_on}
use Rattle.enqueue_lines.specs.Running.{group_says, held_after, line_says, most_lines, ready_then, starting}
use Rattle.enqueue_lines.specs.declared.fault.EnqueueFault.{EnqueueFault}
use Rattle.enqueue_lines.specs.declared.fault.EnqueueFault.TheVariants.{BadLine, BadEnd, NoEnd, ReadFault, NoMemory}
use Rattle.enqueue_lines.specs.declared.fault.EnqueueFault.TheVariants.{WriteFault, BadQuery, BadHanded}
use Rattle.enqueue_lines.specs.declared.run.Step.{Step}
use Rattle.enqueue_lines.specs.declared.run.Step.TheVariants.{GoesOn, EndsWith, Stops}
use Rattle.enqueue_lines.specs.declared.site_line.SiteLine.{SiteLine}

-- the most bytes of a line that a site prints, without its line end
abbrev pub site_line_limit : ℕ
site_line_limit = 4096

-- the number of the line after so many, counted from 1
abbrev pub number_after : ℕ → ℕ
number_after before = counted_on before 1

-- ---- a line that can't be read

-- the bytes begin with a line that no site prints, or with more bytes than a line may have
abbrev pub BeginsBadly : ℕ → List ℕ → Type 0
BeginsBadly limit bytes =
    ((piece : List ℕ) × (later : List ℕ) × BeginsWithLine limit bytes piece later
    × ((parsed : SiteLine) → NumbersFit parsed → ¬ SaysPiece piece parsed))
    ⊎ IsTooLong limit bytes

-- why the line with this number, at the beginning of these bytes, can't be read: it is bad, a read of the input failed,
-- or memory was refused
abbrev pub LacksLine : ℕ → List ℕ → ℕ → ℕ → ℕ → EnqueueFault → Type 0
LacksLine limit bytes number unread reads (BadLine bad) =
    (bad ≡ number) × BeginsBadly limit bytes × (reads ≡ unread)
LacksLine limit bytes number unread reads (BadEnd bad) = ⊥
LacksLine limit bytes number unread reads NoEnd = ⊥
LacksLine limit bytes number unread reads ReadFault = OneFailed unread reads
LacksLine limit bytes number unread reads NoMemory = reads ≡ unread
LacksLine limit bytes number unread reads WriteFault = ⊥
LacksLine limit bytes number unread reads (BadQuery bad) = ⊥
LacksLine limit bytes number unread reads (BadHanded bad) = ⊥

-- ---- a group that isn't handed over

-- some lines of a group came, none of which ends it, and the next line can't be read, or couldn't be counted
pub record BreaksGroup (limit : ℕ) (bytes : List ℕ) (before unread reads : ℕ) (fault : EnqueueFault) : Type 0 where
  pub lines : List SiteLine
  pub after : List ℕ
  pub whole : All IsNoEnd lines
  pub says : SaysLines bytes after lines
  pub cause : LacksLine limit after (number_after (before + length lines)) unread reads fault
      ⊎ ((fault ≡ ReadFault) × (most_lines ≤ before + length lines) × (reads ≡ unread))

-- the end line of a group, which has this number, doesn't fit the lines before it
pub record IsMisfit (bytes : List ℕ) (ready : List Item) (before number : ℕ) : Type 0 where
  pub group : LineGroup
  pub after : List ℕ
  pub whole : All IsNoEnd group.lines
  pub says : SaysLines bytes after (group_says group)
  pub misfit : ¬ Fits ready (items_of_lines group.lines) group.ready
  pub numbered : number ≡ number_after (before + length group.lines)

-- the input ended after some lines of a group, none of which ends it, or within a line
pub record IsTornGroup (bytes : List ℕ) (left : Option (List ℕ)) : Type 0 where
  pub lines : List SiteLine
  pub after : List ℕ
  pub whole : All IsNoEnd lines
  pub says : SaysLines bytes after lines
  pub open_line : HasNoLf after
  pub some : ¬ (bytes ≡ [])
  pub end : IsAtEnd left

-- a proper prefix of the text was written, and then a write failed
pub record TextIsCutShort (text : List ℕ) (taken later : Option (List ℕ)) (failed failures : ℕ) : Type 0 where
  pub count : ℕ
  pub proper : count < length text
  pub prefix : Appends taken later (take count text)
  pub one_failed : OneFailed failed failures

-- writing broke off: within the lines, and then no report was written; or within the reports, after all lines
abbrev pub BreaksTexts : List ℕ → List ℕ → KnownOutputs → KnownOutputs → Type 0
BreaksTexts lines reports old new =
    (TextIsCutShort lines old.printed new.printed old.unprinted new.unprinted
    × (new.reported ≡ old.reported) × (new.unreported ≡ old.unreported))
    ⊎ (Appends old.printed new.printed lines × (new.unprinted ≡ old.unprinted)
    × TextIsCutShort reports old.reported new.reported old.unreported new.unreported)

abbrev pub BreaksItems : Pipe → List Item → KnownOutputs → KnownOutputs → Type 0
BreaksItems pipe items old new = BreaksTexts (item_lines pipe items) (report_lines pipe items) old new

-- a group came whole, and its end line fits, but writing what it makes ready broke off
pub record BreaksWriting (pipe : Pipe) (bytes : List ℕ) (held : ReadySoFar) (old new : KnownOutputs) : Type 0 where
  pub group : LineGroup
  pub after : List ℕ
  pub whole : All IsNoEnd group.lines
  pub says : SaysLines bytes after (group_says group)
  pub fits : Fits held.ready (items_of_lines group.lines) group.ready
  pub broken : BreaksItems pipe (fresh held (ready_then held.ready group)) old new

-- why the next group, which begins these bytes after so many lines, isn't handed over: nothing of it was written,
-- unless a write failed
abbrev pub StopsAt : Pipe → ℕ → List ℕ → ReadySoFar → ℕ → KnownEnds → KnownEnds → EnqueueFault → Type 0
StopsAt pipe limit bytes held before old new (BadLine number) =
    (new.outputs ≡ old.outputs) × BreaksGroup limit bytes before old.unread new.unread (BadLine number)
StopsAt pipe limit bytes held before old new (BadEnd number) =
    (new.outputs ≡ old.outputs) × (new.unread ≡ old.unread) × IsMisfit bytes held.ready before number
StopsAt pipe limit bytes held before old new NoEnd =
    (new.outputs ≡ old.outputs) × (new.unread ≡ old.unread) × IsTornGroup bytes new.left
StopsAt pipe limit bytes held before old new ReadFault =
    (new.outputs ≡ old.outputs) × BreaksGroup limit bytes before old.unread new.unread ReadFault
StopsAt pipe limit bytes held before old new NoMemory = (new.outputs ≡ old.outputs) × (new.unread ≡ old.unread)
StopsAt pipe limit bytes held before old new WriteFault =
    BreaksWriting pipe bytes held old.outputs new.outputs × (new.unread ≡ old.unread)
StopsAt pipe limit bytes held before old new (BadQuery number) = ⊥
StopsAt pipe limit bytes held before old new (BadHanded number) = ⊥

-- ---- the law of an end

-- handing over ended early with this fault: groups were handed over up to a moment, and the next one, with which the
-- rest begins, wasn't, for this reason
pub record EndsEarly (pipe : Pipe) (earlier : List Item) (old new : KnownEnds) (fault : EnqueueFault) : Type 0 where
  pub mid : KnownEnds
  pub rest : List ℕ
  pub hands : HandsOver pipe earlier old mid rest
  pub left : new.left ≡ mid.left
  pub stops : StopsAt pipe site_line_limit rest (held_after (starting earlier) hands.prints.groups)
      (length (all_say hands.prints.groups)) mid new fault

-- all groups were handed over, and the input has ended; or handing over ended early
abbrev pub HandsAll : Pipe → List Item → KnownEnds → KnownEnds → Result (Unit {0}) EnqueueFault → Type 0
HandsAll pipe earlier old new (Ok done) = HandsOver pipe earlier old new [] × IsAtEnd new.left
HandsAll pipe earlier old new (Err fault) = EndsEarly pipe earlier old new fault

-- ---- the contracts of the parts of a step

-- what the next line says, if there is one
abbrev pub SaysNext : ℕ → List ℕ → List ℕ → ℕ → ℕ → ℕ → Result (Option SiteLine) EnqueueFault → Type 0
SaysNext limit bytes rest number unread reads (Ok read) = SaysLines bytes rest (line_says read) × (reads ≡ unread)
SaysNext limit bytes rest number unread reads (Err fault) = LacksLine limit bytes number unread reads fault

-- how a group goes on after the next line
abbrev pub TakesNextLine : ℕ → List ℕ → List ℕ → List SiteLine → List SiteLine → ℕ → ℕ → ℕ → Result Step EnqueueFault
    → Type 0
TakesNextLine limit bytes rest old new number unread reads (Ok step) =
    StepsOn bytes rest old new step × (reads ≡ unread)
TakesNextLine limit bytes rest old new number unread reads (Err fault) = LacksLine limit bytes number unread reads fault

-- the lines that came are counted after a step
abbrev pub CountsStep : ℕ → ℕ → Step → Type 0
CountsStep old new GoesOn = new ≡ number_after old
CountsStep old new (EndsWith ready) = new ≡ number_after old
CountsStep old new Stops = new ≡ old

-- the lines of a group have come, after so many others
abbrev pub ReadsGroup : ℕ → List ℕ → List ℕ → List SiteLine → ℕ → ℕ → ℕ → ℕ → Result (Option ℕ) EnqueueFault → Type 0
ReadsGroup limit bytes rest kept before count unread reads (Ok ended) =
    GroupComes bytes rest kept count ended × (reads ≡ unread)
ReadsGroup limit bytes rest kept before count unread reads (Err fault) =
    BreaksGroup limit bytes before unread reads fault

-- a text was written, or a proper prefix of it
abbrev pub SendsLines : List ℕ → Option (List ℕ) → Option (List ℕ) → ℕ → ℕ → Result (Unit {0}) EnqueueFault → Type 0
SendsLines text taken later failed failures (Ok done) = Appends taken later text × (failures ≡ failed)
SendsLines text taken later failed failures (Err fault) =
    (fault ≡ WriteFault) × TextIsCutShort text taken later failed failures

-- both texts were written, or writing broke off
abbrev pub SendsTexts : List ℕ → List ℕ → KnownOutputs → KnownOutputs → Result (Unit {0}) EnqueueFault → Type 0
SendsTexts lines reports old new (Ok done) = WritesTexts lines reports old new
SendsTexts lines reports old new (Err fault) = (fault ≡ WriteFault) × BreaksTexts lines reports old new

-- the texts of these items were written; or writing broke off, or memory was refused
abbrev pub SendsItems : Pipe → List Item → KnownOutputs → KnownOutputs → Result (Unit {0}) EnqueueFault → Type 0
SendsItems pipe items old new (Ok done) = WritesItems pipe items old new
SendsItems pipe items old new (Err fault) =
    ((fault ≡ WriteFault) × BreaksItems pipe items old new) ⊎ ((fault ≡ NoMemory) × (new ≡ old))

-- a group that came, whose end line has this number, is handed over; or its end doesn't fit, writing broke off, or
-- memory was refused
pub record IsHandedOver (pipe : Pipe) (group : GroupItems) (ready : ℕ) (held next : ReadySoFar) (old new : KnownOutputs)
    (more : Bool) : Type 0 where
  pub more_is : more ≡ true
  pub fits : Fits held.ready group ready
  pub held_is : next ≡ ready_first (ready_after held.ready group ready)
  pub written : WritesItems pipe (fresh held (ready_after held.ready group ready)) old new

abbrev pub IsNotGiven : Pipe → GroupItems → ℕ → ℕ → ReadySoFar → KnownOutputs → KnownOutputs → EnqueueFault → Type 0
IsNotGiven pipe group ready number held old new fault =
    ((fault ≡ BadEnd number) × (¬ Fits held.ready group ready) × (new ≡ old))
    ⊎ ((fault ≡ WriteFault) × Fits held.ready group ready
    × BreaksItems pipe (fresh held (ready_after held.ready group ready)) old new)
    ⊎ ((fault ≡ NoMemory) × (new ≡ old))

abbrev pub Gives : Pipe → GroupItems → ℕ → ℕ → ReadySoFar → ReadySoFar → KnownOutputs → KnownOutputs
    → Result Bool EnqueueFault → Type 0
Gives pipe group ready number held next old new (Ok more) = IsHandedOver pipe group ready held next old new more
Gives pipe group ready number held next old new (Err fault) = IsNotGiven pipe group ready number held old new fault

-- the next group was handed over; or there is none; or this is why it can't be handed over
abbrev pub HandsGroup : Pipe → ℕ → List ℕ → List ℕ → ℕ → ℕ → ReadySoFar → ReadySoFar → KnownEnds → KnownEnds
    → Result Bool EnqueueFault → Type 0
HandsGroup pipe limit bytes rest number numbered held next old new (Ok true) =
    GroupIsHanded pipe bytes rest number numbered held next old new
HandsGroup pipe limit bytes rest number numbered held next old new (Ok false) = NoGroupIsLeft bytes old new
HandsGroup pipe limit bytes rest number numbered held next old new (Err fault) =
    StopsAt pipe limit bytes held number old new fault
