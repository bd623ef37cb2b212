-- A feed: the lines of a source are read one after the other, and what each says is handed to a taker before the next
-- one is read.
use Rattle.std.specs.Prelude.{◌≡◌, ◌⊎◌, ◌<◌, ◌≤◌, ◌+◌, ℕ, List, [], ◌∷◌, ◌++◌, Option, Some, None}
use Rattle.std.specs.Prelude.{Result, Ok, Err, length, if◌then◌else◌}
use Rattle.std.specs.Io.KnownBytes.{Consumes, IsAtEnd}
use Rattle.byte_ends.specs.Failures.{OneFailed}
use Rattle.byte_ends.specs.Lines.{as_line, without_cr}
use Rattle.gerrit_events.specs.Projects.{Choice}
use Rattle.gerrit_events.specs.Reading.{Reads, ParsedLine}
use Rattle.gerrit_events.specs.Revisions.{Revision}
use Rattle.gerrit_events.specs.declared.fault.EventFault.TheVariants.{BadEvent}
use Rattle.gerrit_events.specs.declared.fault.EventKey.TheVariants.{Line}
use Rattle.gerrit_events.specs.declared.finding.Finding.TheVariants.{Refuses}
use Rattle.gerrit_events.specs.declared.part.Part.{Part}
use Rattle.gerrit_events.specs.declared.part.Part.TheVariants.{Nothing, Event, Row, Stats, Error}
use Rattle.line_reader.specs.Lines.{HasFirstLf, HasNoLf}
use Rattle.event_feed.specs.Ends.{Begin, HasCome, IsEndless, IsTextRead}
use Rattle.event_feed.specs.Progress.{after_part, end_of}
use Rattle.event_feed.specs.Texts.{drops}
use Rattle.event_feed.specs.declared.fault.FeedFault.{FeedFault}
use Rattle.event_feed.specs.declared.fault.FeedFault.TheVariants.{Dropped, ReadFault, WriteFault, NoMemory, NoSite}
use Rattle.event_feed.specs.declared.fault.FeedFault.TheVariants.{Ended}
use Rattle.event_feed.specs.declared.fault.FeedFault.TheVariants.{Incomplete, NoEnd, NoKey, NotAllowed, NotProved}
use Rattle.event_feed.specs.declared.progress.Input.{Input}
use Rattle.event_feed.specs.declared.progress.Progress.{Progress}
use Rattle.event_feed.specs.declared.progress.Progress.TheVariants.{Unbegun}

-- the most bytes of a line of Gerrit's: 64 MiB
abbrev pub gerrit_line_limit : ℕ
gerrit_line_limit = 67108864

-- ---- what a line says

-- a line as it came, without its LF, and what it says
pub record FeedTurn : Type 0 where
  pub piece : List ℕ
  pub parsed : ParsedLine

-- the result for a line that is no event
abbrev pub no_event : ParsedLine
no_event = record { part = Nothing; findings = Refuses (BadEvent Line) ∷ [] }

-- a line of at most so many bytes says what is read of it, where the changes of these projects are fed; a longer one
-- is no event, and isn't read
abbrev pub IsFoundTurn : Choice → ℕ → List Revision → FeedTurn → List Revision → Type 0
IsFoundTurn choice limit known turn after =
    ((length turn.piece ≤ limit) × Reads known choice (without_cr turn.piece) turn.parsed after)
    ⊎ ((limit < length turn.piece) × (turn.parsed ≡ no_event) × (after ≡ known))

-- an answer that is an error is none
abbrev pub fault_of : Part → Option FeedFault
fault_of Nothing = None
fault_of (Event change) = None
fault_of (Row change) = None
fault_of (Stats more) = None
fault_of Error = Some Incomplete

-- the fault with which the feed ends after the line, if it does
abbrev pub ended_by : ParsedLine → Option FeedFault
ended_by parsed = if drops parsed.findings then Some Dropped else fault_of parsed.part

-- ---- between two lines

pub record Standing (Taker : Type 0) : Type 0 where
  pub source : Begin
  pub known : List Revision
  pub progress : Progress
  pub taker : Taker

-- nothing was learned of a line
abbrev pub IsUnlearned : {Taker : Type 0} → Standing Taker → Standing Taker → Type 0
IsUnlearned old new = (new.known ≡ old.known) × (new.progress ≡ old.progress)

abbrev pub with_taker : {Taker : Type 0} → Standing Taker → Taker → Standing Taker
with_taker standing taker = record standing { taker = taker }

-- why reading broke off: the source failed, an endless line had too many blocks, or memory was refused
abbrev pub BreaksOff : ℕ → List ℕ → Begin → Begin → FeedFault → Type 0
BreaksOff limit bytes source later Dropped = ⊥
BreaksOff limit bytes source later ReadFault =
    OneFailed source.failed later.failed ⊎ (IsEndless limit bytes × (later.failed ≡ source.failed))
BreaksOff limit bytes source later WriteFault = ⊥
BreaksOff limit bytes source later NoMemory = later.failed ≡ source.failed
BreaksOff limit bytes source later NoSite = ⊥
BreaksOff limit bytes source later Ended = ⊥
BreaksOff limit bytes source later Incomplete = ⊥
BreaksOff limit bytes source later NoKey = ⊥
BreaksOff limit bytes source later NotProved = ⊥
BreaksOff limit bytes source later NotAllowed = ⊥
BreaksOff limit bytes source later NoEnd = ⊥

-- reading a line broke off, and nothing of it was handed over
pub record BreaksFeed {Taker : Type 0} (limit : ℕ) (old new : Standing Taker) (fault : FeedFault) : Type 0 where
  pub came : List ℕ
  pub consumed : Consumes old.source.left new.source.left came
  pub same : IsUnlearned old new × (new.taker ≡ old.taker)
  pub cause : BreaksOff limit (old.source.held ++ came) old.source new.source fault

module _ {Taker : Type 0} (rests : Taker → Result (Unit {0}) FeedFault → Taker → Type 0) where
  -- before more of the source is read the taker rests; where a whole line is held it doesn't
  abbrev pub Waits : List ℕ → Taker → Taker → Type 0
  Waits held old new =
      (HasNoLf held × rests old (Ok tt) new) ⊎ ((at : ℕ) × HasFirstLf held at × (new ≡ old))

  -- the taker couldn't rest
  pub record IsUnrested (old new : Standing Taker) (fault : FeedFault) : Type 0 where
    pub asked : HasNoLf old.source.held
    pub rested : rests old.taker (Err fault) new.taker
    pub same : (new.source ≡ old.source) × IsUnlearned old new

module _ {Taker : Type 0} (takes : Taker → ℕ → ParsedLine → Result (Unit {0}) FeedFault → Taker → Type 0) where
  -- the line of this number is read, and what it says is handed over
  pub record IsTurn (choice : Choice) (limit number : ℕ) (old new : Standing Taker) (turn : FeedTurn)
      (result : Result (Unit {0}) FeedFault) : Type 0 where
    pub read : IsTextRead (as_line turn.piece) old.source new.source
    pub plain : HasNoLf turn.piece
    pub found : IsFoundTurn choice limit old.known turn new.known
    pub progress : new.progress ≡ after_part old.progress turn.parsed.part
    pub taken : takes old.taker number turn.parsed result new.taker

  -- the last result is handed over, and the feed ends with this result, unless the taker fails
  abbrev pub HandsLast : ℕ → ParsedLine → Taker → Taker → Result (Unit {0}) FeedFault → Result (Unit {0}) FeedFault
      → Type 0
  HandsLast number parsed old new ending result =
      (takes old number parsed (Ok tt) new × (result ≡ ending))
      ⊎ ((fault : FeedFault) × takes old number parsed (Err fault) new × (result ≡ Err fault))

  -- bytes after the last LF, if there are any, are handed over as no event
  abbrev pub EndsWith : ℕ → List ℕ → Taker → Taker → Result (Unit {0}) FeedFault → Result (Unit {0}) FeedFault → Type 0
  EndsWith number [] old new ending result = (new ≡ old) × (result ≡ ending)
  EndsWith number (byte ∷ rest) old new ending result = HandsLast number no_event old new ending result

  -- the source is at its end, where an answer of a query has come so far
  pub record IsEnd (input : Input) (number : ℕ) (old new : Standing Taker) (result : Result (Unit {0}) FeedFault)
      : Type 0 where
    pub came : List ℕ
    pub read : HasCome came old.source new.source
    pub plain : HasNoLf (old.source.held ++ came)
    pub end : IsAtEnd new.source.left
    pub same : IsUnlearned old new
    pub ended : EndsWith number (old.source.held ++ came) old.taker new.taker (end_of input old.progress) result

  -- how a feed ends early at the line of this number: with what it says, as the taker can't take it up, with the
  -- source, or as reading breaks off
  abbrev pub Fails : Input → Choice → ℕ → ℕ → Standing Taker → Standing Taker → FeedFault → Type 0
  Fails input choice limit number old new fault =
      ((turn : FeedTurn) × IsTurn choice limit number old new turn (Ok tt) × (ended_by turn.parsed ≡ Some fault))
      ⊎ ((turn : FeedTurn) × IsTurn choice limit number old new turn (Err fault))
      ⊎ IsEnd input number old new (Err fault)
      ⊎ BreaksFeed limit old new fault

-- nothing is held of a source, known or begun
abbrev pub feed_begun : {Taker : Type 0} → Option (List ℕ) → ℕ → Taker → Standing Taker
feed_begun left failed taker =
    record {
      source = record { left = left; failed = failed; held = [] };
      known = [];
      progress = Unbegun;
      taker = taker;
    }

-- ---- the whole feed

module _ {Taker : Type 0} (rests : Taker → Result (Unit {0}) FeedFault → Taker → Type 0)
    (takes : Taker → ℕ → ParsedLine → Result (Unit {0}) FeedFault → Taker → Type 0) where
  -- lines from this number on, one after the other, of which none ends the feed
  abbrev pub Turns : Choice → ℕ → ℕ → Standing Taker → List FeedTurn → Standing Taker → Type 0
  Turns choice limit number old [] new = new ≡ old
  Turns choice limit number old (turn ∷ turns) new =
      (waiting : Taker) × (mid : Standing Taker) × Waits rests old.source.held old.taker waiting
      × IsTurn takes choice limit number (with_taker old waiting) mid turn (Ok tt) × (ended_by turn.parsed ≡ None)
      × Turns choice limit (number + 1) mid turns new

  abbrev pub Stops : Input → Choice → ℕ → ℕ → Standing Taker → Standing Taker → Result (Unit {0}) FeedFault → Type 0
  Stops input choice limit number old new (Ok done) =
      (waiting : Taker) × Waits rests old.source.held old.taker waiting
      × IsEnd takes input number (with_taker old waiting) new (Ok tt)
  Stops input choice limit number old new (Err fault) =
      IsUnrested rests old new fault
      ⊎ ((waiting : Taker) × Waits rests old.source.held old.taker waiting
      × Fails takes input choice limit number (with_taker old waiting) new fault)

  -- so many lines, and then an end; nothing is read where memory is refused at the beginning
  pub record IsFed (input : Input) (choice : Choice) (limit most : ℕ) (old new : Standing Taker)
      (result : Result (Unit {0}) FeedFault)
      : Type 0 where
    pub turns : List FeedTurn
    pub few : length turns ≤ most
    pub mid : Standing Taker
    pub lines : Turns choice limit 1 old turns mid
    pub ended : Stops input choice limit (length turns + 1) mid new result
        ⊎ ((result ≡ Err ReadFault) × (length turns ≡ most) × (new ≡ mid))
        ⊎ ((result ≡ Err NoMemory) × (turns ≡ []) × (new ≡ mid))

  -- a source is fed from its beginning, up to what it and the taker are then
  abbrev pub Feeds : Input → Choice → ℕ → ℕ → Option (List ℕ) → ℕ → Taker → Option (List ℕ) → ℕ → Taker
      → Result (Unit {0}) FeedFault → Type 0
  Feeds input choice limit most left failed old left' failed' new result =
      (held : List ℕ) × (known : List Revision) × (progress : Progress)
      × IsFed input choice limit most (feed_begun left failed old)
      (record { source = record { left = left'; failed = failed'; held = held }; known = known; progress = progress; taker = new })
      result
