-- The contracts of the private functions that make up a step of a feed.
use Rattle.std.specs.Prelude.{◌≡◌, ◌≤◌, ◌⊎◌, ℕ, Bool, true, false, List, ◌++◌, Option, Some, None, Result, Ok, Err}
use Rattle.std.specs.Prelude.{length}
use Rattle.std.specs.Io.KnownBytes.{Consumes, IsAtEnd}
use Rattle.byte_ends.specs.Failures.{OneFailed}
use Rattle.byte_ends.specs.Lines.{as_line}
use Rattle.gerrit_events.specs.Projects.{Choice}
use Rattle.gerrit_events.specs.Reading.{Reads, ParsedLine}
use Rattle.gerrit_events.specs.Revisions.{Revision}
use Rattle.line_reader.specs.Lines.{HasNoLf, endless}
use Rattle.event_feed.specs.Ends.{Begin, HasCome, IsTextRead}
use Rattle.event_feed.specs.Feed.{EndsWith, Fails, HandsLast, IsEnd, IsTurn, IsUnrested, Standing, FeedTurn, no_event}
use Rattle.event_feed.specs.Feed.{Waits, ended_by, with_taker}
use Rattle.event_feed.specs.Progress.{after_part}
use Rattle.event_feed.specs.declared.fault.FeedFault.{FeedFault}
use Rattle.event_feed.specs.declared.fault.FeedFault.TheVariants.{Dropped, ReadFault, WriteFault, NoMemory, NoSite}
use Rattle.event_feed.specs.declared.fault.FeedFault.TheVariants.{Ended}
use Rattle.event_feed.specs.declared.fault.FeedFault.TheVariants.{Incomplete, NoEnd, NoKey, NotAllowed, NotProved}
use Rattle.event_feed.specs.declared.progress.Input.{Input}
use Rattle.event_feed.specs.declared.progress.Progress.{Progress}

-- whether there is more to come, where nothing failed
abbrev pub with_more : Bool → Result (Unit {0}) FeedFault → Result Bool FeedFault
with_more more (Ok done) = Ok more
with_more more (Err fault) = Err fault

-- a feed goes on, unless it ends so
abbrev pub goes_on : Option FeedFault → Result Bool FeedFault
goes_on None = Ok true
goes_on (Some fault) = Err fault

-- why passing over a line, of which these bytes came, breaks off
abbrev pub BreaksPassing : List ℕ → Begin → Begin → FeedFault → Type 0
BreaksPassing came source later Dropped = ⊥
BreaksPassing came source later ReadFault =
    OneFailed source.failed later.failed ⊎ ((endless ≤ length came) × (later.failed ≡ source.failed))
BreaksPassing came source later WriteFault = ⊥
BreaksPassing came source later NoMemory = later.failed ≡ source.failed
BreaksPassing came source later NoSite = ⊥
BreaksPassing came source later Ended = ⊥
BreaksPassing came source later Incomplete = ⊥
BreaksPassing came source later NoKey = ⊥
BreaksPassing came source later NotProved = ⊥
BreaksPassing came source later NotAllowed = ⊥
BreaksPassing came source later NoEnd = ⊥

module _ {Taker : Type 0} (rests : Taker → Result (Unit {0}) FeedFault → Taker → Type 0) where
  -- the taker rests where it has to
  abbrev pub Rests : List ℕ → Taker → Taker → Result (Unit {0}) FeedFault → Type 0
  Rests held old new (Ok done) = Waits rests held old new
  Rests held old new (Err fault) = HasNoLf held × rests old (Err fault) new

module _ {Taker : Type 0} (takes : Taker → ℕ → ParsedLine → Result (Unit {0}) FeedFault → Taker → Type 0) where
  -- what a line says is handed over, and may end the feed
  abbrev pub IsHanded : ℕ → ParsedLine → Progress → Progress → Taker → Taker → Result Bool FeedFault → Type 0
  IsHanded number parsed before after old new (Ok true) =
      takes old number parsed (Ok tt) new × (ended_by parsed ≡ None) × (after ≡ after_part before parsed.part)
  IsHanded number parsed before after old new (Ok false) = ⊥
  IsHanded number parsed before after old new (Err fault) =
      (takes old number parsed (Err fault) new ⊎ (takes old number parsed (Ok tt) new × (ended_by parsed ≡ Some fault)))
      × (after ≡ after_part before parsed.part)

  -- a line is read, and what it says is handed over; or memory is refused for reading it
  abbrev pub IsLineTaken : Choice → ℕ → List ℕ → List Revision → List Revision → Progress → Progress → Taker → Taker
      → Result Bool FeedFault → Type 0
  IsLineTaken choice number line known learned before after old new result =
      ((parsed : ParsedLine) × Reads known choice line parsed learned × IsHanded number parsed before after old new result)
      ⊎ ((result ≡ Err NoMemory) × (learned ≡ known) × (after ≡ before) × (new ≡ old))

  -- it is handed over that there is no event; or memory is refused for that
  abbrev pub IsRefused : ℕ → Progress → Progress → Taker → Taker → Result Bool FeedFault → Type 0
  IsRefused number before after old new result =
      IsHanded number no_event before after old new result
      ⊎ ((result ≡ Err NoMemory) × (after ≡ before) × (new ≡ old))

  -- the same for the bytes after the last LF
  abbrev pub IsRefusedLast : ℕ → Taker → Taker → Result (Unit {0}) FeedFault → Result (Unit {0}) FeedFault → Type 0
  IsRefusedLast number old new ending result =
      HandsLast takes number no_event old new ending result
      ⊎ ((result ≡ Err NoMemory) × (new ≡ old))

  -- the bytes after the last LF are handed over as no event, if there are any
  abbrev pub IsRestTaken : ℕ → List ℕ → Taker → Taker → Result (Unit {0}) FeedFault → Result (Unit {0}) FeedFault
      → Type 0
  IsRestTaken number rest old new ending result =
      EndsWith takes number rest old new ending result
      ⊎ ((result ≡ Err NoMemory) × (new ≡ old))

  -- a line that is too long is passed over, and then it is handed over that it is no event
  pub record IsPassed (number : ℕ) (source later : Begin) (before after : Progress) (old new : Taker)
      (result : Result Bool FeedFault) : Type 0 where
    pub piece : List ℕ
    pub read : IsTextRead (as_line piece) source later
    pub plain : HasNoLf piece
    pub refused : IsRefused number before after old new result

  -- the source ends in it
  pub record IsPassedLast (number : ℕ) (source later : Begin) (before after : Progress) (old new : Taker)
      (ending : Result (Unit {0}) FeedFault) (result : Result Bool FeedFault) : Type 0 where
    pub came : List ℕ
    pub read : HasCome came source later
    pub plain : HasNoLf (source.held ++ came)
    pub end : IsAtEnd later.left
    pub same : after ≡ before
    pub last : Result (Unit {0}) FeedFault
    pub refused : IsRefusedLast number old new ending last
    pub goes_on : result ≡ with_more false last

  -- passing over it breaks off
  pub record IsUnpassed (source later : Begin) (before after : Progress) (old new : Taker)
      (result : Result Bool FeedFault) : Type 0 where
    pub fault : FeedFault
    pub is : result ≡ Err fault
    pub came : List ℕ
    pub consumed : Consumes source.left later.left came
    pub plain : HasNoLf (source.held ++ came)
    pub same : (after ≡ before) × (new ≡ old)
    pub cause : BreaksPassing came source later fault

  abbrev pub PassesOver : ℕ → Begin → Begin → Progress → Progress → Taker → Taker → Result (Unit {0}) FeedFault
      → Result Bool FeedFault → Type 0
  PassesOver number source later before after old new ending result =
      IsPassed number source later before after old new result
      ⊎ IsPassedLast number source later before after old new ending result
      ⊎ IsUnpassed source later before after old new result

  -- what a call answers that takes the next line once the taker has rested: whether there was one
  abbrev pub Moves : Input → Choice → ℕ → ℕ → Standing Taker → Standing Taker → Result Bool FeedFault → Type 0
  Moves input choice limit number old new (Ok true) =
      (turn : FeedTurn) × IsTurn takes choice limit number old new turn (Ok tt) × (ended_by turn.parsed ≡ None)
  Moves input choice limit number old new (Ok false) = IsEnd takes input number old new (Ok tt)
  Moves input choice limit number old new (Err fault) = Fails takes input choice limit number old new fault

module _ {Taker : Type 0} (rests : Taker → Result (Unit {0}) FeedFault → Taker → Type 0)
    (takes : Taker → ℕ → ParsedLine → Result (Unit {0}) FeedFault → Taker → Type 0) where
  -- what a call answers that takes the next line
  abbrev pub Steps : Input → Choice → ℕ → ℕ → Standing Taker → Standing Taker → Result Bool FeedFault → Type 0
  Steps input choice limit number old new (Ok true) =
      (waiting : Taker) × Waits rests old.source.held old.taker waiting
      × Moves takes input choice limit number (with_taker old waiting) new (Ok true)
  Steps input choice limit number old new (Ok false) =
      (waiting : Taker) × Waits rests old.source.held old.taker waiting
      × Moves takes input choice limit number (with_taker old waiting) new (Ok false)
  Steps input choice limit number old new (Err fault) =
      IsUnrested rests old new fault
      ⊎ ((waiting : Taker) × Waits rests old.source.held old.taker waiting
      × Moves takes input choice limit number (with_taker old waiting) new (Err fault))
