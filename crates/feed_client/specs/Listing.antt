-- A feed of an answer that lists every open change: those that it doesn't list are abandoned, and asked for, since they
-- may be merged.
use Rattle.std.specs.Prelude.{◌≡◌, ◌⊎◌, ℕ, true, false, List, Option, None, Some, Result, Ok, Err, map}
use Rattle.std.specs.Ordering.{nat_cmp}
use Rattle.std.specs.BTreeSet.{Updates, contains}
use Rattle.event_feed.specs.Ends.{FeedIsCutShort, IsWritten}
use Rattle.event_feed.specs.Feed.{Feeds, gerrit_line_limit}
use Rattle.event_feed.specs.declared.fault.FeedFault.{FeedFault}
use Rattle.event_feed.specs.declared.fault.FeedFault.TheVariants.{Incomplete, NoMemory, WriteFault}
use Rattle.event_feed.specs.declared.progress.Input.TheVariants.{Answer}
use Rattle.event_filter.specs.Bringing.{AreBodies}
use Rattle.event_filter.specs.Vanishing.{abandons}
use Rattle.gerrit_events.specs.Projects.{Choice}
use Rattle.gerrit_events.specs.Reading.{ParsedLine}
use Rattle.gerrit_events.specs.declared.part.Part.{Part}
use Rattle.gerrit_events.specs.declared.part.Part.TheVariants.{Nothing, Event, Row, Stats, Error}
use Rattle.review_ops.specs.Deed.{Deed, change_of}
use Rattle.review_ops.specs.Timestamp.{Timestamp}
use Rattle.feed_client.specs.Holding.{AnswerRests, AnswerTakes, TakesHeld}
use Rattle.feed_client.specs.InTurn.{InTurn}
use Rattle.feed_client.specs.Meeting.{Offers}
use Rattle.feed_client.specs.Rounds.{SiteRound}
use Rattle.feed_client.specs.Taking.{Seen, ask_lines}
use Rattle.feed_client.specs.declared.holding.HeldLine.{HeldLine}
use Rattle.feed_client.specs.declared.intake.IntakeFault.{IntakeFault}
use Rattle.feed_client.specs.declared.noted.Noted.{Noted}

-- nothing is noted yet
pub record IsUnnoted (noted : Noted) : Type 0 where
  pub none : (change : ℕ) → contains nat_cmp noted.changes change ≡ false
  pub sure : noted.is_sure ≡ true

-- a row lists its change; a line that can't be read may have listed any
abbrev pub NotesRow : Option ℕ → Noted → Noted → Type 0
NotesRow (Some change) old new = Updates nat_cmp old.changes new.changes change true × (new.is_sure ≡ old.is_sure)
NotesRow None old new = (new.changes ≡ old.changes) × (new.is_sure ≡ false)

abbrev pub NotesPart : Part → Noted → Noted → Type 0
NotesPart Nothing old new = (new.changes ≡ old.changes) × (new.is_sure ≡ false)
NotesPart (Event change) old new = (new.changes ≡ old.changes) × (new.is_sure ≡ old.is_sure)
NotesPart (Row change) old new = NotesRow change old new
NotesPart (Stats more) old new = (new.changes ≡ old.changes) × (new.is_sure ≡ old.is_sure)
NotesPart Error old new = (new.changes ≡ old.changes) × (new.is_sure ≡ old.is_sure)

-- what the line of this number lists is noted
abbrev pub Notes : ℕ → Part → Noted → Noted → Type 0
Notes number part old new = NotesPart part old new × (new.last ≡ number)

module _ {Site : Type 0} (replies : Site → Deed → Result Timestamp IntakeFault → Site → Type 0) where
  -- the changes of these abandons are asked for, and then they are offered; none is where asking is cut short
  abbrev pub AsksAndAbandons : ℕ → List Deed → Seen Site → Seen Site → Result (Unit {0}) FeedFault → Type 0
  AsksAndAbandons number bodies old new result =
      (IsWritten (ask_lines (map change_of bodies)) old.output new.output
      × InTurn (Offers replies number) bodies old.place new.place result)
      ⊎ (FeedIsCutShort (ask_lines (map change_of bodies)) old.output new.output × (result ≡ Err WriteFault)
      × (new.place ≡ old.place))

  -- each change that is NEW and isn't listed is asked for and abandoned, where all was read
  abbrev pub AbandonsRest : Noted → Seen Site → Seen Site → Result (Unit {0}) FeedFault → Type 0
  AbandonsRest noted old new result =
      ((noted.is_sure ≡ true) × (bodies : List Deed) × AreBodies (abandons noted.changes old.place.state) bodies
      × AsksAndAbandons noted.last bodies old new result × (new.bases ≡ old.bases))
      ⊎ ((noted.is_sure ≡ false) × (result ≡ Err Incomplete) × (new ≡ old))
      ⊎ ((result ≡ Err NoMemory) × (new ≡ old))

module _ {Whole Waiting Feed Site : Type 0} (answer : Whole → Waiting) (noted : Whole → Noted) (feed : Waiting → Feed)
    (held : Waiting → List HeldLine) (shown : Feed → Seen Site)
    (replies : Site → Deed → Result Timestamp IntakeFault → Site → Type 0)
    (answers : Site → Result SiteRound IntakeFault → Site → Type 0) where
  abbrev pub ListingRests : Whole → Result (Unit {0}) FeedFault → Whole → Type 0
  ListingRests old result new =
      AnswerRests feed held shown replies answers (answer old) result (answer new) × (noted new ≡ noted old)

  abbrev pub ListingTakes : Whole → ℕ → ParsedLine → Result (Unit {0}) FeedFault → Whole → Type 0
  ListingTakes old number parsed result new =
      (Notes number parsed.part (noted old) (noted new)
      × AnswerTakes feed held shown replies answers (answer old) number parsed result (answer new))
      ⊎ ((result ≡ Err NoMemory) × (answer new ≡ answer old))

  -- what waits is taken, and then what wasn't listed is abandoned, unless the first fails
  abbrev pub TakesAndAbandons : Whole → Whole → Result (Unit {0}) FeedFault → Type 0
  TakesAndAbandons old new result =
      ((mid : Feed) × TakesHeld shown replies (held (answer old)) (feed (answer old)) mid (Ok tt)
      × AbandonsRest replies (noted old) (shown mid) (shown (feed (answer new))) result)
      ⊎ ((fault : FeedFault) × (result ≡ Err fault)
      × TakesHeld shown replies (held (answer old)) (feed (answer old)) (feed (answer new)) (Err fault))

  -- how it ends, once the answer was fed so
  abbrev pub EndsListing : Result (Unit {0}) FeedFault → Whole → Whole → Result (Unit {0}) FeedFault → Type 0
  EndsListing (Ok done) old new result = TakesAndAbandons old new result
  EndsListing (Err fault) old new result = (result ≡ Err fault) × (new ≡ old)

  -- the answer is fed to the site, and then what it doesn't list is abandoned
  pub record CompletesSite (choice : Choice) (left : Option (List ℕ)) (unread : ℕ) (old : Whole)
      (left' : Option (List ℕ)) (unread' : ℕ)
      (new : Whole) (result : Result (Unit {0}) FeedFault) : Type 0 where
    pub between : Whole
    pub answered : Result (Unit {0}) FeedFault
    pub fed : Feeds ListingRests ListingTakes Answer choice gerrit_line_limit 18446744073709551615 left unread old left' unread' between answered
    pub ended : EndsListing answered between new result
