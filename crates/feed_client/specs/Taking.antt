-- What a feed of a site does with a line: it writes first which changes have to be queried, and then offers what it
-- found.
use Rattle.std.specs.Prelude.{◌≡◌, ◌⊎◌, ◌↔◌, ℕ, Bool, true, false, List, ◌++◌, Option, Some, Result, Ok, Err, codes, decimal}
use Rattle.std.specs.Prelude.{flat_map, if◌then◌else◌, nat_eq}
use Rattle.std.specs.BTreeSet.{BTreeSet, contains}
use Rattle.std.specs.Ordering.{nat_cmp}
use Rattle.event_feed.specs.Ends.{End, FeedIsCutShort, IsWritten}
use Rattle.event_feed.specs.Feed.{Feeds, gerrit_line_limit}
use Rattle.event_feed.specs.declared.fault.FeedFault.{FeedFault}
use Rattle.event_feed.specs.declared.fault.FeedFault.TheVariants.{WriteFault, NoMemory}
use Rattle.event_feed.specs.declared.progress.Input.{Input}
use Rattle.event_filter.specs.Asking.{AsksFor}
use Rattle.event_filter.specs.Lowering.{ArePutInOrder}
use Rattle.gerrit_events.specs.Projects.{Choice}
use Rattle.gerrit_events.specs.Reading.{ParsedLine}
use Rattle.gerrit_events.specs.declared.finding.Finding.{Finding}
use Rattle.gerrit_events.specs.declared.part.Part.{Part}
use Rattle.gerrit_events.specs.declared.part.Part.TheVariants.{Event}
use Rattle.review_ops.specs.Deed.{Deed}
use Rattle.review_ops.specs.Timestamp.{Timestamp}
use Rattle.state_core.specs.State.{State}
use Rattle.feed_client.specs.InTurn.{InTurn}
use Rattle.feed_client.specs.Meeting.{Meets, FeedPlace}
use Rattle.feed_client.specs.Pulling.{IsCutOff, IsPulled}
use Rattle.feed_client.specs.Rounds.{SiteRound}
use Rattle.feed_client.specs.declared.intake.IntakeFault.{IntakeFault}

-- a feed, as far as contracts see it: the bases of what it asks, where it meets what is found, and the output that it
-- asks on
pub record Seen (Site : Type 0) : Type 0 where
  pub bases : Option (List (List ℕ))
  pub place : FeedPlace Site
  pub output : End

abbrev pub seen_at : {Site : Type 0} → Option (List (List ℕ)) → FeedPlace Site → Option (List ℕ) → ℕ → Seen Site
seen_at bases place taken failed =
    record { bases = bases; place = place; output = record { taken = taken; failed = failed } }

-- a change has to be queried
abbrev pub ask_line : ℕ → List ℕ
ask_line change = codes "ask " ++ decimal change ++ codes "\n"

abbrev pub ask_lines : List ℕ → List ℕ
ask_lines changes = flat_map ask_line changes

-- a change that the line of another one needs has to be queried
abbrev pub need_line : ℕ → List ℕ
need_line change = codes "need " ++ decimal change ++ codes "\n"

-- the line is an event of this change
abbrev pub is_event_of : Part → ℕ → Bool
is_event_of (Event (Some number)) change = nat_eq number change
is_event_of part change = false

abbrev pub asked_line : Part → ℕ → List ℕ
asked_line part change = if is_event_of part change then ask_line change else need_line change

abbrev pub asked_lines : Part → List ℕ → List ℕ
asked_lines part changes = flat_map (asked_line part) changes

-- just these changes have to be asked for, where the line is to be met by the record
abbrev pub AreAsked : Option (List (List ℕ)) → State → ParsedLine → BTreeSet ℕ → Type 0
AreAsked bases state parsed asks =
    (change : ℕ) → (contains nat_cmp asks change ≡ true) ↔ AsksFor state bases parsed change

-- what came to the site is taken into the state
abbrev pub LearnsNews : {Site : Type 0} → (Site → Result SiteRound IntakeFault → Site → Type 0) → Seen Site → Seen Site
    → Result (Unit {0}) FeedFault → Type 0
LearnsNews answers old new (Ok done) =
    (count : ℕ) × IsPulled answers old.place.site old.place.state new.place.site new.place.state count
    × (new.place.errors ≡ old.place.errors) × (new.output ≡ old.output) × (new.bases ≡ old.bases)
LearnsNews answers old new (Err fault) =
    IsCutOff answers old.place.site old.place.state new.place.site new.place.state fault
    × (new.place.errors ≡ old.place.errors) × (new.output ≡ old.output) × (new.bases ≡ old.bases)

module _ {Site : Type 0} (replies : Site → Deed → Result Timestamp IntakeFault → Site → Type 0) where
  -- the findings are processed, what lowers an item first
  abbrev pub MeetsInOrder : ℕ → List Finding → FeedPlace Site → FeedPlace Site → Result (Unit {0}) FeedFault → Type 0
  MeetsInOrder number findings old new result =
      (met : List Finding) × ArePutInOrder old.state findings met × InTurn (Meets replies number) met old new result

  -- the lines that ask for these changes are written, and then the findings are processed; if those lines are cut short,
  -- none is processed
  abbrev pub AsksAndMeets : ℕ → BTreeSet ℕ → ParsedLine → Seen Site → Seen Site → Result (Unit {0}) FeedFault → Type 0
  AsksAndMeets number asks parsed old new result =
      (IsWritten (asked_lines parsed.part asks.keys) old.output new.output
      × MeetsInOrder number parsed.findings old.place new.place result)
      ⊎ (FeedIsCutShort (asked_lines parsed.part asks.keys) old.output new.output × (result ≡ Err WriteFault)
      × (new.place ≡ old.place))

  -- the line with this number is processed; nothing is done if memory is refused for the changes to ask for, or for the
  -- order of the findings
  abbrev pub TakesLine : ℕ → ParsedLine → Seen Site → Seen Site → Result (Unit {0}) FeedFault → Type 0
  TakesLine number parsed old new result =
      (((asks : BTreeSet ℕ) × AreAsked old.bases old.place.state parsed asks × AsksAndMeets number asks parsed old new result)
      ⊎ ((result ≡ Err NoMemory) × (new.place ≡ old.place) × (new.output ≡ old.output)))
      × (new.bases ≡ old.bases)

-- ---- a feed of a site

module _ {Feed Site : Type 0} (shown : Feed → Seen Site)
    (replies : Site → Deed → Result Timestamp IntakeFault → Site → Type 0)
    (answers : Site → Result SiteRound IntakeFault → Site → Type 0) where
  abbrev pub FeedRests : Feed → Result (Unit {0}) FeedFault → Feed → Type 0
  FeedRests old result new = LearnsNews answers (shown old) (shown new) result

  abbrev pub FeedTakes : Feed → ℕ → ParsedLine → Result (Unit {0}) FeedFault → Feed → Type 0
  FeedTakes old number parsed result new = TakesLine replies number parsed (shown old) (shown new) result

  -- the lines of the source are fed to the site, one after the other
  abbrev pub FeedsSite : Input → Choice → Option (List ℕ) → ℕ → Feed → Option (List ℕ) → ℕ → Feed
      → Result (Unit {0}) FeedFault → Type 0
  FeedsSite input choice left unread old left' unread' new result =
      Feeds FeedRests FeedTakes input choice gerrit_line_limit 18446744073709551615 left unread old left' unread' new result
