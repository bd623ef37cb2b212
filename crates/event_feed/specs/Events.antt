-- What is written of a feed that has no site.
use Rattle.std.specs.Prelude.{◌≡◌, ◌⊎◌, ℕ, List, Option, Result, Ok, Err, codes}
use Rattle.gerrit_events.specs.Projects.{Choice}
use Rattle.gerrit_events.specs.Reading.{ParsedLine}
use Rattle.gerrit_events.specs.declared.finding.Finding.{Finding}
use Rattle.event_feed.specs.Ends.{End, FeedIsCutShort, IsWritten}
use Rattle.event_feed.specs.Feed.{Feeds, gerrit_line_limit}
use Rattle.event_feed.specs.Texts.{refusal_lines, take_lines}
use Rattle.event_feed.specs.declared.fault.FeedFault.{FeedFault}
use Rattle.event_feed.specs.declared.fault.FeedFault.TheVariants.{Dropped, ReadFault, WriteFault, NoMemory, NoSite}
use Rattle.event_feed.specs.declared.fault.FeedFault.TheVariants.{Ended}
use Rattle.event_feed.specs.declared.fault.FeedFault.TheVariants.{Incomplete, NoEnd, NoKey, NotAllowed, NotProved}
use Rattle.event_feed.specs.declared.progress.Input.{Input}

pub record Outputs : Type 0 where
  pub output : End
  pub errors : End

-- all was written
pub record AreWritten (number : ℕ) (findings : List Finding) (old new : Outputs) : Type 0 where
  pub brought : IsWritten (take_lines findings) old.output new.output
  pub refused : IsWritten (refusal_lines number findings) old.errors new.errors

-- one of the two texts was cut short
abbrev pub AreCutShort : ℕ → List Finding → Outputs → Outputs → Type 0
AreCutShort number findings old new =
    (FeedIsCutShort (take_lines findings) old.output new.output × (new.errors ≡ old.errors))
    ⊎ (IsWritten (take_lines findings) old.output new.output
    × FeedIsCutShort (refusal_lines number findings) old.errors new.errors)

-- what was found in the line of this number is written
abbrev pub IsLineWritten : ℕ → List Finding → Outputs → Outputs → Result (Unit {0}) FeedFault → Type 0
IsLineWritten number findings old new (Ok done) = AreWritten number findings old new
IsLineWritten number findings old new (Err Dropped) = ⊥
IsLineWritten number findings old new (Err ReadFault) = ⊥
IsLineWritten number findings old new (Err WriteFault) = AreCutShort number findings old new
IsLineWritten number findings old new (Err NoMemory) = (new.output ≡ old.output) × (new.errors ≡ old.errors)
IsLineWritten number findings old new (Err NoSite) = ⊥
IsLineWritten number findings old new (Err Ended) = ⊥
IsLineWritten number findings old new (Err Incomplete) = ⊥
IsLineWritten number findings old new (Err NoKey) = ⊥
IsLineWritten number findings old new (Err NotProved) = ⊥
IsLineWritten number findings old new (Err NotAllowed) = ⊥
IsLineWritten number findings old new (Err NoEnd) = ⊥

abbrev pub hello_event : List ℕ
hello_event = codes "hello 2\n"

module _ {Writer : Type 0} (shown : Writer → Outputs) where
  abbrev pub WritesNothing : Writer → Result (Unit {0}) FeedFault → Writer → Type 0
  WritesNothing old result new = (result ≡ Ok tt) × (new ≡ old)

  abbrev pub WritesLine : Writer → ℕ → ParsedLine → Result (Unit {0}) FeedFault → Writer → Type 0
  WritesLine old number parsed result new = IsLineWritten number parsed.findings (shown old) (shown new) result

  -- the greeting was cut short, and nothing was read
  pub record IsUngreeted (left : Option (List ℕ)) (unread : ℕ) (old : Writer) (left' : Option (List ℕ)) (unread' : ℕ)
      (new : Writer) (result : Result (Unit {0}) FeedFault) : Type 0 where
    pub fault : result ≡ Err WriteFault
    pub cut : FeedIsCutShort hello_event (shown old).output (shown new).output
    pub same : ((shown new).errors ≡ (shown old).errors) × (left' ≡ left) × (unread' ≡ unread)

  -- the greeting was written, and then what the lines bring
  pub record IsGreeted (input : Input) (choice : Choice) (left : Option (List ℕ)) (unread : ℕ) (old : Writer)
      (left' : Option (List ℕ))
      (unread' : ℕ) (new : Writer) (result : Result (Unit {0}) FeedFault) : Type 0 where
    pub greeted : Writer
    pub written : IsWritten hello_event (shown old).output (shown greeted).output
    pub same : (shown greeted).errors ≡ (shown old).errors
    pub fed : Feeds WritesNothing WritesLine input choice gerrit_line_limit 18446744073709551615 left unread greeted left' unread' new result

  abbrev pub RunsEvents : Input → Choice → Option (List ℕ) → ℕ → Writer → Option (List ℕ) → ℕ → Writer
      → Result (Unit {0}) FeedFault → Type 0
  RunsEvents input choice left unread old left' unread' new result =
      IsUngreeted left unread old left' unread' new result
      ⊎ IsGreeted input choice left unread old left' unread' new result
