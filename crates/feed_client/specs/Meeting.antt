-- How a feed processes the findings of a line: in order, it offers the bodies of each finding to the site, and reports
-- losses.
use Rattle.std.specs.Prelude.{◌≡◌, ◌⊎◌, ℕ, List, ◌++◌, Option, Result, Ok, Err, codes, decimal}
use Rattle.event_feed.specs.Ends.{End, FeedIsCutShort, IsWritten}
use Rattle.event_feed.specs.Texts.{fault_line}
use Rattle.event_feed.specs.declared.fault.FeedFault.{FeedFault}
use Rattle.event_feed.specs.declared.fault.FeedFault.TheVariants.{Dropped, ReadFault, WriteFault, NoMemory, NoSite, Ended}
use Rattle.event_feed.specs.declared.fault.FeedFault.TheVariants.{Incomplete, NoEnd, NoKey, NotAllowed, NotProved}
use Rattle.event_filter.specs.Bringing.{IsBrought}
use Rattle.event_filter.specs.Newest.{IsOpenTo}
use Rattle.gerrit_events.specs.declared.fault.EventFault.{EventFault}
use Rattle.gerrit_events.specs.declared.fault.EventFault.TheVariants.{BadEvent}
use Rattle.gerrit_events.specs.declared.fault.EventKey.TheVariants.{Status}
use Rattle.gerrit_events.specs.declared.finding.Finding.{Finding}
use Rattle.gerrit_events.specs.declared.finding.Finding.TheVariants.{Brings, Shows, Lists, Refuses}
use Rattle.refusal_line.specs.Line.{line_of}
use Rattle.refusal_line.specs.declared.part.Part.TheVariants.{Events}
use Rattle.review_ops.specs.Deed.{Deed}
use Rattle.review_ops.specs.Operation.{Operation}
use Rattle.review_ops.specs.Timestamp.{Timestamp}
use Rattle.state_core.specs.State.{State, with_effect}
use Rattle.feed_client.specs.InTurn.{InTurn}
use Rattle.feed_client.specs.Refusals.{text_of}
use Rattle.feed_client.specs.declared.intake.IntakeFault.{IntakeFault}
use Rattle.feed_client.specs.declared.intake.IntakeFault.TheVariants.{Refused}
use Rattle.feed_client.specs.declared.intake.IntakeFault.TheVariants as intake
use Rattle.feed_client.specs.declared.intake.Refusal.{Refusal}

-- a site, the state that a feed keeps of its record, and what it reports to
pub record FeedPlace (Site : Type 0) : Type 0 where
  pub site : Site
  pub state : State
  pub errors : End

abbrev pub place_at : {Site : Type 0} → Site → State → Option (List ℕ) → ℕ → FeedPlace Site
place_at site state taken failed =
    record { site = site; state = state; errors = record { taken = taken; failed = failed } }

-- ---- reports

-- a text is written, unless that fails or memory is refused for it
abbrev pub ReportsLoss : List ℕ → End → End → Result (Unit {0}) FeedFault → Type 0
ReportsLoss text old new (Ok done) = IsWritten text old new
ReportsLoss text old new (Err Dropped) = ⊥
ReportsLoss text old new (Err ReadFault) = ⊥
ReportsLoss text old new (Err WriteFault) = FeedIsCutShort text old new
ReportsLoss text old new (Err NoMemory) = new ≡ old
ReportsLoss text old new (Err NoSite) = ⊥
ReportsLoss text old new (Err Ended) = ⊥
ReportsLoss text old new (Err Incomplete) = ⊥
ReportsLoss text old new (Err NoKey) = ⊥
ReportsLoss text old new (Err NotProved) = ⊥
ReportsLoss text old new (Err NotAllowed) = ⊥
ReportsLoss text old new (Err NoEnd) = ⊥

abbrev pub refused_words : ℕ → List ℕ → List ℕ
refused_words number text = (codes "Refused " ++ decimal number ++ codes " ") ++ text

-- the site refused a body of the line of this number
abbrev pub refused_line : ℕ → Refusal → List ℕ
refused_line number refusal = line_of Events 6 (refused_words number (text_of refusal))

-- ---- a body that is offered

-- what was taken in is taken into the state, unless memory is refused
abbrev pub KeepsTaken : Operation → State → State → Result (Unit {0}) FeedFault → Type 0
KeepsTaken op old new (Ok done) = new ≡ with_effect old op
KeepsTaken op old new (Err fault) = (fault ≡ NoMemory) × (new ≡ old)

-- how a feed goes on from a reply: what was taken in is taken into the state, a refusal is reported, and without an
-- answer the feed ends, as it does where the key may only read
abbrev pub TakesUp : ℕ → Deed → Result Timestamp IntakeFault → State → State → End → End → Result (Unit {0}) FeedFault
    → Type 0
TakesUp number deed (Ok stamp) old new errors after result =
    KeepsTaken (record { stamp = stamp; deed = deed }) old new result × (after ≡ errors)
TakesUp number deed (Err (Refused refusal)) old new errors after result =
    (new ≡ old) × ReportsLoss (refused_line number refusal) errors after result
TakesUp number deed (Err intake.NotAllowed) old new errors after result =
    (result ≡ Err NotAllowed) × (new ≡ old) × (after ≡ errors)
TakesUp number deed (Err intake.NoEnd) old new errors after result =
    (result ≡ Err NoEnd) × (new ≡ old) × (after ≡ errors)
TakesUp number deed (Err intake.Ended) old new errors after result =
    (result ≡ Err Ended) × (new ≡ old) × (after ≡ errors)
TakesUp number deed (Err intake.NoMemory) old new errors after result =
    (result ≡ Err NoMemory) × (new ≡ old) × (after ≡ errors)

-- what is lost of a finding: what the line itself loses, and an abandon or a restore of a change that is merged
abbrev pub IsLostFinding : State → Finding → EventFault → Type 0
IsLostFinding state (Brings body) fault = (¬ IsOpenTo state body) × (fault ≡ BadEvent Status)
IsLostFinding state (Shows body) fault = ⊥
IsLostFinding state (Lists listing) fault = ⊥
IsLostFinding state (Refuses lost) fault = fault ≡ lost

module _ {Site : Type 0} (replies : Site → Deed → Result Timestamp IntakeFault → Site → Type 0) where
  -- a body is offered to the site, once
  abbrev pub Offers : ℕ → Deed → FeedPlace Site → FeedPlace Site → Result (Unit {0}) FeedFault → Type 0
  Offers number deed old new result =
      (reply : Result Timestamp IntakeFault) × replies old.site deed reply new.site
      × TakesUp number deed reply old.state new.state old.errors new.errors result

  -- a loss is reported
  pub record IsReported (number : ℕ) (finding : Finding) (old new : FeedPlace Site) (result : Result (Unit {0}) FeedFault)
      : Type 0 where
    pub fault : EventFault
    pub lost : IsLostFinding old.state finding fault
    pub reported : ReportsLoss (fault_line number fault) old.errors new.errors result
    pub same : (new.site ≡ old.site) × (new.state ≡ old.state)

  -- what a finding brings to the record is offered, one body after the other
  pub record IsOffered (number : ℕ) (finding : Finding) (old new : FeedPlace Site) (result : Result (Unit {0}) FeedFault)
      : Type 0 where
    pub kept : (fault : EventFault) → ¬ IsLostFinding old.state finding fault
    pub bodies : List Deed
    pub brought : IsBrought old.state finding bodies
    pub offered : InTurn (Offers number) bodies old new result

  -- a finding is met; where memory is refused for asking what it brings nothing is done
  abbrev pub Meets : ℕ → Finding → FeedPlace Site → FeedPlace Site → Result (Unit {0}) FeedFault → Type 0
  Meets number finding old new result =
      IsReported number finding old new result ⊎ IsOffered number finding old new result
      ⊎ ((result ≡ Err NoMemory) × (new ≡ old))
