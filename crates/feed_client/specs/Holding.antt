-- How an answer to a query is fed: of each row what lowers an item is processed as it comes, and the rest once the answer
-- is whole.
use Rattle.std.specs.Prelude.{◌≡◌, ◌⊎◌, ℕ, List, [], ◌∷◌, ◌++◌, Option, Result, Ok, Err}
use Rattle.event_feed.specs.Feed.{Feeds, gerrit_line_limit}
use Rattle.event_feed.specs.declared.fault.FeedFault.{FeedFault}
use Rattle.event_feed.specs.declared.fault.FeedFault.TheVariants.{NoMemory}
use Rattle.event_feed.specs.declared.progress.Input.TheVariants.{Answer}
use Rattle.event_filter.specs.Lowering.{AreParted}
use Rattle.gerrit_events.specs.Projects.{Choice}
use Rattle.gerrit_events.specs.Reading.{ParsedLine}
use Rattle.review_ops.specs.Deed.{Deed}
use Rattle.review_ops.specs.Timestamp.{Timestamp}
use Rattle.state_core.specs.State.{State}
use Rattle.feed_client.specs.InTurn.{InTurn}
use Rattle.feed_client.specs.Rounds.{SiteRound}
use Rattle.feed_client.specs.Taking.{LearnsNews, Seen, TakesLine}
use Rattle.feed_client.specs.declared.holding.HeldLine.{HeldLine}
use Rattle.feed_client.specs.declared.intake.IntakeFault.{IntakeFault}

-- a line in two parts: what is processed at once, and what waits
pub record IsParted (state : State) (parsed first later : ParsedLine) : Type 0 where
  pub findings : AreParted state parsed.findings first.findings later.findings
  pub kind : (first.part ≡ parsed.part) × (later.part ≡ parsed.part)

module _ {Feed Site : Type 0} (shown : Feed → Seen Site)
    (replies : Site → Deed → Result Timestamp IntakeFault → Site → Type 0) where
  -- a line that has waited is taken
  abbrev pub TakesHeldLine : HeldLine → Feed → Feed → Result (Unit {0}) FeedFault → Type 0
  TakesHeldLine line old new result = TakesLine replies line.number line.parsed (shown old) (shown new) result

  -- the lines that have waited are taken, one after the other
  abbrev pub TakesHeld : List HeldLine → Feed → Feed → Result (Unit {0}) FeedFault → Type 0
  TakesHeld = InTurn TakesHeldLine

  -- one part of a line is taken, and the other one waits; nothing is done if memory is refused for parting it
  abbrev pub HoldsLine : ℕ → ParsedLine → List HeldLine → Feed → List HeldLine → Feed → Result (Unit {0}) FeedFault
      → Type 0
  HoldsLine number parsed held old held' new result =
      ((first later : ParsedLine) × IsParted (shown old).place.state parsed first later
      × TakesLine replies number first (shown old) (shown new) result
      × (held' ≡ held ++ record { number = number; parsed = later } ∷ []))
      ⊎ ((result ≡ Err NoMemory) × (new ≡ old))

module _ {Whole Feed Site : Type 0} (feed : Whole → Feed) (held : Whole → List HeldLine) (shown : Feed → Seen Site)
    (replies : Site → Deed → Result Timestamp IntakeFault → Site → Type 0)
    (answers : Site → Result SiteRound IntakeFault → Site → Type 0) where
  abbrev pub AnswerRests : Whole → Result (Unit {0}) FeedFault → Whole → Type 0
  AnswerRests old result new =
      LearnsNews answers (shown (feed old)) (shown (feed new)) result × (held new ≡ held old)

  abbrev pub AnswerTakes : Whole → ℕ → ParsedLine → Result (Unit {0}) FeedFault → Whole → Type 0
  AnswerTakes old number parsed result new =
      HoldsLine shown replies number parsed (held old) (feed old) (held new) (feed new) result

  -- how it ends, once its lines came so: what waits is taken if the answer is whole, and else none of it
  abbrev pub EndsAnswer : Result (Unit {0}) FeedFault → Whole → Whole → Result (Unit {0}) FeedFault → Type 0
  EndsAnswer (Ok done) old new result = TakesHeld shown replies (held old) (feed old) (feed new) result
  EndsAnswer (Err fault) old new result = (result ≡ Err fault) × (new ≡ old)

  -- the answer is fed to the site
  pub record AnswersSite (choice : Choice) (left : Option (List ℕ)) (unread : ℕ) (old : Whole)
      (left' : Option (List ℕ)) (unread' : ℕ)
      (new : Whole) (result : Result (Unit {0}) FeedFault) : Type 0 where
    pub between : Whole
    pub answered : Result (Unit {0}) FeedFault
    pub fed : Feeds AnswerRests AnswerTakes Answer choice gerrit_line_limit 18446744073709551615 left unread old left' unread' between answered
    pub ended : EndsAnswer answered between new result
