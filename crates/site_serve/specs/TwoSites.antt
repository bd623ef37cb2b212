-- Two running sites that pulled from each other: where each had a whole answer of the other, after which nothing was
-- left, and nothing else came to either, both hold the union, and print the same.
use Rattle.std.specs.Prelude.{◌≡◌, false, List, ◌++◌, ℕ}
use Rattle.gate_rules.specs.Rules.{GateRules}
use Rattle.gossip_line.specs.PassingOn.{AreNumbered, IsLastOf, ShareNoTwins}
use Rattle.gossip_line.specs.Pull.{PullsWell, Round, ops_in}
use Rattle.gossip_line.specs.Session.{Moment}
use Rattle.gossip_line.specs.declared.pull.Pulled.{Pulled}
use Rattle.pull_guard.specs.declared.guard.Guard.{Guard}
use Rattle.replica_core.specs.JournalLaws.{IsPartOf}
use Rattle.replica_core.specs.Sets.{IsSameSet}
use Rattle.report_text.specs.Agreement.{PrintTheSame}
use Rattle.review_ops.specs.Operation.{Operation}
use Rattle.site_port.specs.Guarding.{GuardedSinks}
use Rattle.site_port.specs.Ports.{lacked, lacks}
use Rattle.site_serve.specs.SitePorts.{SaysAtMoment, SiteSinks}
use Rattle.site_shared.specs.Accounts.{GoesOn, Outlook}
use Rattle.site_shared.specs.Publishes.{arrive}
use Rattle.state_core.specs.State.{state_of}

-- the record that a window sees
abbrev pub record_seen : Outlook → List Operation
record_seen window = arrive window.seen

-- a site pulled through its guard, and the pull ended well; its last answer reported that nothing is left, and was that
-- of a site which showed these publishes
pub record PullsAllOf (shown : List (List Operation)) (guard : Guard) (before after : Moment Outlook) : Type 0 where
  pub limit : ℕ
  pub most : ℕ
  pub pulled : Pulled
  pub pull : PullsWell (GuardedSinks SiteSinks guard) limit most before after pulled
  pub done : pulled.more ≡ false
  pub last : Round
  pub is_last : IsLastOf last pull.rounds
  pub gate : GateRules
  pub answered : SaysAtMoment gate shown (lacks last.front) (lacked (ops_in last.lines) last.more)

-- one of the two sites: its record before the pull, the publishes that the other one showed, and what it sees in the
-- end
pub record Side : Type 0 where
  pub had : List Operation
  pub shown : List (List Operation)
  pub guard : Guard
  pub before : Moment Outlook
  pub after : Moment Outlook
  pub pull : PullsAllOf shown guard before after
  pub end : Outlook
  pub goes_on : GoesOn after.port end
  pub kept : IsPartOf had (record_seen end)

-- the operations that either had
abbrev pub union : Side → Side → List Operation
union one other = one.had ++ other.had

-- what the one was shown was the record of the other: it had all that the other had at first, and the other has it
-- still
pub record IsShownBy (one other : Side) : Type 0 where
  pub had : IsPartOf other.had (arrive one.shown)
  pub has : IsPartOf (arrive one.shown) (record_seen other.end)

-- nothing else came to either
pub record GotNoMore (one other : Side) : Type 0 where
  pub first : IsPartOf (record_seen one.end) (union one other)
  pub second : IsPartOf (record_seen other.end) (union one other)

-- the operations are numbered from 1, and no two of them share site, start and sequence number
pub record AreApartAndNumbered (ops : List Operation) : Type 0 where
  pub numbered : AreNumbered ops
  pub apart : ShareNoTwins ops ops

-- both hold the union, and print the same
pub record HoldTheSame (one other : Side) : Type 0 where
  pub first : IsSameSet (record_seen one.end) (union one other)
  pub second : IsSameSet (record_seen other.end) (union one other)
  pub prints : PrintTheSame (state_of (record_seen one.end)) (state_of (record_seen other.end))
