-- A site's record is pulled in rounds into the state that a feed keeps of it. The front says how far it is pulled; it
-- is raised from one sequence number of a row to the next, and so over no gap.
use Rattle.std.specs.Prelude.{◌≡◌, ◌⊎◌, ◌≤◌, ◌<◌, ◌+◌, ◌-◌, ◌==◌, ◌^◌, ℕ, Bool, true, false, List, [], ◌∷◌, Result, Ok, Err}
use Rattle.std.specs.Prelude.{Contains, flat_map, fold, length, take, if◌then◌else◌}
use Rattle.event_feed.specs.declared.fault.FeedFault.{FeedFault}
use Rattle.event_feed.specs.declared.fault.FeedFault.TheVariants.{NoEnd, NoMemory, NotAllowed, Ended}
use Rattle.replica_core.specs.Front.{Reaches, raised, reach_of}
use Rattle.review_ops.specs.Operation.{Operation}
use Rattle.review_ops.specs.Timestamp.{Timestamp}
use Rattle.state_core.specs.State.{State, with_effect}
use Rattle.feed_client.specs.Rounds.{SiteRound}
use Rattle.feed_client.specs.declared.intake.IntakeFault.{IntakeFault}
use Rattle.feed_client.specs.declared.intake.IntakeFault.TheVariants.{Refused}
use Rattle.feed_client.specs.declared.intake.IntakeFault.TheVariants as intake

-- ---- the front

-- a front goes on to a stamp that is the next of its row
abbrev pub gone_on : Reaches → Timestamp → Reaches
gone_on front stamp =
    if stamp.seq == reach_of front stamp.site stamp.start + 1
    then raised front stamp.site stamp.start stamp.seq else front

-- one of the stamps is that of this sequence number in the row
pub record HasRowStamp (stamps : List Timestamp) (site start seq : ℕ) : Type 0 where
  pub stamp : Timestamp
  pub listed : Contains stamps stamp
  pub row : (stamp.site ≡ site) × (stamp.start ≡ start)
  pub number : stamp.seq ≡ seq

-- the front reaches over stamps of these alone
abbrev pub AreReachedBy : List Timestamp → Reaches → Type 0
AreReachedBy stamps front =
    (site start seq : ℕ) → 1 ≤ seq → seq ≤ reach_of front site start → HasRowStamp stamps site start seq

-- ---- the rounds

-- the operations of all rounds
abbrev pub all_ops : List (List Operation) → List Operation
all_ops rounds = flat_map (λ ops. ops) rounds

-- how a feed ends where a site answers no round
abbrev pub ending_of : IntakeFault → FeedFault
ending_of (Refused refusal) = Ended
ending_of intake.NotAllowed = NotAllowed
ending_of intake.NoEnd = NoEnd
ending_of intake.Ended = Ended
ending_of intake.NoMemory = NoMemory

module _ {Site : Type 0} (answers : Site → Result SiteRound IntakeFault → Site → Type 0) where
  -- rounds of these operations, one after the other, after each of which there is more
  abbrev pub Comes : Site → List (List Operation) → Site → Type 0
  Comes old [] new = new ≡ old
  Comes old (ops ∷ rounds) new =
      (mid : Site) × answers old (Ok (record { ops = ops; more = true })) mid × Comes mid rounds new

  -- a round of so many operations came, and they were taken into the state
  pub record IsRound (count : ℕ) (more : Bool) (old : Site) (state : State) (new : Site) (after : State) : Type 0 where
    pub ops : List Operation
    pub came : answers old (Ok (record { ops = ops; more = more })) new
    pub learned : after ≡ fold with_effect state ops
    pub counted : count ≡ length ops

  -- the site answered no round
  pub record IsUnanswered (old : Site) (state : State) (new : Site) (after : State) (fault : FeedFault) : Type 0 where
    pub cause : IntakeFault
    pub came : answers old (Err cause) new
    pub is : fault ≡ ending_of cause
    pub same : after ≡ state

  -- memory was refused for an operation of a round; those before it were taken into the state
  pub record IsUnlearned (old : Site) (state : State) (new : Site) (after : State) (fault : FeedFault) : Type 0 where
    pub ops : List Operation
    pub more : Bool
    pub came : answers old (Ok (record { ops = ops; more = more })) new
    pub is : fault ≡ NoMemory
    pub count : ℕ
    pub some : count < length ops
    pub learned : after ≡ fold with_effect state (take count ops)

  abbrev pub FailsRound : Site → State → Site → State → FeedFault → Type 0
  FailsRound old state new after fault =
      IsUnanswered old state new after fault ⊎ IsUnlearned old state new after fault

  -- so many rounds came, after each of which there is more, and their operations were taken into the state
  pub record AreTaken (rounds : List (List Operation)) (old : Site) (state : State) (new : Site) (after : State)
      : Type 0 where
    pub comes : Comes old rounds new
    pub learned : after ≡ fold with_effect state (all_ops rounds)

  -- all rounds came, up to one after which there is no more; they had so many operations, unless these can't be counted
  pub record IsPulled (old : Site) (state : State) (new : Site) (after : State) (count : ℕ) : Type 0 where
    pub rounds : List (List Operation)
    pub mid : Site
    pub between : State
    pub taken : AreTaken rounds old state mid between
    pub last : ℕ
    pub ended : IsRound last false mid between new after
    pub counted : length (all_ops rounds) + last < 2 ^ 64 → count ≡ length (all_ops rounds) + last

  -- a round failed after others, or there are too many of them
  pub record IsCutOff (old : Site) (state : State) (new : Site) (after : State) (fault : FeedFault) : Type 0 where
    pub rounds : List (List Operation)
    pub mid : Site
    pub between : State
    pub taken : AreTaken rounds old state mid between
    pub failed : FailsRound mid between new after fault
        ⊎ ((fault ≡ Ended) × (length rounds ≡ 2 ^ 64 - 1) × (new ≡ mid) × (after ≡ between))

  -- what came to the site is taken into the state, or that breaks off
  abbrev pub Pulls : Site → State → Site → State → Result ℕ FeedFault → Type 0
  Pulls old state new after (Ok count) = IsPulled old state new after count
  Pulls old state new after (Err fault) = IsCutOff old state new after fault
