-- The headline: whatever happens in a world, each site's journal is just what came to it, its state is the state of
-- that, and sites to which the same operations came have equal states: the strong convergence of Shapiro, Preguiça,
-- Baquero and Zawirski (2011).
use Rattle.std.specs.Prelude.{◌≡◌, ◌==◌, ℕ, true, List, [], ◌∷◌, ◌++◌, IfSome, Ok, Err, take, unwrap_or, if◌then◌else◌}
use Rattle.std.specs.List.{AllByRecursion}
use Rattle.review_ops.specs.Draft.{deed_of}
use Rattle.review_ops.specs.Operation.{Operation}
use Rattle.review_ops.specs.Timestamp.{Timestamp}
use Rattle.replica_core.specs.Journal.{has}
use Rattle.replica_core.specs.Passing.{AreTwins}
use Rattle.state_core.specs.State.{IsJournalState, state_of}
use Rattle.world_core.specs.declared.event.Event.{Event}
use Rattle.world_core.specs.declared.event.Event.TheVariants.{Intake, Send, Deliver, Save, Restart}
use Rattle.world_core.specs.declared.event.Reply.TheVariants.{Took, Delivered, Saved, Restarted}
use Rattle.world_core.specs.declared.event.WorldFault.TheVariants.{NoMemory}
use Rattle.replica_core.specs.Sets.{IsSameSet}
use Rattle.world_core.specs.Numbered.{numbered}
use Rattle.world_core.specs.Step.{Answer, taken_in, Run}
use Rattle.world_core.specs.World.{SiteState, WorldState, new_world}

-- the site of an event
abbrev pub site_in : {A : Type 0} → Event A → ℕ
site_in (Intake site draft) = site
site_in (Send site front) = site
site_in (Deliver packet site) = site
site_in (Save site) = site
site_in (Restart site start) = site

-- the operations of a packet
abbrev pub packed : List (List Operation) → ℕ → List Operation
packed packets number = unwrap_or (numbered packets number) []

-- ---- what came to a site

-- what came since the last restart, after what the site went back to there, and what was saved of it
pub record Came : Type 0 where
  pub here : List Operation
  pub saved : List Operation

abbrev pub nothing : Came
nothing = record { here = []; saved = [] }

-- an event at the site: an intake brings its operation, a delivery the operations of its packet, or the first of them
-- where memory was refused
abbrev pub came_with : {A : Type 0} → List (List Operation) → Came → Event A → Answer → Came
came_with packets came (Intake site draft) (Ok (Took stamp)) =
    record came { here = came.here ++ taken_in stamp (deed_of draft) ∷ [] }
came_with packets came (Deliver packet site) (Ok (Delivered count)) =
    record came { here = came.here ++ packed packets packet }
came_with packets came (Deliver packet site) (Err (NoMemory taken)) =
    record came { here = came.here ++ take taken (packed packets packet) }
came_with packets came (Save site) (Ok Saved) = record came { saved = came.here }
came_with packets came (Restart site start) (Ok Restarted) = record came { here = came.saved }
came_with packets came event answer = came

-- a run, of which the site sees its own events alone
abbrev pub came_on : {A : Type 0} → List (List Operation) → ℕ → Came → List (Event A) → List Answer → Came
came_on packets site came (event ∷ events) (answer ∷ answers) =
    came_on packets site (if site == site_in event then came_with packets came event answer else came) events answers
came_on packets site came events answers = came

-- what came to a site in a run from the start
abbrev pub came_to : {A : Type 0} → List (List Operation) → ℕ → List (Event A) → List Answer → List Operation
came_to packets site events answers = (came_on packets site nothing events answers).here

-- ---- what intakes made

-- the stamps that a run's intakes answer
abbrev pub stamps_answered : List Answer → List Timestamp
stamps_answered [] = []
stamps_answered (Ok (Took stamp) ∷ answers) = stamp ∷ stamps_answered answers
stamps_answered (answer ∷ answers) = stamps_answered answers

-- the operations that they make
abbrev pub made : {A : Type 0} → List (Event A) → List Answer → List Operation
made (Intake site draft ∷ events) (Ok (Took stamp) ∷ answers) = taken_in stamp (deed_of draft) ∷ made events answers
made (event ∷ events) (answer ∷ answers) = made events answers
made events answers = []

-- no two are twins
abbrev pub NoTwins : List Timestamp → Type 0
NoTwins [] = Unit {0}
NoTwins (stamp ∷ stamps) = AllByRecursion (λ other. ¬ AreTwins stamp other) stamps × NoTwins stamps

-- each operation of the site has the property
pub record SiteHolds (P : Operation → Type 0) (at : SiteState) : Type 0 where
  pub journal : (op : Operation) → has at.journal op ≡ true → P op
  pub saved : (op : Operation) → has at.saved op ≡ true → P op

-- each operation of each site and packet has it
pub record WorldHolds (P : Operation → Type 0) (world : WorldState) : Type 0 where
  pub sites : (site : ℕ) → IfSome (numbered world.sites site) (SiteHolds P)
  pub packets : (packet : ℕ)
      → IfSome (numbered world.packets packet) (λ ops. (op : Operation) → has ops op ≡ true → P op)

-- ---- the headline

-- of a site that is there: its journal is the set of what came, and its state that of what came
pub record IsWhatCame (came : List Operation) (at : SiteState) : Type 0 where
  pub journal : IsSameSet at.journal came
  pub state : IsJournalState came (state_of at.journal)

-- sites with the same operations have equal states
abbrev pub Agree : SiteState → SiteState → Type 0
Agree at other = IsSameSet at.journal other.journal × (state_of at.journal ≡ state_of other.journal)

-- what holds of each world, once these events were answered so since the start
pub record Converges {A : Type 0} (events : List (Event A)) (answers : List Answer) (world : WorldState) : Type 0 where
  pub came : (site : ℕ) → IfSome (numbered world.sites site) (IsWhatCame (came_to world.packets site events answers))
  pub agree : (site other : ℕ)
      → IsSameSet (came_to world.packets site events answers) (came_to world.packets other events answers)
      → IfSome (numbered world.sites site) (λ at. IfSome (numbered world.sites other) (Agree at))
  pub stamps : NoTwins (stamps_answered answers)
  pub made : WorldHolds (λ op. has (made events answers) op ≡ true) world

-- a run from empty sites that led to the world
pub record History (A : Type 0) (world : WorldState) : Type 0 where
  pub sites : ℕ
  pub events : List (Event A)
  pub answers : List Answer
  pub run : Run (new_world sites) events answers world

-- the world came about by events alone
abbrev pub CameAbout : (A : Type 0) → WorldState → Type 0
CameAbout A world = ∥ History A world ∥₁

-- and it converges on what happened
abbrev pub HasConverged : (A : Type 0) → WorldState → Type 0
HasConverged A world = ∥ ((history : History A world) × Converges history.events history.answers world) ∥₁

-- the same of events that go on where others left the world
abbrev pub ConvergesOn : {A : Type 0} → WorldState → List (Event A) → List Answer → WorldState → Type 0
ConvergesOn {A} old events answers new = (sites : ℕ) (earlier : List (Event A)) (before : List Answer)
    → Run (new_world sites) earlier before old → Converges (earlier ++ events) (before ++ answers) new

-- ---- passing on

-- something may happen that leads from one world to the other
abbrev pub MayBecome : (A : Type 0) → WorldState → WorldState → Type 0
MayBecome A old new = (events : List (Event A)) × (answers : List Answer) × Run old events answers new
