-- The machine: what each event does, and how it is answered. A packet may be lost, as one that is never delivered, come
-- twice, or after a later one: Shapiro, Preguiça, Baquero and Zawirski (2011) call the operations' journals state-based
-- objects, whose updates reach the others at any time and in any order.
use Rattle.std.specs.Prelude.{◌≡◌, ◌≤◌, ◌<◌, ◌+◌, ℕ, List, [], ◌∷◌, ◌++◌, Option, MatchOption, Result, Ok, Err, length}
use Rattle.std.specs.Prelude.{take, nat_lt}
use Rattle.review_ops.specs.Deed.{Deed, kept_deed}
use Rattle.review_ops.specs.Draft.{deed_of}
use Rattle.review_ops.specs.Fault.{IsFirstBodyFault}
use Rattle.review_ops.specs.Good.{IsFaultless}
use Rattle.review_ops.specs.Operation.{Operation}
use Rattle.review_ops.specs.Timestamp.{Timestamp}
use Rattle.replica_core.specs.Clock.{next_of, IsSpent}
use Rattle.replica_core.specs.Front.{Reaches}
use Rattle.replica_core.specs.Journal.{arrived, all_arrived}
use Rattle.replica_core.specs.Missing.{IsMissing}
use Rattle.world_core.specs.declared.event.Event.{Event}
use Rattle.world_core.specs.declared.event.Event.TheVariants.{Intake, Send, Deliver, Save, Restart}
use Rattle.world_core.specs.declared.event.Reply.{Reply}
use Rattle.world_core.specs.declared.event.Reply.TheVariants.{Took, Packet, Delivered, Saved, Restarted}
use Rattle.world_core.specs.declared.event.WorldFault.{WorldFault}
use Rattle.world_core.specs.declared.event.WorldFault.TheVariants.{NoSite, NoPacket, StartUsed, ClockSpent, BadBody}
use Rattle.world_core.specs.declared.event.WorldFault.TheVariants.{NoMemory}
use Rattle.world_core.specs.Numbered.{numbered}
use Rattle.world_core.specs.World.{SiteState, WorldState, with_site}

-- how an event is answered
abbrev pub Answer : Type 0
Answer = Result Reply WorldFault

-- the operation that a site takes in: the deed as it is kept, under the stamp
abbrev pub taken_in : Timestamp → Deed → Operation
taken_in stamp deed = record { stamp = stamp; deed = kept_deed deed }

-- a site stamps a deed and takes it
abbrev pub IsIntake : ℕ → Deed → SiteState → Answer → SiteState → Type 0
IsIntake site deed old (Ok (Took stamp)) new = (¬ IsSpent old.journal site old.start) × IsFaultless deed
    × (stamp ≡ next_of old.journal site old.start)
    × (new ≡ record old { journal = arrived old.journal (taken_in stamp deed) })
IsIntake site deed old (Err ClockSpent) new = IsSpent old.journal site old.start × (new ≡ old)
IsIntake site deed old (Err (BadBody cause)) new =
    (¬ IsSpent old.journal site old.start) × IsFirstBodyFault cause deed × (new ≡ old)
IsIntake site deed old (Err (NoMemory taken)) new =
    (¬ IsSpent old.journal site old.start) × IsFaultless deed × (taken ≡ 0) × (new ≡ old)
IsIntake site deed old answer new = ⊥

-- the first operations that the front lacks go into a packet
abbrev pub IsSend : Reaches → List Operation → WorldState → Answer → WorldState → Type 0
IsSend front journal old (Ok (Packet number count more)) new =
    (lacked : List Operation) × IsMissing journal front lacked
    × (new ≡ record old { packets = old.packets ++ take 256 lacked ∷ [] }) × (number ≡ length new.packets)
    × (count ≡ length (take 256 lacked)) × (more ≡ nat_lt 256 (length lacked))
IsSend front journal old (Err (NoMemory taken)) new = (taken ≡ 0) × (new ≡ old)
IsSend front journal old answer new = ⊥

-- at the site that sends, if there is one
abbrev pub IsSendAt : ℕ → Reaches → WorldState → Answer → WorldState → Type 0
IsSendAt site front old answer new = MatchOption (numbered old.sites site) ((answer ≡ Err NoSite) × (new ≡ old))
    (λ at. IsSend front at.journal old answer new)

-- a site takes the operations of a packet, or the first of them where memory is refused
abbrev pub IsDelivery : List Operation → SiteState → Answer → SiteState → Type 0
IsDelivery ops old (Ok (Delivered count)) new =
    (new ≡ record old { journal = all_arrived old.journal ops }) × (length old.journal + count ≡ length new.journal)
IsDelivery ops old (Err (NoMemory taken)) new =
    (taken < length ops) × (new ≡ record old { journal = all_arrived old.journal (take taken ops) })
IsDelivery ops old answer new = ⊥

-- a site saves its journal, which is never refused
abbrev pub IsSave : SiteState → Answer → SiteState → Type 0
IsSave old (Ok Saved) new = new ≡ record old { saved = old.journal }
IsSave old answer new = ⊥

-- a site goes back to what it saved, under a start above all that it had
abbrev pub IsRestart : ℕ → SiteState → Answer → SiteState → Type 0
IsRestart start old (Ok Restarted) new =
    (old.start < start) × (new ≡ record { journal = old.saved; saved = old.saved; start = start })
IsRestart start old (Err StartUsed) new = (start ≤ old.start) × (new ≡ old)
IsRestart start old (Err (NoMemory taken)) new = (old.start < start) × (taken ≡ 0) × (new ≡ old)
IsRestart start old answer new = ⊥

-- an event at a site, which changes that site alone, or nothing where there is no such site
abbrev pub AtSite : (SiteState → Answer → SiteState → Type 0) → ℕ → WorldState → Answer → WorldState → Type 0
AtSite does site old answer new = MatchOption (numbered old.sites site) ((answer ≡ Err NoSite) × (new ≡ old))
    (λ at. (after : SiteState) × does at answer after × (new ≡ with_site old site after))

-- a delivery of a packet, if there is one of that number
abbrev pub IsDeliveryOf : Option (List Operation) → SiteState → Answer → SiteState → Type 0
IsDeliveryOf packet old answer new =
    MatchOption packet ((answer ≡ Err NoPacket) × (new ≡ old)) (λ ops. IsDelivery ops old answer new)

-- from the old world, the event may be answered so and leave the new world
abbrev pub Step : {A : Type 0} → WorldState → Event A → Answer → WorldState → Type 0
Step old (Intake site draft) answer new = AtSite (IsIntake site (deed_of draft)) site old answer new
Step old (Send site front) answer new = IsSendAt site front old answer new
Step old (Deliver packet site) answer new = AtSite (IsDeliveryOf (numbered old.packets packet)) site old answer new
Step old (Save site) answer new = AtSite IsSave site old answer new
Step old (Restart site start) answer new = AtSite (IsRestart start) site old answer new

-- one event after the other
abbrev pub Run : {A : Type 0} → WorldState → List (Event A) → List Answer → WorldState → Type 0
Run old [] [] new = new ≡ old
Run old (event ∷ events) (answer ∷ answers) new =
    (mid : WorldState) × Step old event answer mid × Run mid events answers new
Run old [] (answer ∷ answers) new = ⊥
Run old (event ∷ events) [] new = ⊥
