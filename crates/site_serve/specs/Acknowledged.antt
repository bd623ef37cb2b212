-- What a running site acknowledges: an answer comes with the receipt of a publish, and what was stamped is among what
-- the publishes brought.
use Rattle.std.specs.Prelude.{◌≡◌, ◌++◌, ◌∷◌, [], All, ℕ, Bool, true, IfOk, List, Option, None, Some, Result, Ok, Err}
use Rattle.replica_core.specs.Journal.{has_stamp}
use Rattle.replica_core.specs.JournalLaws.{IsPartOf}
use Rattle.review_ops.specs.Deed.{Deed}
use Rattle.review_ops.specs.Draft.{deed_of}
use Rattle.review_ops.specs.Operation.{Operation}
use Rattle.review_ops.specs.Timestamp.{Timestamp}
use Rattle.site_ledger.specs.Keeping.{Entries}
use Rattle.site_serve.specs.declared.ask.Ask.{Ask}
use Rattle.site_serve.specs.declared.ask.Ask.TheVariants as ask
use Rattle.site_serve.specs.declared.ask.Asker.{Asker}
use Rattle.site_serve.specs.declared.ask.Asker.TheVariants as asker
use Rattle.site_serve.specs.declared.requests.Waiter.{Waiter}
use Rattle.site_shared.specs.Accounts.{Account, RefusesIntake, holding, next_operation, record_of}
use Rattle.site_shared.specs.declared.fault.DeskFault.{DeskFault}

-- whether the journal has an operation of the stamp; where nothing was stamped nothing is asked
abbrev pub has_stamped : List Operation → Option Timestamp → Bool
has_stamped journal None = true
has_stamped journal (Some stamp) = has_stamp journal stamp

-- what was stamped is in the journal, unless it was refused
abbrev pub IsTakenInto : List Operation → Result (Option Timestamp) DeskFault → Type 0
IsTakenInto journal held = IfOk held (λ stamp. has_stamped journal stamp ≡ true)

-- whatever a crash leaves has an operation with the stamp
abbrev pub IsSaidBy : (List Operation → Type 0) → Option Timestamp → Type 0
IsSaidBy survives stamp = (ops : List Operation) × survives ops × (has_stamped ops stamp ≡ true)

-- what was stamped is among all that was published or is held
abbrev pub IsHeldBy : Account → Result (Option Timestamp) DeskFault → Type 0
IsHeldBy account = IsTakenInto (record_of account)

-- a ledger, and those who wait for what it holds
pub record Group (K : Type 0) : Type 0 where
  pub entries : Entries K
  pub waiters : List Waiter

-- a body is held: the next operation with it comes to what is held, and has the stamp that is noted; or it is refused,
-- and nothing comes
abbrev pub HoldsBody : Deed → Account → Account → Result (Option Timestamp) DeskFault → Type 0
HoldsBody deed old new (Ok None) = ⊥
HoldsBody deed old new (Ok (Some stamp)) =
    (new ≡ holding old (next_operation old deed ∷ [])) × (stamp ≡ (next_operation old deed).stamp)
HoldsBody deed old new (Err fault) = (new ≡ old) × RefusesIntake old deed fault old

-- operations are held: no stamp is noted, and all of them are published or held from then on; or they are refused
abbrev pub HoldsAll : List Operation → Account → Result (Option Timestamp) DeskFault → Type 0
HoldsAll ops new held = IfOk held (λ stamp. (stamp ≡ None) × IsPartOf ops (record_of new))

-- the operations of a request are held
abbrev pub HoldsAsk : Ask → Account → Account → Result (Option Timestamp) DeskFault → Type 0
HoldsAsk (ask.Intake asker draft) old new held = HoldsBody (deed_of draft) old new held
HoldsAsk (ask.TakeAll asker ops) old new held = HoldsAll ops.items new held

-- who is added to those that wait, once, with what was held for that
abbrev pub AddsOne : Asker → (Result (Option Timestamp) DeskFault → Type 0) → List Waiter → List Waiter → Type 0
AddsOne asker IsHeldSo old new =
    (waiter : Waiter) × (new ≡ old ++ waiter ∷ []) × (waiter.asker ≡ asker) × IsHeldSo waiter.held

-- who are added to those that wait: nobody but this one, so many times
abbrev pub AddsOwn : Asker → List Waiter → List Waiter → Type 0
AddsOwn asker old new = (added : List Waiter) × (new ≡ old ++ added) × All (λ waiter. waiter.asker ≡ asker) added

-- a session by its place and its number
abbrev pub session_at : ℕ → ℕ → Asker
session_at place number = asker.Session place number

-- the sender of a request
abbrev pub asker_of : Ask → Asker
asker_of (ask.Intake asker draft) = asker
asker_of (ask.TakeAll asker ops) = asker
