-- The answers that sessions get after a publish, and how a worker's reply changes a session.
use Rattle.std.specs.Prelude.{◌≡◌, ◌≢◌, ◌⊎◌, ◌↔◌, ◌∷◌, ◌++◌, [], ℕ, IfSome, IsTrue, List, Bool, false, true, Ok, Err, None, Option, Some, Result}
use Rattle.std.specs.Prelude.{is_some, slice_get}
use Rattle.std.specs.Option.{option_or}
use Rattle.gossip_line.specs.Texts.{refusal_line, stamp_line}
use Rattle.gossip_line.specs.declared.fault.LineFault.{LineFault}
use Rattle.key_file.specs.declared.key.Role.{Role}
use Rattle.key_file.specs.declared.key.Role.TheVariants.{Feed}
use Rattle.review_ops.specs.Timestamp.{Timestamp}
use Rattle.sealed_link.specs.Wires.{Wiring}
use Rattle.site_serve.specs.Outboxes.{Adds}
use Rattle.site_serve.specs.Rights.{IsSameAccess, IsSameRight}
use Rattle.site_serve.specs.declared.ask.Asker.{Asker}
use Rattle.site_serve.specs.declared.ask.Asker.TheVariants as asker
use Rattle.site_serve.specs.declared.channel.ChannelMode.TheVariants.{Sealed, Shut}
use Rattle.site_serve.specs.declared.requests.Waiter.{Waiter}
use Rattle.site_serve.specs.SitePorts.{port_fault_of}
use Rattle.site_serve.specs.declared.jobs.Work.{Work}
use Rattle.site_serve.specs.declared.jobs.Work.TheVariants.{Admitted, Rejected, Entered, KeyLookedAt, Left, Looked}
use Rattle.site_serve.specs.declared.session.Session.{Session}
use Rattle.site_serve.specs.declared.session_fault.SessionFault.{SessionFault}
use Rattle.site_serve.specs.declared.session_fault.SessionFault.TheVariants.{Line}
use Rattle.site_shared.specs.declared.fault.DeskFault.{DeskFault}
use Rattle.site_shared.specs.declared.fault.DeskFault.TheVariants.{NoMemory}

-- the line of the stamp, if there is one, is added to the session's answers
abbrev pub SaysStamp : Option Timestamp → List ℕ → List ℕ → Type 0
SaysStamp stamp old new = IfSome stamp (λ stamp. (result : Result Bool LineFault) × Adds (stamp_line stamp) (Ok true) old new result)

-- the line of the refusal is added to the session's answers
abbrev pub SaysFault : DeskFault → List ℕ → List ℕ → Type 0
SaysFault fault old new = (result : Result Bool LineFault) × Adds (refusal_line (port_fault_of fault)) (Ok true) old new result

-- the answer for what was held is added: its stamp, or that memory was refused; or the fault, if nothing was held
abbrev pub SaysHeld : Result (Option Timestamp) DeskFault → List ℕ → List ℕ → Type 0
SaysHeld (Ok stamp) old new = SaysStamp stamp old new ⊎ SaysFault (NoMemory 0) old new
SaysHeld (Err fault) old new = SaysFault fault old new

-- the ending of a session after an answer with this result: its earlier ending, if it has one, else that of the answer,
-- if the answer ends the session
abbrev pub ending_after : Result Bool LineFault → Option (Result (Unit {0}) SessionFault) → Option (Result (Unit {0}) SessionFault)
ending_after (Ok true) ending = ending
ending_after (Ok false) ending = option_or ending (Some (Ok tt))
ending_after (Err fault) ending = option_or ending (Some (Err (Line fault)))

-- the text of a look is added, and the session goes on or ends by its result; or memory is refused for the text, and
-- the session ends
abbrev pub TakesText : {J : Type 0} → List ℕ → Result Bool LineFault → Session J → Session J → Type 0
TakesText text answered old new =
    ((new.outbox ≡ old.outbox ++ text) × (new.ending ≡ ending_after answered old.ending))
    ⊎ ((new.outbox ≡ old.outbox) × (is_some new.ending ≡ true))

-- the session's bytes are sealed from now on; or memory is refused for the answer to its greeting, and it ends, and
-- nothing more is sent
abbrev pub IsSealedBy : {J : Type 0} → Wiring → Session J → Session J → Type 0
IsSealedBy wire old new =
    ((new.channel.mode ≡ Sealed wire) × (new.outbox ≡ old.outbox))
    ⊎ ((new.channel.mode ≡ Shut) × (new.outbox ≡ []) × (is_some new.ending ≡ true))

-- a session is admitted: its bytes are sealed from now on, and it may send bodies if its key has the role `feed`
abbrev pub IsAdmitted : {J : Type 0} → Role → Wiring → Session J → Session J → Type 0
IsAdmitted role wire old new =
    IsSameRight (record old { may_take = new.may_take; key_seen = new.key_seen }) new
    × (IsTrue new.may_take ↔ role ≡ Feed) × IsSealedBy wire old new

-- a session isn't admitted: it ends, and its channel stays as it was, or nothing more is sent
abbrev pub IsRejected : {J : Type 0} → Session J → Session J → Type 0
IsRejected old new =
    IsSameRight old new × (is_some new.ending ≡ true)
    × (((new.channel.mode ≡ old.channel.mode) × (new.outbox ≡ old.outbox))
    ⊎ ((new.channel.mode ≡ Shut) × (new.outbox ≡ [])))

-- a session takes the present role of its key, and ends if there is none
abbrev pub HasRole : {J : Type 0} → Option Role → Session J → Session J → Type 0
HasRole role old new =
    IsSameAccess (record old { may_take = new.may_take; key_seen = new.key_seen }) new × (new.outbox ≡ old.outbox)
    × (IsTrue new.may_take ↔ role ≡ Some Feed) × (role ≡ None → is_some new.ending ≡ true)

-- how a session goes on after a worker's reply
abbrev pub GoesOnWith : {J : Type 0} → Work → Session J → Session J → Type 0
GoesOnWith (Looked text answered) old new = IsSameAccess old new × TakesText text.items answered old new
GoesOnWith (Admitted admitted) old new = IsAdmitted admitted.role admitted.wire old new
GoesOnWith (Rejected answer) old new = IsRejected old new
GoesOnWith (KeyLookedAt role) old new = HasRole role old new
GoesOnWith Entered old new = IsSameAccess old new × (new.outbox ≡ old.outbox)
GoesOnWith Left old new = IsSameAccess old new × (new.outbox ≡ old.outbox)

-- its place afterwards: empty if it has left, else it has the session after the reply
abbrev pub IsPlaceAfter : {J : Type 0} → Work → Session J → Option (Session J) → Type 0
IsPlaceAfter Left session slot = slot ≡ None
IsPlaceAfter work session slot = (after : _) × (slot ≡ Some after) × GoesOnWith work session after

module _ {S : Type 0} (number_of : S → ℕ) (outbox_of : S → List ℕ) where
  -- the session with this number at this place is answered, if it is still there; no other session is
  pub record IsPlaceAnswered (place number : ℕ) (Says : List ℕ → List ℕ → Type 0) (old new : List (Option S)) : Type 0 where
    pub others : (other : ℕ) → other ≢ place → slice_get new other ≡ slice_get old other
    pub strangers : (session : S) → slice_get old place ≡ Some (Some session) → number_of session ≢ number
        → slice_get new place ≡ Some (Some session)
    pub own : (session : S) → slice_get old place ≡ Some (Some session) → number_of session ≡ number
        → (after : S) × (slice_get new place ≡ Some (Some after)) × Says (outbox_of session) (outbox_of after)

  -- the sender of a request is answered: a session at its place, or a puller by its channel
  abbrev pub IsAskerAnswered : Asker → (List ℕ → List ℕ → Type 0) → List (Option S) → List (Option S) → Type 0
  IsAskerAnswered (asker.Session place number) Says old new = IsPlaceAnswered place number Says old new
  IsAskerAnswered (asker.Puller puller) Says old new = new ≡ old

  -- the waiters are answered one after the other, each for what was held for it
  abbrev pub EachIsAnswered : List Waiter → List (Option S) → List (Option S) → Type 0
  EachIsAnswered [] old new = new ≡ old
  EachIsAnswered (waiter ∷ waiters) old new =
      (mid : List (Option S)) × IsAskerAnswered waiter.asker (SaysHeld waiter.held) old mid
      × EachIsAnswered waiters mid new

-- the same, with the two lists of places as the first arguments
abbrev pub AreAnswered : {S : Type 0} → List (Option S) → List (Option S) → (S → ℕ) → (S → List ℕ) → List Waiter → Type 0
AreAnswered old new number_of outbox_of waiters = EachIsAnswered number_of outbox_of waiters old new
