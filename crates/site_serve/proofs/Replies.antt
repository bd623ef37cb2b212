-- Who waits is answered, one after the other.
use Rattle.std.proofs.Common.{◌≡◌, ◌∷◌, ◌++◌, [], ℕ, IfErr, IfOk, List, OnOk, Option, Result, Ok, Err, inl, inr}
use Rattle.std.proofs.Common.{refl, subst, sym}
use Rattle.review_ops.specs.Timestamp.{Timestamp}
use Rattle.site_serve.specs.Answered.{AreAnswered, EachIsAnswered, IsAskerAnswered, IsPlaceAnswered, SaysFault, SaysHeld, SaysStamp}
use Rattle.site_serve.specs.declared.ask.Asker.TheVariants.{Session}
use Rattle.site_serve.specs.declared.requests.Waiter.{Waiter}
use Rattle.site_shared.specs.declared.fault.DeskFault.{DeskFault}
use Rattle.site_shared.specs.declared.fault.DeskFault.TheVariants.{NoMemory}

-- what is answered for what was held is said to the session
module _ {D : Type 0} (stamp_of : D → Option Timestamp) where
  pub says_held : (held : Result (Option Timestamp) DeskFault) (answer : Result D DeskFault) (old new : List ℕ)
      → IfErr held (λ fault. answer ≡ Err fault) → OnOk held (IfErr answer (λ fault. fault ≡ NoMemory 0))
      → IfOk answer (λ done. held ≡ Ok (stamp_of done)) → IfOk answer (λ done. SaysStamp (stamp_of done) old new)
      → IfErr answer (λ fault. SaysFault fault old new) → SaysHeld held old new
  says_held (Ok stamp) (Ok done) old new refused memory same says fault =
      let is : stamp_of done ≡ stamp = cc in inl (subst (λ s. SaysStamp s old new) is says)
  says_held (Ok stamp) (Err given) old new refused memory same says fault =
      inr (subst (λ f. SaysFault f old new) memory fault)
  says_held (Err why) (Ok done) old new refused memory same says fault = cc
  says_held (Err why) (Err given) old new refused memory same says fault =
      let is : given ≡ why = cc in subst (λ f. SaysFault f old new) is fault

module _ {S : Type 0} (number_of : S → ℕ) (outbox_of : S → List ℕ) where
  pub session_answered : (waiter : Waiter) (place number : ℕ) (old new : List (Option S))
      → waiter.asker ≡ Session place number
      → IsPlaceAnswered number_of outbox_of place number (SaysHeld waiter.held) old new
      → AreAnswered old new number_of outbox_of (waiter ∷ [])
  session_answered waiter place number old new is seat = (
    new,
    subst (λ asker. IsAskerAnswered number_of outbox_of asker (SaysHeld waiter.held) old new) (sym is) seat,
    refl,
  )

  -- those who were answered, and one who is after them
  pub one_after : (waiters : List Waiter) (waiter : Waiter) (old mid new : List (Option S))
      → AreAnswered old mid number_of outbox_of waiters → AreAnswered mid new number_of outbox_of (waiter ∷ [])
      → AreAnswered old new number_of outbox_of (waiters ++ waiter ∷ [])
  one_after [] waiter old mid new is last =
      subst (λ l. EachIsAnswered number_of outbox_of (waiter ∷ []) l new) is last
  one_after (first ∷ waiters) waiter old mid new (then, is, others) last =
      (then, is, one_after waiters waiter then mid new others last)
