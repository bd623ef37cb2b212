-- How an answer comes about: what the text after a command spells, and what is written.
use Rattle.std.proofs.Common.{◌≡◌, ◌++◌, ℕ, Bool, true, false, List, Option, Result, refl, subst, inl, inr}
use Rattle.std.specs.Io.KnownBytes.{Appends}
use Rattle.report_text.specs.StateText.{state_text}
use Rattle.report_text.specs.declared.fault.WriteStateFault.TheVariants as write
use Rattle.state_core.specs.State.{State}
use Rattle.op_text.specs.Spelling.{SpellsBody}
use Rattle.op_text.specs.declared.fault.OpTextFault.{OpTextFault}
use Rattle.op_text.specs.declared.fault.OpTextFault.TheVariants as text
use Rattle.review_ops.specs.Deed.{Deed}
use Rattle.site_port.specs.Ports.{Call, Reply}
use Rattle.gossip_line.specs.Answers.{Answers, Asks, IsAnswered, IsWritten}
use Rattle.gossip_line.specs.Commands.{take_word}
use Rattle.gossip_line.specs.Steps.{IsSaid, IsShown, unread_answer}
use Rattle.gossip_line.specs.Texts.{SessionAnswer, greeting, bad_version, replied, no_memory, bad_command, bad_text, farewell}
use Rattle.gossip_line.specs.Texts.{noted, not_allowed}
use Rattle.gossip_line.specs.declared.fault.LineFault.{LineFault}

-- a fault that isn't want of memory says that nothing is spelled
not_spelled : {X : Type 0} (Spelled : X → Type 0) (fault : OpTextFault) → ¬ (fault ≡ text.NoMemory)
    → ((x : X) → Spelled x → fault ≡ text.NoMemory) → (x : X) → ¬ Spelled x
not_spelled Spelled fault other only x is = other (only x is)

-- what is said where the text after a command isn't read
pub unread_body : (body : List ℕ) (fault : OpTextFault)
    → ((deed : Deed) → SpellsBody body deed → fault ≡ text.NoMemory) → IsSaid false (take_word ++ body) (unread_answer fault)
unread_body body text.NoMemory only = inl (inl (body, refl), refl)
unread_body body text.NotJson only =
    (inl (body, refl, not_spelled (SpellsBody body) text.NotJson (λ e. cc) only), refl)
unread_body body (text.BadShape key) only =
    (inl (body, refl, not_spelled (SpellsBody body) (text.BadShape key) (λ e. cc) only), refl)
unread_body body (text.BadBody cause) only =
    (inl (body, refl, not_spelled (SpellsBody body) (text.BadBody cause) (λ e. cc) only), refl)

-- what is said of a line is said by any port
module _ {P : Type 0} (gives : P → Call → Reply → P → Type 0) (old : P) (line : List ℕ) where
  pub said_by_any : (first : Bool) (answer : SessionAnswer) → IsSaid first line answer → Answers gives first old line answer old
  said_by_any true answer is = (is.0, refl)
  said_by_any false greeting is = (is.0, refl)
  said_by_any false bad_version (begins, other, same) = (begins, other, refl)
  said_by_any false (replied reply) (call, asks, given) = absurd given
  said_by_any false no_memory (inl is) = inl (is.0, refl)
  said_by_any false no_memory (inr (call, reply, asks, made, given)) = absurd given
  said_by_any false bad_command is = (is.0, refl)
  said_by_any false bad_text is = (is.0, refl)
  said_by_any false noted is = (is.0, refl)
  said_by_any false farewell is = (is.0, refl)
  said_by_any false not_allowed is = absurd is

  -- what a look shows is an answer to the line that asks for it
  pub shown_as_asked : (new : P) (call : Call) (taken later : Option (List ℕ)) (failed failures : ℕ)
      (result : Result Bool LineFault) → Asks line call
      → IsShown gives old call new taken later failed failures result
      → IsAnswered gives false old line new taken later failed failures result
  shown_as_asked new call taken later failed failures result asks (reply, given, inl sent) =
      (replied reply, (call, asks, given), sent)
  shown_as_asked new call taken later failed failures result asks (reply, given, inr sent) =
      (no_memory, inr (call, reply, asks, sent.0, given), sent.1)

-- ---- the state text
module _ (state of : State) (is : state ≡ of) (taken later : Option (List ℕ)) (failed failures : ℕ) where
  pub shown : Appends taken later (state_text state) → failures ≡ failed
      → IsWritten (state_text of) taken later failed failures
  shown whole none = record { whole = subst (λ s. Appends taken later (state_text s)) is whole; none_failed = none }
