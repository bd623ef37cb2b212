-- The steps of a session: what a line asks for once it is read, and how that is answered.
use Rattle.std.specs.Prelude.{◌≡◌, ◌⊎◌, ℕ, Bool, false, true, List, Option, Result, Ok}
use Rattle.gossip_line.specs.Answers.{Answers, Asks, IsMadeText, Sends}
use Rattle.gossip_line.specs.Texts.{SessionAnswer, greeting, bad_version, no_memory, bad_command, bad_text, farewell}
use Rattle.gossip_line.specs.Texts.{no_memory_line, not_allowed, noted, reply_text}
use Rattle.gossip_line.specs.declared.fault.LineFault.{LineFault}
use Rattle.gossip_line.specs.declared.step.Look.{Look}
use Rattle.gossip_line.specs.declared.step.Look.TheVariants as look
use Rattle.gossip_line.specs.declared.step.Saying.{Saying}
use Rattle.gossip_line.specs.declared.step.Saying.TheVariants as saying
use Rattle.gossip_line.specs.declared.step.Step.{Step}
use Rattle.gossip_line.specs.declared.step.Step.TheVariants as step
use Rattle.op_text.specs.declared.fault.OpTextFault.{OpTextFault}
use Rattle.op_text.specs.declared.fault.OpTextFault.TheVariants as text
use Rattle.review_ops.specs.Draft.{deed_of}
use Rattle.site_port.specs.Ports.{Call, Reply, takes_in, lacks, reports, looks}

abbrev pub answer_of : Saying → SessionAnswer
answer_of saying.Greeting = greeting
answer_of saying.BadVersion = bad_version
answer_of saying.NoMemory = no_memory
answer_of saying.BadCommand = bad_command
answer_of saying.BadText = bad_text
answer_of saying.Noted = noted
answer_of saying.Farewell = farewell
answer_of saying.NotAllowed = not_allowed

-- where the text after a command isn't read
abbrev pub unread_answer : OpTextFault → SessionAnswer
unread_answer text.NoMemory = no_memory
unread_answer fault = bad_text

abbrev pub call_of : Look → Call
call_of (look.Missing front) = lacks front
call_of look.Ready = reports
call_of look.State = looks

-- the line is answered so by whatever port there is, which isn't asked: even by one that replies nothing
abbrev pub IsSaid : Bool → List ℕ → SessionAnswer → Type 0
IsSaid first line answer =
    Answers (λ (old : Unit {0}) (call : Call) (reply : Reply) (new : Unit {0}). ⊥) first tt line answer tt

-- what a line asks for
abbrev pub IsStep : Bool → List ℕ → Step → Type 0
IsStep first line (step.Says saying) = IsSaid first line (answer_of saying)
IsStep first line (step.Takes draft) = (first ≡ false) × Asks line (takes_in (deed_of draft))
IsStep first line (step.Looks look) = (first ≡ false) × Asks line (call_of look)

-- a port is asked, and what it replies is written; or that there is no memory for the text of that
module _ {P : Type 0} (gives : P → Call → Reply → P → Type 0) where
  abbrev pub IsShown : P → Call → P → Option (List ℕ) → Option (List ℕ) → ℕ → ℕ → Result Bool LineFault → Type 0
  IsShown old call new taken later failed failures result =
      (reply : Reply) × gives old call reply new
      × (Sends (reply_text reply) (Ok true) taken later failed failures result
      ⊎ (IsMadeText call × Sends no_memory_line (Ok true) taken later failed failures result))
