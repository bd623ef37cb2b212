-- The effect of a line of a session: it is answered at once, or its session waits for the next publish or for a worker.
use Rattle.std.specs.Prelude.{◌≡◌, ◌⊎◌, ◌+◌, ◌≤◌, Bool, false, true, List, ℕ, suc, zero, None, Ok, Result, drop, nat_eq, take}
use Rattle.std.specs.Duration.{as_nanos}
use Rattle.byte_ends.specs.Lines.{without_cr}
use Rattle.gossip_line.specs.Answers.{Asks}
use Rattle.gossip_line.specs.Steps.{IsStep, answer_of}
use Rattle.gossip_line.specs.Texts.{answer_text, next_of, no_memory_line, not_allowed}
use Rattle.gossip_line.specs.declared.fault.LineFault.{LineFault}
use Rattle.gossip_line.specs.declared.step.Look.{Look}
use Rattle.gossip_line.specs.declared.step.Saying.{Saying}
use Rattle.gossip_line.specs.declared.step.Step.TheVariants as step
use Rattle.line_reader.specs.Lines.{HasFirstLf}
use Rattle.review_ops.specs.Deed.{Deed}
use Rattle.site_port.specs.Ports.{takes_in}
use Rattle.site_serve.specs.Acknowledged.{AddsOne, Group, HoldsBody}
use Rattle.site_serve.specs.Channels.{ReadsOn}
use Rattle.site_serve.specs.LookedAtKeys.{due_key}
use Rattle.site_serve.specs.Outboxes.{Adds, MaySayLong}
use Rattle.site_serve.specs.Rights.{HasHadLine, IsSameRight}
use Rattle.site_serve.specs.declared.ask.Asker.{Asker}
use Rattle.site_serve.specs.declared.requests.Waiter.{Waiter}
use Rattle.site_serve.specs.declared.session.Session.{Session}
use Rattle.site_shared.specs.Accounts.{Account}

-- the state before or after a line: the session's unsent answers, who waits for the next publish, and what the desk has
-- published and holds
pub record Scene : Type 0 where
  pub answers : List ℕ
  pub waiters : List Waiter
  pub account : Account

-- the waiters and the desk are unchanged
abbrev pub IsLeft : Scene → Scene → Type 0
IsLeft old new = (new.waiters ≡ old.waiters) × (new.account ≡ old.account)

-- the line has an answer that doesn't depend on the site; it is added to the unsent answers, or as much of it as there
-- is memory for
abbrev pub SaysLine : Bool → List ℕ → Scene → Scene → Type 0
SaysLine first line old new =
    (saying : Saying) × IsStep first line (step.Says saying)
    × ((result : Result Bool LineFault)
    × Adds (answer_text (answer_of saying)) (next_of (answer_of saying)) old.answers new.answers result)
    × IsLeft old new

-- a body is held, or refused, and its session waits for the next publish, after those who wait already, for the answer
-- to just that; a session that may only look is answered that it isn't, and nothing of it is held
abbrev pub DoesBody : Bool → Deed → Asker → Scene → Scene → Type 0
DoesBody true deed asker old new =
    AddsOne asker (HoldsBody deed old.account new.account) old.waiters new.waiters × (new.answers ≡ old.answers)
DoesBody false deed asker old new =
    ((result : Result Bool LineFault) × Adds (answer_text not_allowed) (Ok true) old.answers new.answers result)
    × IsLeft old new

-- the line is a body to take in
abbrev pub TakesLine : Bool → Bool → List ℕ → Asker → Scene → Scene → Type 0
TakesLine may_take first line asker old new =
    (deed : Deed) × (first ≡ false) × Asks line (takes_in deed) × DoesBody may_take deed asker old new

-- the line asks for a look, which a worker does; if memory is refused for the job, that is answered at once
abbrev pub LooksLine : Bool → List ℕ → Scene → Scene → Type 0
LooksLine first line old new =
    (look : Look) × IsStep first line (step.Looks look)
    × ((new.answers ≡ old.answers)
    ⊎ ((result : Result Bool LineFault) × Adds no_memory_line (Ok true) old.answers new.answers result))
    × IsLeft old new

-- the line does one of these three, and nothing else
abbrev pub DoesLine : Bool → Bool → List ℕ → Asker → Scene → Scene → Type 0
DoesLine may_take first line asker old new =
    SaysLine first line old new ⊎ (TakesLine may_take first line asker old new ⊎ LooksLine first line old new)

-- the first line of a session's inbox is handled, once: it is removed, and the session has had one more line
abbrev pub DoesNext : {J : Type 0} → Asker → Session J → Session J → Scene → Scene → Type 0
DoesNext asker old new before after =
    (size : ℕ) × HasFirstLf old.inbox size × (new.inbox ≡ drop (size + 1) old.inbox) × HasHadLine old new
    × DoesLine old.may_take (nat_eq old.lines 0) (without_cr (take size old.inbox)) asker before after

-- no line of a session is handled: more of it may be read, it may ask to be admitted by a key, and it may be answered
-- that a line is too long
abbrev pub DoesNone : {J : Type 0} → Session J → Session J → Scene → Scene → Type 0
DoesNone old new before after =
    IsSameRight (record old { key = new.key }) new × ReadsOn old.channel.mode old.inbox new.channel.mode new.inbox
    × MaySayLong before.answers after.answers × IsLeft before after

-- the next line of a session is handled, and no check of its key was due; or none is handled
abbrev pub DoesOne : {J : Type 0} → Asker → ℕ → Session J → Session J → Scene → Scene → Type 0
DoesOne asker now old new before after =
    ((due_key old.key (as_nanos old.key_seen) now ≡ None) × DoesNext asker old new before after)
    ⊎ DoesNone old new before after

-- the state before or after lines: the unsent answers of a session, and who waits at the desk, with its account
abbrev pub scene_of : {K : Type 0} → List ℕ → Group K → Scene
scene_of answers group = record { answers = answers; waiters = group.waiters; account = group.entries.account }

module _ {J K : Type 0} (asker : Asker) (now : ℕ) where
  -- this many times, one after the other, the next line of a session is handled, or none is
  abbrev pub DoesSteps : ℕ → Session J → Session J → Group K → Group K → Type 0
  DoesSteps zero old new before after = (new ≡ old) × (after ≡ before)
  DoesSteps (suc count) old new before after =
      (mid : Session J) × (between : Group K) × DoesSteps count old mid before between
      × DoesOne asker now mid new (scene_of mid.outbox between) (scene_of new.outbox after)

  -- the same, at most this many times
  abbrev pub DoesLines : ℕ → Session J → Session J → Group K → Group K → Type 0
  DoesLines most old new before after = (count : ℕ) × (count ≤ most) × DoesSteps count old new before after
