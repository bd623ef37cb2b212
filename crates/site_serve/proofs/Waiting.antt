-- Who waits once lines of a session are done, and what a line does.
use Rattle.std.proofs.Common.{◌≡◌, ◌⊎◌, ◌+◌, ◌≤◌, true, false, ℕ, Bool, List, [], ◌∷◌, ◌++◌, None, Option, Result, Ok, sym, ap, ◌∙◌, append_assoc, append-nil, arith, drop, inl, inr, refl, subst, take}
use Rattle.std.specs.Prelude.{MatchBool, nat_eq, suc}
use Rattle.std.specs.Duration.{as_nanos}
use Rattle.std.proofs.lemmas.List.Elements.{All-append, All-nil, All-push}
use Rattle.byte_ends.specs.Lines.{without_cr}
use Rattle.gossip_line.specs.Answers.{Asks}
use Rattle.gossip_line.specs.Steps.{IsStep, answer_of}
use Rattle.gossip_line.specs.Texts.{answer_text, next_of, no_memory_line}
use Rattle.gossip_line.specs.declared.fault.LineFault.{LineFault}
use Rattle.gossip_line.specs.declared.step.Look.{Look}
use Rattle.gossip_line.specs.declared.step.Saying.{Saying}
use Rattle.gossip_line.specs.declared.step.Step.TheVariants as step
use Rattle.line_reader.specs.Lines.{HasFirstLf}
use Rattle.review_ops.specs.Deed.{Deed}
use Rattle.review_ops.specs.Timestamp.{Timestamp}
use Rattle.site_port.specs.Ports.{takes_in}
use Rattle.site_serve.specs.Acknowledged.{AddsOne, AddsOwn, Group}
use Rattle.site_serve.specs.Channels.{ReadsOn}
use Rattle.site_serve.specs.Doing.{DoesBody, DoesLine, DoesLines, DoesOne, DoesSteps, Scene, scene_of}
use Rattle.site_serve.specs.LookedAtKeys.{due_key}
use Rattle.site_serve.specs.Outboxes.{Adds, MaySayLong}
use Rattle.site_serve.specs.Rights.{HasHadLine, IsSameAccess, IsSameRight}
use Rattle.site_serve.specs.declared.ask.Asker.{Asker}
use Rattle.site_serve.specs.declared.requests.Waiter.{Waiter}
use Rattle.site_serve.specs.declared.session.Session.{Session}
use Rattle.site_shared.specs.declared.fault.DeskFault.{DeskFault}

pub none_own : (asker : Asker) (old new : List Waiter) → new ≡ old → AddsOwn asker old new
none_own asker old new same = ([], same ∙ sym (append-nil old), All-nil (λ waiter. waiter.asker ≡ asker))

pub one_own : (asker : Asker) (IsHeldSo : Result (Option Timestamp) DeskFault → Type 0) (old new : List Waiter)
    → AddsOne asker IsHeldSo old new → AddsOwn asker old new
one_own asker IsHeldSo old new (waiter, is, own, held) =
    (waiter ∷ [], is, All-push (λ waiter. waiter.asker ≡ asker) [] waiter (All-nil (λ waiter. waiter.asker ≡ asker)) own)

-- those who were added, and those who are added after them
pub both_own : (asker : Asker) (old mid new : List Waiter) → AddsOwn asker old mid → AddsOwn asker mid new
    → AddsOwn asker old new
both_own asker old mid new (first, is, own) (more, then, theirs) = (
  first ++ more,
  then ∙ ap (λ l. l ++ more) is ∙ append_assoc old first more,
  All-append (λ waiter. waiter.asker ≡ asker) first more own theirs,
)

module _ (may_take first : Bool) (line : List ℕ) (asker : Asker) (old new : Scene) where
  pub says_does : (saying : Saying) → IsStep first line (step.Says saying)
      → ((result : Result Bool LineFault)
      × Adds (answer_text (answer_of saying)) (next_of (answer_of saying)) old.answers new.answers result)
      → new.waiters ≡ old.waiters → new.account ≡ old.account → DoesLine may_take first line asker old new
  says_does saying is said same held = inl (saying, is, said, (same, held))

  pub takes_does : (deed : Deed) → first ≡ false → Asks line (takes_in deed) → DoesBody may_take deed asker old new
      → DoesLine may_take first line asker old new
  takes_does deed later asks does = inr (inl (deed, later, asks, does))

  pub looks_does : (look : Look) → IsStep first line (step.Looks look)
      → ((new.answers ≡ old.answers)
      ⊎ ((result : Result Bool LineFault) × Adds no_memory_line (Ok true) old.answers new.answers result))
      → new.waiters ≡ old.waiters → new.account ≡ old.account → DoesLine may_take first line asker old new
  looks_does look is shown same held = inr (inr (look, is, shown, (same, held)))

module _ {J : Type 0} (asker : Asker) (now : ℕ) (old new : Session J) (read : List ℕ) (before after : Scene) where
  -- no line of a session is handled
  pub none_does : read ≡ old.inbox → IsSameRight (record old { key = new.key }) new
      → ReadsOn old.channel.mode read new.channel.mode new.inbox → MaySayLong before.answers after.answers
      → after.waiters ≡ before.waiters → after.account ≡ before.account → DoesOne asker now old new before after
  none_does is right reads says same held =
      inr (right, subst (λ r. ReadsOn old.channel.mode r new.channel.mode new.inbox) is reads, says, (same, held))

  -- the next line of a session is handled, or none is, as the result says
  pub one_does : (size : ℕ) (done : Bool) → due_key old.key (as_nanos old.key_seen) now ≡ None → read ≡ old.inbox
      → HasFirstLf read size
      → MatchBool done ((new.inbox ≡ drop (size + 1) read)
      × DoesLine old.may_take (nat_eq old.lines 0) (without_cr (take size read)) asker before after)
      ((new.inbox ≡ read) × (after.waiters ≡ before.waiters) × (after.account ≡ before.account))
      → MatchBool done (HasHadLine old new) (IsSameAccess old new)
      → (done ≡ false → MaySayLong before.answers after.answers) → DoesOne asker now old new before after
  one_does size true seen is found does had says = inl (
    seen,
    (
      size,
      subst (λ r. HasFirstLf r size) is found,
      does.0 ∙ ap (drop (size + 1)) is,
      had,
      subst (λ r. DoesLine old.may_take (nat_eq old.lines 0) (without_cr (take size r)) asker before after) is does.1,
    ),
  )
  one_does size false seen is found does had says =
      inr ((had.0.0, had.0.1, refl, had.0.3, had.0.4), inl (does.0 ∙ is, had.1), says refl, (does.1, does.2))

module _ {J K : Type 0} (asker : Asker) (now count : ℕ) (old mid new : Session J) (before between after : Group K) where
  -- one more step is made after this many
  pub one_more : DoesSteps asker now count old mid before between
      → DoesOne asker now mid new (scene_of mid.outbox between) (scene_of new.outbox after)
      → DoesSteps asker now (count + 1) old new before after
  one_more steps one =
      let e : suc count ≡ count + 1 = omega arith in
      subst (λ n. DoesSteps asker now n old new before after) e (mid, between, steps, one)

pub steps_within : {J K : Type 0} (asker : Asker) (now count most : ℕ) (old new : Session J) (before after : Group K)
    → DoesSteps asker now count old new before after → count ≤ most → DoesLines asker now most old new before after
steps_within asker now count most old new before after steps within = (count, within, steps)
