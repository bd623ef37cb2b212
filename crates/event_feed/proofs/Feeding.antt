-- A feed goes on by one line more, and ends.
use Rattle.std.proofs.Common.{◌≡◌, ◌+◌, ℕ, Bool, true, false, List, [], ◌∷◌, ◌++◌, Option, None, Result, Ok, Err}
use Rattle.std.proofs.Common.{length, refl}
use Rattle.std.proofs.Common.{sym, subst, arith}
use Rattle.gerrit_events.specs.Projects.{Choice}
use Rattle.gerrit_events.specs.Reading.{ParsedLine}
use Rattle.gerrit_events.specs.Revisions.{Revision}
use Rattle.event_feed.specs.Feed.{IsTurn, Standing, Stops, FeedTurn, Turns, Waits, ended_by, with_taker}
use Rattle.event_feed.specs.Steps.{Steps}
use Rattle.event_feed.specs.declared.fault.FeedFault.{FeedFault}
use Rattle.event_feed.specs.declared.progress.Input.{Input}
use Rattle.event_feed.specs.declared.progress.Progress.{Progress}

module _ {Taker : Type 0} (rests : Taker → Result (Unit {0}) FeedFault → Taker → Type 0)
    (takes : Taker → ℕ → ParsedLine → Result (Unit {0}) FeedFault → Taker → Type 0) where
  pub turns_push : (choice : Choice) (limit first number : ℕ) (turns : List FeedTurn) (old mid new : Standing Taker)
      (waiting : Taker)
      (turn : FeedTurn) → number ≡ first + length turns → Turns rests takes choice limit first old turns mid
      → Waits rests mid.source.held mid.taker waiting
      → IsTurn takes choice limit number (with_taker mid waiting) new turn (Ok tt) → ended_by turn.parsed ≡ None
      → Turns rests takes choice limit first old (turns ++ turn ∷ []) new
  turns_push choice limit first number [] old mid new waiting turn is before waits one unended =
      let at : number ≡ first = omega (arith, is) in (
        waiting,
        new,
        subst (λ s. Waits rests s.source.held s.taker waiting) before waits,
        subst (λ n. IsTurn takes choice limit n (with_taker old waiting) new turn (Ok tt)) at
            (subst (λ s. IsTurn takes choice limit number (with_taker s waiting) new turn (Ok tt)) before one),
        unended,
        refl,
      )
  turns_push choice limit first number (t ∷ turns) old mid new waiting turn is before waits one unended = (
    before.0,
    before.1,
    before.2,
    before.3,
    before.4,
    turns_push choice limit (first + 1) number turns before.1 mid new waiting turn
        (omega (arith, is)) before.5 waits one unended,
  )

  -- turns go on from what is held, wherever that lies
  pub turns_held : (choice : Choice) (limit first : ℕ) (old : Standing Taker) (turns : List FeedTurn)
      (left : Option (List ℕ))
      (failed : ℕ) (held held' : List ℕ) (known : List Revision) (progress : Progress) (taker : Taker) → held ≡ held'
      → Turns rests takes choice limit first old turns
      (record { source = record { left = left; failed = failed; held = held }; known = known; progress = progress; taker = taker })
      → Turns rests takes choice limit first old turns
      (record { source = record { left = left; failed = failed; held = held' }; known = known; progress = progress; taker = taker })
  turns_held choice limit first old turns left failed held held' known progress taker same before =
      subst (λ h. Turns rests takes choice limit first old turns (record { source = record { left = left; failed = failed; held = h }; known = known; progress = progress; taker = taker })) same before

  -- a line was taken, and the feed goes on
  pub step_on : (input : Input) (choice : Choice) (bound limit number : ℕ) (old new : Standing Taker) (more : Bool)
      → bound ≡ limit
      → more ≡ true → Steps rests takes input choice bound number old new (Ok more)
      → Steps rests takes input choice limit number old new (Ok true)
  step_on input choice bound limit number old new true same is h =
      subst (λ l. Steps rests takes input choice l number old new (Ok true)) same h
  step_on input choice bound limit number old new false same is h = cc

  -- the source is at its end
  pub step_end : (input : Input) (choice : Choice) (bound limit number at : ℕ) (old new : Standing Taker) (more : Bool)
      → more ≡ false
      → at ≡ number → Steps rests takes input choice bound number old new (Ok more)
      → Stops rests takes input choice limit at old new (Ok tt)
  step_end input choice bound limit number at old new true is same h = cc
  step_end input choice bound limit number at old new false is same h =
      subst (λ n. Stops rests takes input choice limit n old new (Ok tt)) (sym same) h

  -- the feed ends early
  pub step_off : (input : Input) (choice : Choice) (bound limit number at : ℕ) (old new : Standing Taker)
      (fault : FeedFault)
      → bound ≡ limit → at ≡ number → Steps rests takes input choice bound number old new (Err fault)
      → Stops rests takes input choice limit at old new (Err fault)
  step_off input choice bound limit number at old new fault same is h =
      subst (λ l. Stops rests takes input choice l at old new (Err fault)) same
      (subst (λ n. Stops rests takes input choice bound n old new (Err fault)) (sym is) h)
