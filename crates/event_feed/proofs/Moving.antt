-- What the parts of a step make of the next line.
use Rattle.std.proofs.Common.{◌≡◌, ◌<◌, ◌≤◌, ℕ, Bool, true, false, List, [], ◌∷◌, ◌++◌, Result, Ok, Err, length}
use Rattle.std.proofs.Common.{ltb, refl, sym, ap, ◌∙◌, subst, inl, inr, arith, append_assoc, length-append}
use Rattle.std.specs.Io.KnownBytes.{Consumes, IsAtEnd}
use Rattle.std.proofs.KnownBytes.{Consumes-trans}
use Rattle.byte_ends.specs.Failures.{OneFailed}
use Rattle.byte_ends.specs.Lines.{as_line, without_cr}
use Rattle.gerrit_events.specs.Projects.{Choice}
use Rattle.gerrit_events.specs.Reading.{Reads, ParsedLine}
use Rattle.line_reader.specs.Lines.{BeginsWithLine, HasNoLf, IsTooLong, endless}
use Rattle.event_feed.proofs.LinesRead.{long_by}
use Rattle.event_feed.specs.Ends.{Begin, HasCome, IsEndless, IsTextRead}
use Rattle.event_feed.specs.Feed.{BreaksOff, EndsWith, HandsLast, BreaksFeed, IsEnd, IsTurn, Standing, no_event}
use Rattle.event_feed.specs.Progress.{after_part, end_of}
use Rattle.event_feed.specs.Steps.{BreaksPassing, IsHanded, IsLineTaken, IsPassedLast, IsRefused, IsUnpassed, Moves}
use Rattle.event_feed.specs.Steps.{PassesOver, with_more}
use Rattle.event_feed.specs.declared.fault.FeedFault.{FeedFault}
use Rattle.event_feed.specs.declared.fault.FeedFault.TheVariants.{Dropped, ReadFault, WriteFault, NoMemory, NoSite}
use Rattle.event_feed.specs.declared.fault.FeedFault.TheVariants.{Ended}
use Rattle.event_feed.specs.declared.fault.FeedFault.TheVariants.{Incomplete, NoEnd, NoKey, NotAllowed, NotProved}
use Rattle.event_feed.specs.declared.progress.Input.{Input}

module _ {Taker : Type 0} (takes : Taker → ℕ → ParsedLine → Result (Unit {0}) FeedFault → Taker → Type 0) where
  -- what a line tells was handed over: the feed goes on, or ends with it
  handed_over : (input : Input) (choice : Choice) (limit number : ℕ) (old new : Standing Taker) (piece : List ℕ)
      (parsed : ParsedLine)
      → ((result : Result (Unit {0}) FeedFault) → takes old.taker number parsed result new.taker
      → new.progress ≡ after_part old.progress parsed.part
      → IsTurn takes choice limit number old new (record { piece = piece; parsed = parsed }) result)
      → (result : Result Bool FeedFault)
      → IsHanded takes number parsed old.progress new.progress old.taker new.taker result
      → Moves takes input choice limit number old new result
  handed_over input choice limit number old new piece parsed turn (Ok true) h = (_, turn (Ok tt) h.0 h.2, h.1)
  handed_over input choice limit number old new piece parsed turn (Ok false) h = absurd h
  handed_over input choice limit number old new piece parsed turn (Err fault) h = elim h.0 [
    | inl failed ↦ inr (inl (_, turn (Err fault) failed h.1))
    | inr ended ↦ inl (_, turn (Ok tt) ended.0 h.1, ended.1)
  ]

  -- memory was refused once these bytes were read
  refused_memory : (input : Input) (choice : Choice) (limit number : ℕ) (old new : Standing Taker) (came : List ℕ)
      → HasCome came old.source new.source → new.known ≡ old.known → new.progress ≡ old.progress
      → new.taker ≡ old.taker → (result : Result Bool FeedFault) → result ≡ Err NoMemory
      → Moves takes input choice limit number old new result
  refused_memory input choice limit number old new came read known progress taker result is =
      let broken : BreaksFeed limit old new NoMemory = record {
        came = came;
        consumed = read.consumed;
        same = ((known, progress), taker);
        cause = read.none_failed;
      } in subst (Moves takes input choice limit number old new) (sym is) (inr (inr (inr broken)))

  -- ---- a line that was handed out

  module _ (input : Input) (choice : Choice) (limit number : ℕ) (old new : Standing Taker) (came piece line : List ℕ)
      (consumed : Consumes old.source.left new.source.left came) (none_failed : new.source.failed ≡ old.source.failed)
      (begins : BeginsWithLine limit (old.source.held ++ came) piece new.source.held)
      (is : line ≡ without_cr piece) where
    found_turn : (parsed : ParsedLine) → Reads old.known choice line parsed new.known
        → (result : Result (Unit {0}) FeedFault)
        → takes old.taker number parsed result new.taker → new.progress ≡ after_part old.progress parsed.part
        → IsTurn takes choice limit number old new (record { piece = piece; parsed = parsed }) result
    found_turn parsed reads result taken progress = record {
      read = record { came = came; consumed = consumed; whole = begins.whole; none_failed = none_failed };
      plain = begins.plain;
      found = inl (begins.short, subst (λ l. Reads old.known choice l parsed new.known) is reads);
      progress = progress;
      taken = taken;
    }

    pub line_move : (result : Result Bool FeedFault)
        → IsLineTaken takes choice number line old.known new.known old.progress new.progress old.taker new.taker result
        → Moves takes input choice limit number old new result
    line_move result (inl h) =
        handed_over input choice limit number old new piece h.0 (found_turn h.0 h.1) result h.2
    line_move result (inr h) =
        refused_memory input choice limit number old new came
        (record { consumed = consumed; none_failed = none_failed })
        h.1 h.2 h.3 result h.0

  -- ---- a line that is too long

  -- what came last is some bytes
  ends_with : (number : ℕ) (bytes : List ℕ) (old new : Taker) (ending result : Result (Unit {0}) FeedFault)
      → 0 < length bytes → HandsLast takes number no_event old new ending result
      → EndsWith takes number bytes old new ending result
  ends_with number [] old new ending result some h = absurd (omega (arith, some))
  ends_with number (byte ∷ bytes) old new ending result some h = h

  module _ (input : Input) (choice : Choice) (limit number : ℕ) (old new : Standing Taker) (mid : Begin) (came : List ℕ)
      (consumed : Consumes old.source.left mid.left came) (none_failed : mid.failed ≡ old.source.failed)
      (long : IsTooLong limit (old.source.held ++ came)) (held : mid.held ≡ old.source.held ++ came)
      (kept : new.known ≡ old.known) where
    come_both : (more : List ℕ) → HasCome more mid new.source → HasCome (came ++ more) old.source new.source
    come_both more h = record {
      consumed = Consumes-trans old.source.left mid.left new.source.left came more consumed h.consumed;
      none_failed = h.none_failed ∙ none_failed;
    }

    whole : (more : List ℕ) → mid.held ++ more ≡ old.source.held ++ (came ++ more)
    whole more = ap (λ l. l ++ more) held ∙ append_assoc old.source.held came more

    longer : (more : List ℕ) → limit < length (old.source.held ++ (came ++ more))
    longer more =
        omega (
          arith,
          long.more,
          length-append old.source.held came,
          length-append old.source.held (came ++ more),
          length-append came more,
        )

    never_ends : (more : List ℕ) → HasNoLf (mid.held ++ more) → endless ≤ length more
        → IsEndless limit (old.source.held ++ (came ++ more))
    never_ends more plain far = record {
      more = longer more;
      long =
          omega (arith, far, length-append old.source.held (came ++ more), length-append came more);
      plain = subst HasNoLf (whole more) plain;
    }

    long_turn : (piece : List ℕ) → IsTextRead (as_line piece) mid new.source → HasNoLf piece
        → (result : Result (Unit {0}) FeedFault) → takes old.taker number no_event result new.taker
        → new.progress ≡ old.progress
        → IsTurn takes choice limit number old new (record { piece = piece; parsed = no_event }) result
    long_turn piece read plain result taken progress =
        let all : old.source.held ++ (came ++ read.came) ≡ as_line piece ++ new.source.held =
        sym (whole read.came) ∙ read.whole in
        let begun : (old.source.held ++ came) ++ read.came ≡ as_line piece ++ new.source.held =
        append_assoc old.source.held came read.came ∙ all in record {
          read = record {
            came = came ++ read.came;
            consumed =
                Consumes-trans old.source.left mid.left new.source.left came read.came consumed read.consumed;
            whole = all;
            none_failed = read.none_failed ∙ none_failed;
          };
          plain = plain;
          found = inr (
            long_by (ltb limit (length piece)) limit
                (old.source.held ++ came) read.came piece new.source.held long begun refl,
            refl,
            kept,
          );
          progress = progress;
          taken = taken;
        }

    passed : (piece : List ℕ) → IsTextRead (as_line piece) mid new.source → HasNoLf piece
        → (result : Result Bool FeedFault)
        → IsRefused takes number old.progress new.progress old.taker new.taker result
        → Moves takes input choice limit number old new result
    passed piece read plain result (inl h) =
        handed_over input choice limit number old new piece no_event (long_turn piece read plain) result h
    passed piece read plain result (inr h) =
        let both : HasCome (came ++ read.came) old.source new.source =
        come_both read.came (record { consumed = read.consumed; none_failed = read.none_failed }) in
        refused_memory input choice limit number old new (came ++ read.came) both kept h.1 h.2 result h.0

    ended_so : (more : List ℕ) → HasCome more mid new.source → HasNoLf (mid.held ++ more)
        → IsAtEnd new.source.left → new.progress ≡ old.progress → (last : Result (Unit {0}) FeedFault)
        → HandsLast takes number no_event old.taker new.taker (end_of input old.progress) last
        → IsEnd takes input number old new last
    ended_so more read plain end same last h = record {
      came = came ++ more;
      read = come_both more read;
      plain = subst HasNoLf (whole more) plain;
      end = end;
      same = (kept, same);
      ended = ends_with number (old.source.held ++ (came ++ more)) old.taker new.taker (end_of input old.progress) last
          (let e = longer more in omega (arith, e)) h;
    }

    as_moved : (last : Result (Unit {0}) FeedFault) → IsEnd takes input number old new last
        → Moves takes input choice limit number old new (with_more false last)
    as_moved (Ok done) h = h
    as_moved (Err fault) h = inr (inr (inl h))

    passed_last : (result : Result Bool FeedFault)
        → (h : IsPassedLast takes number mid new.source old.progress new.progress old.taker new.taker
        (end_of input old.progress) result) → Moves takes input choice limit number old new result
    passed_last result h = elim h.refused [
      | inl refused ↦
          subst (Moves takes input choice limit number old new) (sym h.goes_on)
          (as_moved h.last (ended_so h.came h.read h.plain h.end h.same h.last refused))
      | inr none ↦
          refused_memory input choice limit number old new (came ++ h.came) (come_both h.came h.read) kept h.same none.1
          result (h.goes_on ∙ ap (with_more false) none.0)
    ]

    broken_off : (fault : FeedFault) (more : List ℕ) → HasNoLf (mid.held ++ more)
        → BreaksPassing more mid new.source fault
        → BreaksOff limit (old.source.held ++ (came ++ more)) old.source new.source fault
    broken_off Dropped more plain h = absurd h
    broken_off ReadFault more plain (inl one) = inl (subst (λ n. OneFailed n new.source.failed) none_failed one)
    broken_off ReadFault more plain (inr none) = inr (never_ends more plain none.0, none.1 ∙ none_failed)
    broken_off WriteFault more plain h = absurd h
    broken_off NoMemory more plain h = h ∙ none_failed
    broken_off NoSite more plain h = absurd h
    broken_off Ended more plain h = absurd h
    broken_off Incomplete more plain h = absurd h
    broken_off NoKey more plain h = absurd h
    broken_off NotProved more plain h = absurd h
    broken_off NotAllowed more plain h = absurd h
    broken_off NoEnd more plain h = absurd h

    unpassed : (result : Result Bool FeedFault)
        → IsUnpassed takes mid new.source old.progress new.progress old.taker new.taker result
        → Moves takes input choice limit number old new result
    unpassed result h =
        let broken : BreaksFeed limit old new h.fault = record {
          came = came ++ h.came;
          consumed = Consumes-trans old.source.left mid.left new.source.left came h.came consumed h.consumed;
          same = ((kept, h.same.0), h.same.1);
          cause = broken_off h.fault h.came h.plain h.cause;
        } in subst (Moves takes input choice limit number old new) (sym h.is) (inr (inr (inr broken)))

    pub long_move : (result : Result Bool FeedFault)
        → PassesOver takes number mid new.source old.progress new.progress old.taker new.taker
        (end_of input old.progress) result → Moves takes input choice limit number old new result
    long_move result (inl h) = passed h.piece h.read h.plain result h.refused
    long_move result (inr (inl h)) = passed_last result h
    long_move result (inr (inr h)) = unpassed result h
