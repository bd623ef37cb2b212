-- How a pull goes on by one round, and how it ends.
use Rattle.std.proofs.Common.{◌≡◌, ◌⊎◌, ◌*◌, ◌+◌, ◌<◌, ◌≤◌, ℕ, Bool, true, false, List, [], ◌∷◌, ◌++◌, Option}
use Rattle.std.proofs.Common.{Ok, Err, length, refl, sym, ap, ◌∙◌, subst, inl, inr, append_assoc, append-nil, arith}
use Rattle.std.proofs.Common.{length-append}
use Rattle.std.proofs.Common.{Global}
use Rattle.std.specs.Prelude.{◌≢◌, ◌↔◌, IsTrue, String, codes, flat_map, string_bytes, sum_by}
use Rattle.std.specs.Io.KnownBytes.{Appends, Consumes}
use Rattle.std.proofs.KnownBytes.{Appends-trans, Consumes-trans}
use Rattle.byte_ends.specs.Lines.{as_line}
use Rattle.site_port.specs.Sinks.{Offer, Uptake, declined, fronts, hands, reached, took}
use Rattle.gossip_line.proofs.OneAnswer.{counts_broken}
use Rattle.gossip_line.proofs.Talking.{All-push, flat_map-push}
use Rattle.gossip_line.specs.Answers.{AnswerIsCutShort, IsWritten, Sends}
use Rattle.gossip_line.specs.Pull.{AreAll, AskAnew, CountsEnds, CountsReading, EndWith, Fails, GoOn, Greets, IsUnquit}
use Rattle.gossip_line.specs.Pull.{BreaksPull, IsDeclined, IsPull, IsWholeRound, Leaves, OperationLine, PullsRound}
use Rattle.gossip_line.specs.Pull.{PullsWell, ReadsAnswer, Round, SendsFront, Takes, TakesAll, answer_in, fault_of}
use Rattle.gossip_line.specs.Pull.{front_line, last_asked}
use Rattle.gossip_line.specs.Session.{Moment}
use Rattle.gossip_line.specs.Texts.{hello}
use Rattle.gossip_line.specs.declared.fault.LineFault.{LineFault}
use Rattle.gossip_line.specs.declared.fault.LineFault.TheVariants as line
use Rattle.gossip_line.specs.declared.pull.Handed.{Handed}
use Rattle.line_reader.specs.Lines.{BeginsWithLine, Reading}
use Rattle.site_port.specs.declared.fault.SinkFault.{SinkFault}
use Rattle.site_port.specs.declared.fault.SinkFault.TheVariants as sink
use Rattle.std.proofs.lemmas.List.Sums.{sum_by-append}
use Rattle.std.proofs.lemmas.List.{length-map}
use Rattle.replica_core.specs.Front.{Reaches}
use Rattle.replica_core.specs.declared.missing.Missing.{Missing}

-- ---- rounds

-- each round but the last reported that others are left, and the last one this; before any round others are left
abbrev pub Report : List Round → Bool → Type 0
Report [] more = more ≡ true
Report (round ∷ rounds) more = EndWith (round ∷ rounds) more

-- a round more is the last one
report_with : (rounds : List Round) (round : Round) (more : Bool) → Report rounds true → round.more ≡ more
    → Report (rounds ++ round ∷ []) more
report_with [] round more others is = is
report_with (first ∷ []) round more others is = (others, is)
report_with (first ∷ next ∷ rounds) round more others is =
    (others.0, report_with (next ∷ rounds) round more others.1 is)

-- where there is a round, the last one reported this
end_with : (rounds : List Round) (more : Bool) → 0 < length rounds → Report rounds more → EndWith rounds more
end_with [] more some report = absurd (omega arith)
end_with (round ∷ rounds) more some report = report

-- a round more asks anew if its line is another than the last one
anew_with : (rounds : List Round) (round : Round) → AskAnew rounds
    → (front_line round.front ≢ last_asked rounds) → AskAnew (rounds ++ round ∷ [])
anew_with [] round anew other = tt
anew_with (first ∷ []) round anew other = (other, tt)
anew_with (first ∷ next ∷ rounds) round anew other = (anew.0, anew_with (next ∷ rounds) round anew.1 other)

-- its line is the last one
asked_with : (rounds : List Round) (round : Round) → last_asked (rounds ++ round ∷ []) ≡ front_line round.front
asked_with [] round = refl
asked_with (first ∷ []) round = refl
asked_with (first ∷ next ∷ rounds) round = asked_with (next ∷ rounds) round

-- if more was left after all rounds, each of them reported that
go_on : (rounds : List Round) → Report rounds true → GoOn rounds
go_on [] report = tt
go_on (round ∷ []) report = (report, tt)
go_on (round ∷ next ∷ rounds) report = (report.0, go_on (next ∷ rounds) report.1)

sum_by-one : (round : Round) → sum_by (λ (r : Round). length r.lines) (round ∷ []) ≡ length round.lines
sum_by-one round = omega arith

sum_with : (rounds : List Round) (round : Round) → sum_by (λ (r : Round). length r.lines)
    (rounds ++ round ∷ []) ≡ sum_by (λ (r : Round). length r.lines) rounds + length round.lines
sum_with rounds round = sum_by-append (λ (r : Round). length r.lines) rounds (round ∷ [])
    ∙ ap (λ n. sum_by (λ (r : Round). length r.lines) rounds + n) (sum_by-one round)

-- where a fixed text isn't written
pub not_sent : (text : List ℕ) (taken later : Option (List ℕ)) (failed failures : ℕ) (fault : LineFault)
    → Sends {T = Unit {0}} text (Ok tt) taken later failed failures (Err fault)
    → (fault ≡ line.WriteFault) × AnswerIsCutShort text taken later failed failures
not_sent text taken later failed failures line.WriteFault h = (refl, h)
not_sent text taken later failed failures fault h = let e = h.0 in cc

-- ---- counts

pub counts_from : (before mid reads start now writes : ℕ) (fault : LineFault) → mid ≡ before → now ≡ start
    → CountsEnds mid reads now writes fault → CountsEnds before reads start writes fault
counts_from before mid reads start now writes fault same also h =
    subst (λ n. CountsEnds n reads start writes fault) same (subst (λ n. CountsEnds mid reads n writes fault) also h)

module _ {K : Type 0} (sinks : K → Offer → Uptake → K → Type 0) where
  all_taken : (old : K) (rounds : List Round) (mid : K) (round : Round) (new : K) → TakesAll sinks old rounds mid
      → Takes sinks mid round new → TakesAll sinks old (rounds ++ round ∷ []) new
  all_taken old [] mid round new before one = (new, subst (λ k. Takes sinks k round new) before one, refl)
  all_taken old (first ∷ rounds) mid round new before one =
      (before.0, before.1, all_taken before.0 rounds mid round new before.2 one)

  -- a whole round more
  pub pull_on : (limit : ℕ) (before mid now : Moment K) (greeting : List ℕ) (rounds : List Round)
      (held came later : List ℕ) (round : Round) → IsPull sinks limit before mid greeting rounds held
      → IsWholeRound limit round → Consumes mid.left now.left came → held ++ came ≡ answer_in round ++ later
      → Takes sinks mid.port round now.port
      → IsWritten (front_line round.front) mid.taken now.taken mid.unwritten now.unwritten → now.unread ≡ mid.unread
      → IsPull sinks limit before now greeting (rounds ++ round ∷ []) later
  pull_on limit before mid now greeting rounds held came later round pull whole read is takes written none_unread =
      let answers = flat_map answer_in rounds in
      let before_it = as_line greeting ++ answers in
      let fronts_before = flat_map (λ (r : Round). front_line r.front) rounds in
      let answers_now = append_assoc (as_line greeting) answers (answer_in round)
      ∙ ap (λ l. as_line greeting ++ l) (sym (flat_map-push answer_in rounds round)) in
      let fronts_now = append_assoc (as_line hello) fronts_before (front_line round.front)
      ∙ ap (λ l. as_line hello ++ l) (sym (flat_map-push (λ (r : Round). front_line r.front) rounds round)) in record {
        greeted = pull.greeted;
        came = subst (Consumes before.left now.left)
            (append_assoc before_it held came ∙ ap (λ l. before_it ++ l) is
            ∙ sym (append_assoc before_it (answer_in round) later) ∙ ap (λ l. l ++ later) answers_now)
            (Consumes-trans before.left mid.left now.left (before_it ++ held) came pull.came read);
        whole = All-push (IsWholeRound limit) rounds round pull.whole whole;
        taken = all_taken before.port rounds mid.port round now.port pull.taken takes;
        written = record {
          whole = subst (Appends before.taken now.taken) fronts_now
              (Appends-trans before.taken mid.taken now.taken (as_line hello ++ fronts_before)
              (front_line round.front) pull.written.whole written.whole);
          none_failed = written.none_failed ∙ pull.written.none_failed;
        };
        none_unread = none_unread ∙ pull.none_unread;
      }

  -- where an answer isn't whole the sink takes no more
  pub broken_left : (limit : ℕ) (mid after : Moment K) (held came : List ℕ) (front : Reaches) (fault : LineFault)
      → sinks mid.port fronts (reached front) after.port → Consumes mid.left after.left came
      → BreaksPull limit (held ++ came) after.left fault → Appends mid.taken after.taken (front_line front)
      → Leaves sinks limit mid held fault after
  broken_left limit mid after held came front line.LongLine says read h asked =
      inr (front, came, says, read, h, asked)
  broken_left limit mid after held came front line.BadAnswer says read h asked = (front, came, says, read, h, asked)
  broken_left limit mid after held came front line.ReadFault says read h asked = (front, came, says, read, h, asked)
  broken_left limit mid after held came front line.NoMemory says read h asked =
      inr (inl (front, came, says, read, h, asked))
  broken_left limit mid after held came front fault says read h asked = absurd h.breaks

  -- why a round isn't whole
  pub record IsRoundFailed (limit : ℕ) (mid : Moment K) (held : List ℕ) (fault : LineFault) (after : Moment K)
      : Type 0 where
    pub leaves : Leaves sinks limit mid held fault after
    pub counts : CountsEnds mid.unread after.unread mid.unwritten after.unwritten fault

  pub front_failed : (T : Type 0) (limit : ℕ) (mid after : Moment K) (held : List ℕ) (front : Reaches)
      (fault : LineFault)
      → SendsFront {T = T} limit front mid.taken after.taken mid.unwritten after.unwritten (Err fault)
      → after.unread ≡ mid.unread → after.left ≡ mid.left → sinks mid.port fronts (reached front) after.port
      → IsRoundFailed limit mid held fault after
  front_failed T limit mid after held front line.WriteFault h same unread says =
      record { leaves = (front, says, unread, h); counts = (same, h.one_failed) }
  front_failed T limit mid after held front line.NoMemory h same unread says =
      record { leaves = inl (front, says, h.0); counts = (same, h.1) }
  front_failed T limit mid after held front line.LongLine h same unread says =
      record { leaves = inl (front, says, h.0, h.1, unread); counts = (same, h.2) }
  front_failed T limit mid after held front fault h same unread says = absurd h

  pub declined_failed : (limit : ℕ) (mid after : Moment K) (held : List ℕ) (why : SinkFault) (fault : LineFault)
      → fault ≡ fault_of why → IsDeclined sinks limit mid held why after
      → after.unread ≡ mid.unread → after.unwritten ≡ mid.unwritten → IsRoundFailed limit mid held fault after
  declined_failed limit mid after held sink.NoMemory fault is h reads writes = subst
      (λ f. IsRoundFailed limit mid held f after) (sym is) (record { leaves = inr (inr h); counts = (reads, writes) })
  declined_failed limit mid after held sink.Closed fault is h reads writes =
      subst (λ f. IsRoundFailed limit mid held f after) (sym is) (record { leaves = h; counts = (reads, writes) })
  declined_failed limit mid after held sink.NotListed fault is h reads writes =
      subst (λ f. IsRoundFailed limit mid held f after) (sym is) (record { leaves = h; counts = (reads, writes) })
  declined_failed limit mid after held sink.FarAhead fault is h reads writes =
      subst (λ f. IsRoundFailed limit mid held f after) (sym is) (record { leaves = h; counts = (reads, writes) })

  -- a round whose answer isn't read whole
  pub not_read : (mid after : Moment K) (front : Reaches) (old : Reading) (came : List ℕ) (fault : LineFault)
      → sinks mid.port fronts (reached front) after.port
      → IsWritten (front_line front) mid.taken after.taken mid.unwritten after.unwritten
      → Consumes mid.left after.left came → BreaksPull old.limit (old.held ++ came) after.left fault
      → CountsReading {T = Unit {0}} mid.unread after.unread (Err fault)
      → IsRoundFailed old.limit mid old.held fault after
  not_read mid after front old came fault says asked read broken counted = record {
    leaves = broken_left old.limit mid after old.held came front fault says read broken asked.whole;
    counts = counts_broken old.limit (length broken.lines) broken.rest after.left mid.unread after.unread
        mid.unwritten after.unwritten fault broken.breaks counted asked.none_failed;
  }

  -- a round whose answer is read whole
  module _ (mid after : Moment K) (late : K) (front : Reaches) (old new : Reading) (came : List ℕ) {A : Type 0}
      (missing : Missing A) (says : sinks mid.port fronts (reached front) late)
      (asked : IsWritten (front_line front) mid.taken after.taken mid.unwritten after.unwritten)
      (read : Consumes mid.left after.left came) (is : ReadsAnswer old came after.left (Ok missing) new)
      (counted : after.unread ≡ mid.unread) where
    -- the front that was written, and the answer that was read
    abbrev the_round : Round
    the_round = record { front = front; lines = is.0; last = is.1; more = missing.more }

    -- and whose operations the sink takes
    pub handed_over : (line : String Global) (count : ℕ) → string_bytes line ≡ front_line front
        → count ≡ length missing.ops.items → sinks late (hands missing.ops.items) took after.port
        → PullsRound sinks old.limit mid old.held
        (Ok (record { asked = line; count = count; more = missing.more })) after new.held
    handed_over line count line_is all taken = (
      the_round,
      came,
      is.2,
      read,
      is.4,
      (late, says, subst (λ ops. sinks late (hands ops) took after.port) is.3 taken),
      asked,
      counted,
      omega (arith, all, ap length is.3, length-map is.0 (λ (l : OperationLine). l.op)),
      refl,
      line_is,
    )

    -- or declines them
    pub not_taken : (why : SinkFault) (fault : LineFault) → fault ≡ fault_of why
        → sinks late (hands missing.ops.items) (declined why) after.port
        → IsRoundFailed old.limit mid old.held fault after
    not_taken why fault fault_is taken = declined_failed old.limit mid after old.held why fault fault_is
        (inr (
          the_round,
          came,
          new.held,
          late,
          is.2,
          read,
          is.4,
          says,
          subst (λ ops. sinks late (hands ops) (declined why) after.port) is.3 taken,
          asked.whole,
        ))
        counted asked.none_failed

  -- so many rounds were whole, so many operations were taken, and the last round reported whether others are left
  pub record AreWhole (limit : ℕ) (before now : Moment K) (number taken : ℕ) (more : Bool) (reader : Reading)
      : Type 0 where
    pub same_limit : reader.limit ≡ limit
    pub greeting : List ℕ
    pub rounds : List Round
    pub pull : IsPull sinks limit before now greeting rounds reader.held
    pub report : Report rounds more
    pub counted : length rounds ≡ number
    pub summed : taken ≡ sum_by (λ (r : Round). length r.lines) rounds
    pub few : taken ≤ 256 * number

  -- at first the version was named, and there was no round
  pub no_round : (limit : ℕ) (before now : Moment K) (old new : Reading) (came : List ℕ)
      → old ≡ record { limit = limit; line = []; held = [] } → new.limit ≡ old.limit
      → Consumes before.left now.left came
      → Greets old came now.left before.taken now.taken before.unread now.unread before.unwritten now.unwritten
      (Ok tt) new
      → now.port ≡ before.port → AreWhole limit before now 0 0 true new
  no_round limit before now old new came fresh kept read greets same =
      let greeting = greets.0 in
      let begins_at = λ (r : Reading). BeginsWithLine r.limit (r.held ++ came) greeting new.held in
      let begins : BeginsWithLine limit came greeting new.held = subst begins_at fresh greets.1 in record {
        same_limit = kept ∙ ap (λ (r : Reading). r.limit) fresh;
        greeting = greeting;
        rounds = [];
        pull = record {
          greeted = greets.2;
          came = subst (Consumes before.left now.left)
              (begins.whole ∙ ap (λ l. l ++ new.held) (sym (append-nil (as_line greeting)))) read;
          whole = tt;
          taken = same;
          written = greets.3;
          none_unread = greets.4;
        };
        report = refl;
        counted = refl;
        summed = refl;
        few = omega arith;
      }

module _ {K : Type 0} {sinks : K → Offer → Uptake → K → Type 0} {limit : ℕ} {before mid : Moment K}
    {number taken : ℕ} {more : Bool} {reader : Reading} where
  -- a whole round more
  pub one_more : (now : Moment K) (handed : Handed) (later : Reading)
      → AreWhole sinks limit before mid number taken true reader → later.limit ≡ reader.limit → handed.more ≡ more
      → PullsRound sinks reader.limit mid reader.held (Ok handed) now later.held
      → AreWhole sinks limit before now (number + 1) (taken + handed.count) more later
  one_more now handed later so_far kept more_is h =
      let rounds = so_far.rounds in
      let round = h.0 in
      let whole = subst (λ l. IsWholeRound l round) so_far.same_limit h.2 in record {
        same_limit = kept ∙ so_far.same_limit;
        greeting = so_far.greeting;
        rounds = rounds ++ round ∷ [];
        pull = pull_on sinks limit before mid now so_far.greeting rounds reader.held h.1 later.held round
            so_far.pull whole h.3 h.4 h.5 h.6 h.7;
        report = report_with rounds round more so_far.report (sym h.9 ∙ more_is);
        counted = omega (arith, so_far.counted, length-append rounds (round ∷ []));
        summed = ap (λ n. n + handed.count) so_far.summed
            ∙ ap (λ n. sum_by (λ (r : Round). length r.lines) rounds + n) h.8 ∙ sym (sum_with rounds round);
        few = omega (arith, so_far.few, whole.few, h.8);
      }

-- so many rounds were whole, each reported that others are left and asked anew, and this is the line of the last one
pub record GoesAnew {K : Type 0} (sinks : K → Offer → Uptake → K → Type 0) (limit : ℕ) (before now : Moment K)
    (number taken : ℕ) (reader : Reading) (asked : List ℕ) : Type 0 where
  pub whole : AreWhole sinks limit before now number taken true reader
  pub anew : AskAnew whole.rounds
  pub asked_is : last_asked whole.rounds ≡ asked

-- at first there was no round
pub none_asked : {K : Type 0} (sinks : K → Offer → Uptake → K → Type 0) (limit : ℕ) (before now : Moment K)
    (old new : Reading) (came asked : List ℕ) → old ≡ record { limit = limit; line = []; held = [] }
    → new.limit ≡ old.limit → Consumes before.left now.left came
    → Greets old came now.left before.taken now.taken before.unread now.unread before.unwritten now.unwritten (Ok tt) new
    → now.port ≡ before.port → asked ≡ [] → GoesAnew sinks limit before now 0 0 new asked
unfolding no_round
none_asked sinks limit before now old new came asked fresh kept read greets same none = record {
  whole = no_round sinks limit before now old new came fresh kept read greets same;
  anew = tt;
  asked_is = sym none;
}

module _ {K : Type 0} {sinks : K → Offer → Uptake → K → Type 0} {limit : ℕ} {before mid : Moment K}
    {number taken : ℕ} {reader : Reading} {asked : List ℕ} (so_anew : GoesAnew sinks limit before mid number taken reader asked)
  where
    -- the round after them
    module _ (now : Moment K) (handed : Handed) (later : Reading) (kept : later.limit ≡ reader.limit)
        (h : PullsRound sinks reader.limit mid reader.held (Ok handed) now later.held) where
      -- is the last one, if it reported that nothing is left or asked with the same line
      pub with_last : AreWhole sinks limit before now (number + 1) (taken + handed.count) handed.more later
      with_last = one_more now handed later so_anew.whole kept refl h

      pub are_all : (most : ℕ) → (handed.more ≡ false) ⊎ (string_bytes handed.asked ≡ asked)
          → AreAll most with_last.rounds handed.more
      unfolding with_last one_more
      are_all most why = inl (record {
        before = so_anew.whole.rounds;
        final = h.0;
        are = refl;
        anew = so_anew.anew;
        why = elim why as (λ _. (handed.more ≡ false) ⊎ (front_line h.0.front ≡ last_asked so_anew.whole.rounds))
            [ inl e ↦ inl e | inr e ↦ inr (sym h.10 ∙ e ∙ sym so_anew.asked_is) ];
      })

      -- or the pull goes on
      pub goes_anew : handed.more ≡ true → (string_bytes handed.asked ≢ asked)
          → GoesAnew sinks limit before now (number + 1) (taken + handed.count) later (string_bytes handed.asked)
      unfolding one_more
      goes_anew more other = record {
        whole = one_more now handed later so_anew.whole kept more h;
        anew = anew_with so_anew.whole.rounds h.0 so_anew.anew
            (λ e. other (h.10 ∙ e ∙ so_anew.asked_is));
        asked_is = asked_with so_anew.whole.rounds h.0 ∙ sym h.10;
      }

    -- a pull whose next round fails
    pub fails_in_round : (most : ℕ) (after : Moment K) (fault : LineFault) → number < most
        → Leaves sinks reader.limit mid reader.held fault after
        × CountsEnds mid.unread after.unread mid.unwritten after.unwritten fault
        → Fails sinks limit most before after fault
    fails_in_round most after fault few h =
        let so_far = so_anew.whole in
        let fewer : length so_far.rounds < most = omega (arith, few, so_far.counted) in
        let at_most : length so_far.rounds ≤ most = omega (arith, fewer) in
        let leaves = subst (λ l. Leaves sinks l mid reader.held fault after) so_far.same_limit h.0 in (
          counts_from before.unread mid.unread after.unread before.unwritten mid.unwritten after.unwritten fault
              so_far.pull.none_unread so_far.pull.written.none_failed h.1,
          inr (
            mid,
            so_far.greeting,
            so_far.rounds,
            reader.held,
            so_far.pull,
            at_most,
            inl (go_on so_far.rounds so_far.report, so_anew.anew, fewer, leaves),
          ),
        )

module _ {K : Type 0} {sinks : K → Offer → Uptake → K → Type 0} {limit : ℕ} {before mid : Moment K}
    {number taken : ℕ} {more : Bool} {reader : Reading} where
  -- a pull that can't write `quit` after its whole rounds
  pub fails_at_quit : (most : ℕ) (after : Moment K) (fault : LineFault)
      (so_far : AreWhole sinks limit before mid number taken more reader) → 0 < number → number ≤ most
      → AreAll most so_far.rounds more
      → Sends {T = Unit {0}} (codes "quit\n") (Ok tt) mid.taken after.taken mid.unwritten after.unwritten (Err fault)
      → (after.port ≡ mid.port) × (after.left ≡ mid.left) × (after.unread ≡ mid.unread)
      → Fails sinks limit most before after fault
  fails_at_quit most after fault so_far some few all unsent same =
      let failed = not_sent (codes "quit\n") mid.taken after.taken mid.unwritten after.unwritten fault unsent in
      let at_most : length so_far.rounds ≤ most = omega (arith, few, so_far.counted) in
      let counts = subst (λ f. CountsEnds mid.unread after.unread mid.unwritten after.unwritten f) (sym failed.0)
      (same.2, failed.1.one_failed) in
      let unquit : IsUnquit sinks most mid so_far.rounds fault after = record {
        fault_is = failed.0;
        cut = failed.1;
        same = (same.0, same.1);
        more = more;
        ends = end_with so_far.rounds more (omega (arith, some, so_far.counted)) so_far.report;
        all = all;
      } in (
        counts_from before.unread mid.unread after.unread before.unwritten mid.unwritten after.unwritten fault
            so_far.pull.none_unread so_far.pull.written.none_failed counts,
        inr (mid, so_far.greeting, so_far.rounds, reader.held, so_far.pull, at_most, inr unquit),
      )

  -- a pull that ends well after so many whole rounds
  pub ends_well : (most rounds : ℕ) (after : Moment K)
      (so_far : AreWhole sinks limit before mid number taken more reader)
      → rounds ≡ number → 0 < rounds → rounds ≤ most → AreAll most so_far.rounds more
      → IsWritten (codes "quit\n") mid.taken after.taken mid.unwritten after.unwritten
      → (after.port ≡ mid.port) × (after.left ≡ mid.left) × (after.unread ≡ mid.unread)
      → PullsWell sinks limit most before after (record { rounds = rounds; taken = taken; more = more })
  ends_well most rounds after so_far is some few all quit same = record {
    mid = mid;
    greeting = so_far.greeting;
    rounds = so_far.rounds;
    held = reader.held;
    pull = so_far.pull;
    quit = quit;
    same = same;
    counted = omega (arith, is, so_far.counted);
    few = omega (arith, is, few, so_far.counted);
    summed = so_far.summed;
    ends = end_with so_far.rounds more (omega (arith, is, some, so_far.counted)) so_far.report;
    all = all;
  }

-- whether a round is the last one, by the line of the round before as a text has it
pub last_by : {line text : List ℕ} (last more : Bool) (asked : List ℕ) → text ≡ line
    → IsTrue last ↔ ((more ≡ false) ⊎ (asked ≡ text)) → IsTrue last ↔ ((more ≡ false) ⊎ (asked ≡ line))
last_by last more asked same is = subst (λ l. IsTrue last ↔ ((more ≡ false) ⊎ (asked ≡ l))) same is

-- a round that isn't the last reported that others are left, and asked with another line
pub goes_with_more : {Same : Type 0} (last more : Bool) → IsTrue last ↔ ((more ≡ false) ⊎ Same) → last ≡ false
    → more ≡ true
goes_with_more last true is e = refl
goes_with_more last false is e = let yes = is.1 (inl refl) in cc

pub goes_on_with : {Same : Type 0} (last more : Bool) → IsTrue last ↔ ((more ≡ false) ⊎ Same) → last ≡ false → ¬ Same
goes_on_with last more is e = λ same. let yes = is.1 (inr same) in cc
