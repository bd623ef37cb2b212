-- How a session ends.
use Rattle.std.proofs.Common.{◌≡◌, ◌++◌, ◌≤◌, ℕ, Bool, true, false, List, Option, Result, Ok, Err, refl, sym, subst}
use Rattle.std.proofs.Common.{inl, inr, length}
use Rattle.std.specs.Prelude.{◌⊎◌}
use Rattle.std.specs.Io.KnownBytes.{Consumes}
use Rattle.byte_ends.specs.Lines.{without_cr}
use Rattle.byte_ends.specs.ReadAll.{CountsFault}
use Rattle.byte_ends.specs.declared.faults.BytesFault.{BytesFault}
use Rattle.byte_ends.specs.declared.faults.BytesFault.TheVariants as bytes
use Rattle.line_reader.specs.Lines.{BeginsWithLine, Hands, IsTooLong, IsUnfinished, Reading}
use Rattle.site_port.specs.Ports.{Call, Reply}
use Rattle.gossip_line.specs.Answers.{AnswerIsCutShort, IsWritten, Sends}
use Rattle.gossip_line.specs.Session.{CountsReads, Ends, EndsUnread, IsCut, IsLast, IsSent, IsTalk, Moment}
use Rattle.gossip_line.specs.Session.{Session, Turn, is_none_yet}
use Rattle.gossip_line.specs.Texts.{SessionAnswer, bad_version, farewell}
use Rattle.gossip_line.specs.Texts.{answer_text, long_line, next_of}
use Rattle.gossip_line.specs.declared.fault.LineFault.{LineFault}
use Rattle.gossip_line.specs.declared.fault.LineFault.TheVariants as line

-- ---- what a call of the reader handed out

pub no_line : (limit : ℕ) (old new : Reading) (came : List ℕ) (whole : Bool) → old.limit ≡ limit → whole ≡ false
    → Hands old came (Ok whole) new → IsUnfinished limit (old.held ++ came)
no_line limit old new came true is e h = cc
no_line limit old new came false is e h = subst (λ l. IsUnfinished l (old.held ++ came)) is h.0

pub a_line : (limit : ℕ) (old new : Reading) (came : List ℕ) (whole : Bool) → old.limit ≡ limit → whole ≡ true
    → Hands old came (Ok whole) new
    → (piece : List ℕ) × BeginsWithLine limit (old.held ++ came) piece new.held × (new.line ≡ without_cr piece)
a_line limit old new came true is e h = (h.0, subst (λ l. BeginsWithLine l (old.held ++ came) h.0 new.held) is h.1, h.2)
a_line limit old new came false is e h = cc

-- ---- what was written

-- the text was written and the result is the wanted one, or writing failed
pub sends_cases : {T : Type 0} (text : List ℕ) (wanted : Result T LineFault) (taken later : Option (List ℕ))
    (failed failures : ℕ) (result : Result T LineFault) → Sends text wanted taken later failed failures result
    → ((result ≡ wanted) × IsWritten text taken later failed failures)
    ⊎ ((result ≡ Err line.WriteFault) × AnswerIsCutShort text taken later failed failures)
sends_cases text wanted taken later failed failures (Err line.WriteFault) h = inr (refl, h)
sends_cases text wanted taken later failed failures result h = inl h

abbrev failed_by : LineFault → Result Bool LineFault
failed_by fault = Err fault

-- which answers end a session, and which don't
ends_badly : (answer : SessionAnswer) (fault : LineFault) → Err fault ≡ next_of answer
    → (answer ≡ bad_version) × (fault ≡ line.BadVersion)
ends_badly bad_version fault e = (refl, cc)
ends_badly answer fault e = cc

ends_well : (answer : SessionAnswer) (more : Bool) → more ≡ false → Ok more ≡ next_of answer → answer ≡ farewell
ends_well farewell more is e = refl
ends_well answer more is e = cc

module _ {P : Type 0} (gives : P → Call → Reply → P → Type 0) (limit most : ℕ) (turns : List Turn) (mid : Moment P)
    (rest : List ℕ) (after : Moment P) where
  -- a session's end, and what of it the count of failed reads shows
  pub record IsEnd (result : Result (Unit {0}) LineFault) : Type 0 where
    pub ended : Ends gives limit most turns mid rest after result
    pub counted : CountsReads gives mid after result

  after_fault : (answer : SessionAnswer) (fault : LineFault)
      → IsLast gives limit (is_none_yet turns) mid.port rest answer after.port → after.unread ≡ mid.unread
      → ((failed_by fault ≡ next_of answer) × IsSent gives (answer_text answer) mid after)
      ⊎ ((failed_by fault ≡ Err line.WriteFault) × IsCut gives (answer_text answer) mid after) → IsEnd (Err fault)
  after_fault answer fault last none (inl (e, said)) =
      let which = ends_badly answer fault e in
      let last_is = subst (λ a. IsLast gives limit (is_none_yet turns) mid.port rest a after.port) which.0 last in
      let said_is = subst (λ a. IsSent gives (answer_text a) mid after) which.0 said in
      subst (λ f. IsEnd (Err f)) (sym which.1) (record { ended = (last_is, said_is); counted = none })
  after_fault answer fault last none (inr (e, cut)) =
      let is : fault ≡ line.WriteFault = cc in
      subst (λ f. IsEnd (Err f)) (sym is) (record { ended = inl (answer, last, cut); counted = none })

  pub answered_fault : (answer : SessionAnswer) (fault : LineFault)
      → IsLast gives limit (is_none_yet turns) mid.port rest answer after.port → after.unread ≡ mid.unread
      → Sends (answer_text answer) (next_of answer) mid.taken after.taken mid.unwritten after.unwritten (Err fault)
      → IsEnd (Err fault)
  answered_fault answer fault last none h =
      let cases = sends_cases (answer_text answer) (next_of answer) mid.taken after.taken mid.unwritten after.unwritten
      (Err fault) h in
      after_fault answer fault last none cases

  pub answered_last : (answer : SessionAnswer) (more : Bool) → more ≡ false
      → IsLast gives limit (is_none_yet turns) mid.port rest answer after.port → after.unread ≡ mid.unread
      → (Ok more ≡ next_of answer) × IsSent gives (answer_text answer) mid after → IsEnd (Ok tt)
  answered_last answer more is last none h =
      let which = ends_well answer more is h.0 in
      let last_is = subst (λ a. IsLast gives limit (is_none_yet turns) mid.port rest a after.port) which last in
      let said_is = subst (λ a. IsSent gives (answer_text a) mid after) which h.1 in
      record { ended = inr (last_is, said_is); counted = none }

  after_long : (result : Result (Unit {0}) LineFault) → IsTooLong limit rest → after.port ≡ mid.port
      → after.unread ≡ mid.unread
      → ((result ≡ Err line.LongLine) × IsSent gives long_line mid after)
      ⊎ ((result ≡ Err line.WriteFault) × IsCut gives long_line mid after) → IsEnd result
  after_long result long same none (inl (e, said)) =
      subst IsEnd (sym e) (record { ended = (long, same, said); counted = none })
  after_long result long same none (inr (e, cut)) =
      subst IsEnd (sym e) (record { ended = inr (long, same, cut); counted = none })

  -- no line was read
  pub unread_end : (fault : BytesFault) (old new : Reading) (came : List ℕ) (result : Result (Unit {0}) LineFault)
      → old.limit ≡ limit → rest ≡ old.held ++ came → after.port ≡ mid.port
      → Hands old came (Err fault) new → CountsFault mid.unread after.unread fault
      → EndsUnread fault mid.taken after.taken mid.unwritten after.unwritten result → IsEnd result
  unread_end bytes.TooLong old new came result is whole same hands none h =
      after_long result
      (subst (IsTooLong limit) (sym whole) (subst (λ l. IsTooLong l (old.held ++ came)) is hands.0)) same none
      (sends_cases long_line (Err line.LongLine) mid.taken after.taken mid.unwritten after.unwritten result h)
  unread_end bytes.ReadFault old new came result is whole same hands one h =
      subst IsEnd (sym h.0) (record { ended = ((same, h.1, h.2), inl one); counted = tt })
  unread_end bytes.NoMemory old new came result is whole same hands none h =
      subst IsEnd (sym h.0) (record { ended = (same, h.1, h.2); counted = none })

module _ {P : Type 0} {gives : P → Call → Reply → P → Type 0} {limit most : ℕ} {before mid after : Moment P}
    {turns : List Turn} {held : List ℕ} {result : Result (Unit {0}) LineFault} where
  -- a session whose turns went on, and that then ends so
  pub session_ends : (last : List ℕ) → IsTalk gives limit before mid turns held → length turns ≤ most
      → Consumes mid.left after.left last → IsEnd gives limit most turns mid (held ++ last) after result
      → Session gives limit most before after result
  session_ends last talk few read finish = record {
    turns = turns;
    mid = mid;
    held = held;
    last = last;
    talk = talk;
    few = few;
    came = read;
    ended = finish.ended;
    counted = finish.counted;
  }
