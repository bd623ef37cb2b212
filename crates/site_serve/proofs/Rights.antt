-- Lemmas about what stays the same of a session, its ending, and its unsent answers.
use Rattle.std.proofs.Common.{◌≡◌, ◌+◌, ◌-◌, ◌∷◌, [], Bool, true, List, ℕ, Option, None, Some, Result, Ok, Err, ap, arith, drop, inl, inr, is_some, length, subst, sym, ◌∙◌}
use Rattle.std.proofs.Common.{drop-drop}
use Rattle.std.specs.Prelude.{◌^◌, min, suc}
use Rattle.std.specs.Option.{option_or}
use Rattle.std.proofs.lemmas.List.{drop_all}
use Rattle.gossip_line.specs.declared.fault.LineFault.{LineFault}
use Rattle.site_serve.specs.Channels.{IsSent, PassesSent, ReadsOn, SealsMore, TakesCame}
use Rattle.site_serve.specs.Outboxes.{Adds, AddsEach, IsRest}
use Rattle.site_serve.specs.Rights.{HasHadLine, IsSameAccess, OnlySends}
use Rattle.site_serve.specs.declared.channel.ChannelMode.{ChannelMode}
use Rattle.site_serve.specs.declared.channel.ChannelMode.TheVariants.{Locked, Plain, Sealed, Shut}
use Rattle.site_serve.specs.declared.session.Session.{Session}
use Rattle.site_serve.specs.declared.session_fault.SessionFault.{SessionFault}

pub reads_nothing : (mode after : ChannelMode) (old new : List ℕ) → new ≡ old → after ≡ mode → ReadsOn mode old after new
reads_nothing mode after old new same kept = inl (same, kept)

pub reads_came : (mode after last : ChannelMode) (old new end came : List ℕ) (result : Result (Unit {0}) SessionFault)
    → TakesCame mode came old new result after → last ≡ after → end ≡ new → ReadsOn mode old last end
reads_came mode after last old new end came result takes kept same =
    inr (
      came,
      result,
      subst (λ n. TakesCame mode came old n result last) (sym same)
          (subst (λ m. TakesCame mode came old new result m) (sym kept) takes),
    )

-- a session that is given an ending has one
pub ends_so : {T : Type 0} (before now : Option T) (ending : T) → now ≡ option_or before (Some ending) → is_some now ≡ true
ends_so None now ending is = ap is_some is
ends_so (Some first) now ending is = ap is_some is

-- what two steps leave the same
pub same_then : {J : Type 0} (old mid new : Session J) → IsSameAccess old mid → IsSameAccess mid new
    → IsSameAccess old new
same_then old mid new first then = (
  (
    then.0.0 ∙ first.0.0,
    then.0.1 ∙ first.0.1,
    then.0.2 ∙ first.0.2,
    then.0.3 ∙ first.0.3,
    then.0.4 ∙ first.0.4,
  ),
  then.1 ∙ first.1,
)

-- a line was handled, and a step before or after it left everything else the same
pub had_after : {J : Type 0} (old mid new : Session J) → IsSameAccess old mid → HasHadLine mid new → HasHadLine old new
had_after old mid new first had = (
  (
    had.0.0 ∙ first.0.0,
    had.0.1 ∙ first.0.1,
    had.0.2 ∙ first.0.2,
    had.0.3 ∙ first.0.3,
    had.0.4 ∙ ap (λ n. min (n + 1) (2 ^ 64 - 1)) first.0.4,
  ),
  had.1 ∙ first.1,
)

pub had_before : {J : Type 0} (old mid new : Session J) → HasHadLine old mid → IsSameAccess mid new → HasHadLine old new
had_before old mid new had then = (
  (
    then.0.0 ∙ had.0.0,
    then.0.1 ∙ had.0.1,
    then.0.2 ∙ had.0.2,
    then.0.3 ∙ had.0.3,
    then.0.4 ∙ had.0.4,
  ),
  then.1 ∙ had.1,
)

-- a text is added once more
pub adds_more : (count : ℕ) (text old mid new : List ℕ) → AddsEach count text old mid
    → ((result : Result Bool LineFault) × Adds text (Ok true) mid new result) → AddsEach (count + 1) text old new
adds_more count text old mid new each adds =
    let e : suc count ≡ count + 1 = omega arith in subst (λ n. AddsEach n text old new) e (mid, each, adds)

-- suffixes of the unsent answers
pub rest_same : (old new : List ℕ) → new ≡ old → IsRest old new
rest_same old new same = (0, same)

pub rest_none : (old new : List ℕ) → new ≡ [] → IsRest old new
rest_none old new none = (length old, none ∙ sym (drop_all (length old) old (omega arith)))

pub rest_rest : (old mid new : List ℕ) → IsRest old mid → IsRest mid new → IsRest old new
rest_rest old mid new (first, is) (more, then) =
    (first + more, then ∙ ap (drop more) is ∙ drop-drop more first old)

passed_rest : (count : ℕ) (mode after : ChannelMode) (answers left : List ℕ)
    → PassesSent count mode answers after left → IsRest answers left
passed_rest count Plain after answers left passed = (count, passed.0)
passed_rest count (Sealed w) after answers left passed = (0, passed.0)
passed_rest count Locked after answers left passed = (0, passed.0)
passed_rest count Shut after answers left passed = (0, passed.0)

pub sent_rest : (count : ℕ) (first begun : List ℕ) (mode after : ChannelMode) (answers left : List ℕ)
    → IsSent count first mode answers begun after left → IsRest answers left
sent_rest count [] begun mode after answers left sent = passed_rest count mode after answers left sent.1
sent_rest count (byte ∷ first) begun mode after answers left sent = (0, sent.2)

pub sealed_rest : (waiting answers left : List ℕ) (mode after : ChannelMode) (result : Result (Unit {0}) SessionFault)
    → SealsMore waiting mode answers after left result → IsRest answers left
sealed_rest [] answers left (Sealed w) after (Ok done) (count, sealed, is, front, sends, rest, none) = (count, rest)
sealed_rest [] answers left (Sealed w) after (Err fault) (by, is, held, kept, rest) = (0, rest)
sealed_rest [] answers left Plain after result seals = (0, seals.2)
sealed_rest [] answers left Locked after result seals = (0, seals.2)
sealed_rest [] answers left Shut after result seals = (0, seals.2)
sealed_rest (byte ∷ waiting) answers left mode after result seals = (0, seals.2)

pub only_then : {J : Type 0} (old mid new : Session J) → OnlySends old mid → OnlySends mid new → OnlySends old new
only_then old mid new first then = (
  rest_rest old.outbox mid.outbox new.outbox first.0 then.0,
  then.1 ∙ first.1,
  then.2 ∙ first.2,
  (
    then.3.0 ∙ first.3.0,
    then.3.1 ∙ first.3.1,
    then.3.2 ∙ first.3.2,
    then.3.3 ∙ first.3.3,
    then.3.4 ∙ first.3.4,
  ),
)
