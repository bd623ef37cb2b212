-- The packet law: who takes a whole packet of what its front lacked has all that the sender had.
use Rattle.std.proofs.Common.{◌≡◌, ◌≤◌, ℕ, true, false, List, [], ◌∷◌, ◌++◌, Some, Ok, Err, take, map, length, sym, ap}
use Rattle.std.proofs.Common.{subst, ◌∙◌, inl, inr, arith}
use Rattle.std.specs.Prelude.{IfSome}
use Rattle.std.proofs.lemmas.Bool.{ltb-false}
use Rattle.std.proofs.lemmas.List.{take_all}
use Rattle.review_ops.specs.Draft.{deed_of}
use Rattle.review_ops.specs.Operation.{Operation}
use Rattle.review_ops.specs.Timestamp.{Timestamp}
use Rattle.replica_core.specs.Front.{Reaches, IsFront}
use Rattle.replica_core.specs.Journal.{has}
use Rattle.replica_core.specs.Missing.{IsMissing}
use Rattle.world_core.specs.declared.event.Event.{Event}
use Rattle.world_core.specs.declared.event.Event.TheVariants.{Intake, Send, Deliver}
use Rattle.world_core.specs.declared.event.Reply.TheVariants.{Took, Packet, Delivered}
use Rattle.world_core.specs.declared.event.WorldFault.TheVariants.{NoSite}
use Rattle.world_core.specs.Convergence.{made, NoTwins, SiteHolds, MayBecome}
use Rattle.replica_core.specs.JournalLaws.{IsPartOf, has-all_arrived, has-append_right, has-first, has-later}
use Rattle.replica_core.specs.JournalLaws.{same_operation_cases}
use Rattle.world_core.specs.Numbered.{numbered, numbered_last, numbered-replaced_same}
use Rattle.replica_core.specs.Passing.{held_or_lacked}
use Rattle.world_core.specs.Step.{Answer, taken_in, IsSendAt, IsDelivery, IsDeliveryOf, AtSite, Run}
use Rattle.world_core.specs.World.{SiteState, WorldState, new_world}
use Rattle.world_core.proofs.Moves.{site_cases, send_cases, run_keeps}
use Rattle.world_core.proofs.Stamps.{GoesOn, goes_on_twice, run_goes_on, step_goes_on, took_next}
use Rattle.world_core.proofs.Making.{some_if, one_of_twins, made_stamps}
use Rattle.world_core.proofs.Coming.{converges}

pub Run-append : {A : Type 0} (events : List (Event A)) (answers : List Answer) (more : List (Event A))
    (others : List Answer) (old mid new : WorldState) → Run old events answers mid → Run mid more others new → Run old
    (events ++ more) (answers ++ others) new
Run-append [] [] more others old mid new h k = subst (λ w. Run w more others new) h k
Run-append (event ∷ events) (answer ∷ answers) more others old mid new h k =
    (h.0, h.1, Run-append events answers more others h.0 mid new h.2 k)
Run-append [] (answer ∷ answers) more others old mid new h k = absurd h
Run-append (event ∷ events) [] more others old mid new h k = absurd h

pub made-append : {A : Type 0} (events : List (Event A)) (answers : List Answer) (more : List (Event A))
    (others : List Answer) (old mid : WorldState) → Run old events answers mid → IsPartOf (made events answers)
    (made (events ++ more) (answers ++ others))
made-append [] [] more others old mid h op k = cc
made-append (Intake site draft ∷ events) (Ok (Took stamp) ∷ answers) more others old mid h op k =
    elim (same_operation_cases (taken_in stamp (deed_of draft)) (made events answers) op k) [
      | inl same ↦ ap (has (taken_in stamp (deed_of draft) ∷ made (events ++ more) (answers ++ others))) (sym same)
          ∙ has-first (taken_in stamp (deed_of draft)) (made (events ++ more) (answers ++ others))
      | inr later ↦ has-later (taken_in stamp (deed_of draft)) (made (events ++ more) (answers ++ others)) op
          (made-append events answers more others h.0 mid h.2 op later)
    ]
made-append (event ∷ events) (answer ∷ answers) more others old mid h op k =
    made-append events answers more others h.0 mid h.2 op k
made-append [] (answer ∷ answers) more others old mid h op k = absurd h
made-append (event ∷ events) [] more others old mid h op k = absurd h

-- what intakes make is numbered from 1 on
made_numbered : {A : Type 0} (events : List (Event A)) (answers : List Answer) (old new : WorldState)
    → Run old events answers new → (op : Operation) → has (made events answers) op ≡ true → 1 ≤ op.stamp.seq
made_numbered [] [] old new h op k = cc
made_numbered (Intake site draft ∷ events) (Ok (Took stamp) ∷ answers) old new h op k =
    elim (same_operation_cases (taken_in stamp (deed_of draft)) (made events answers) op k) [
      | inl same ↦
          let seq = ap (λ (t : Timestamp). t.seq) (took_next old (Intake site draft) stamp h.0 h.1).0.next in
          let is = ap (λ (o : Operation). o.stamp.seq) same in
          omega (arith, seq, is)
      | inr later ↦ made_numbered events answers h.0 new h.2 op later
    ]
made_numbered (event ∷ events) (answer ∷ answers) old new h op k = made_numbered events answers h.0 new h.2 op k
made_numbered [] (answer ∷ answers) old new h op k = absurd h
made_numbered (event ∷ events) [] old new h op k = absurd h

-- a packet that says that nothing is left has all that the front lacks
sent_whole : (sender : ℕ) (front : Reaches) (old : WorldState) (number count : ℕ) (new : WorldState)
    → IsSendAt sender front old (Ok (Packet number count false)) new
    → (at : SiteState) × (numbered old.sites sender ≡ Some at) × (lacked : List Operation)
    × IsMissing at.journal front lacked × (numbered new.packets number ≡ Some lacked)
sent_whole sender front old number count new h =
    elim (send_cases sender front old new (Ok (Packet number count false)) h) [
      | inl refused ↦ let e : Ok (Packet number count false) ≡ Err NoSite = refused.0 in cc
      | inr (at, found, sent) ↦
          let few = ltb-false 256 (length sent.0) (sym sent.5) in
          let whole : take 256 sent.0 ≡ sent.0 = take_all 256 sent.0 few in
          let last : numbered new.packets number ≡ Some (take 256 sent.0) = ap (numbered new.packets) sent.3 ∙ ap (λ w. numbered w.packets (length w.packets)) sent.2 ∙ numbered_last old.packets (take 256 sent.0) in
          (at, found, sent.0, sent.1, last ∙ ap Some whole)
    ]

-- who takes a packet has its operations
took_packet : (receiver number : ℕ) (old : WorldState) (count : ℕ) (new : WorldState) (ops : List Operation)
    → numbered old.packets number ≡ Some ops
    → AtSite (IsDeliveryOf (numbered old.packets number)) receiver old (Ok (Delivered count)) new
    → (after : SiteState) × (numbered new.sites receiver ≡ Some after) × IsPartOf ops after.journal
took_packet receiver number old count new ops packet h =
    elim (site_cases (IsDeliveryOf (numbered old.packets number)) receiver old (Ok (Delivered count)) new h) [
      | inl refused ↦ let e : Ok (Delivered count) ≡ Err NoSite = refused.1 in cc
      | inr (at, after, found, done, is) ↦
          let delivered : IsDelivery ops at (Ok (Delivered count)) after = subst (λ p. IsDeliveryOf p at (Ok (Delivered count)) after) packet done in (
            after,
            ap (λ w. numbered w.sites receiver) is ∙ numbered-replaced_same old.sites receiver at after found,
            λ op k. ap (λ s. has s.journal op) delivered.0 ∙ has-all_arrived at.journal ops op
                ∙ has-append_right at.journal ops op k,
          )
    ]

same_start : (at mid after : SiteState) → GoesOn at mid → GoesOn mid after → after.start ≡ at.start
    → IsPartOf mid.journal after.journal
same_start at mid after first (inr (same, part)) start = part
same_start at mid after (inl later) (inl latest) start = absurd (omega (arith, later, latest, start))
same_start at mid after (inr (same, part)) (inl latest) start = absurd (omega (arith, same, latest, start))

from_start : (at after : SiteState) → GoesOn at after → after.start ≡ at.start → IsPartOf at.journal after.journal
from_start at after (inl later) start = absurd (omega (arith, later, start))
from_start at after (inr (same, part)) start = part

module _ (A : Type 0) (sites sender receiver number count new : ℕ) (front : Reaches)
    (moment before sent comes delivered last : WorldState) (to from : SiteState) where
  pub passed_on : MayBecome A (new_world sites) moment → numbered moment.sites receiver ≡ Some to
      → IsFront to.journal front
      → MayBecome A moment before → numbered before.sites sender ≡ Some from
      → IsSendAt sender front before (Ok (Packet number count false)) sent
      → MayBecome A sent comes
      → AtSite (IsDeliveryOf (numbered comes.packets number)) receiver comes (Ok (Delivered new)) delivered
      → MayBecome A delivered last
      → IfSome (numbered last.sites receiver) (λ at. at.start ≡ to.start → IsPartOf from.journal at.journal)
  passed_on start found is_front on there sends then takes rest =
      let whole = sent_whole sender front before number count sent sends in
      let packet = run_keeps then.0 then.1 sent comes then.2 number whole.2 whole.4 in
      let took = took_packet receiver number comes new delivered whole.2 packet takes in
      let mid = run_goes_on on.0 on.1 moment before on.2 receiver to found in
      let sending : Event A = Send sender front in
      let in_sent = step_goes_on before sending (Ok (Packet number count false)) sent sends receiver mid.0 mid.1 in
      let in_comes = run_goes_on then.0 then.1 sent comes then.2 receiver in_sent.0 in_sent.1 in
      let delivery : Event A = Deliver number receiver in
      let in_delivered = step_goes_on comes delivery (Ok (Delivered new)) delivered takes receiver in_comes.0 in_comes.1 in
      let in_last = run_goes_on rest.0 rest.1 delivered last rest.2 receiver in_delivered.0 in_delivered.1 in
      let until : GoesOn to in_delivered.0 = goes_on_twice to mid.0 in_delivered.0 mid.2 (goes_on_twice mid.0 in_sent.0 in_delivered.0 in_sent.2 (goes_on_twice in_sent.0 in_comes.0 in_delivered.0 in_comes.2 in_delivered.2)) in
      let run = Run-append start.0 start.1 on.0 on.1 (new_world sites) moment before start.2 on.2 in
      let early = converges sites start.0 start.1 moment start.2 in
      let all = converges sites (start.0 ++ on.0) (start.1 ++ on.1) before run in
      let made_from : (op : Operation) → has from.journal op ≡ true → has (made (start.0 ++ on.0) (start.1 ++ on.1)) op ≡ true =
      (some_if (SiteHolds (λ op. has (made (start.0 ++ on.0) (start.1 ++ on.1)) op ≡ true)) (numbered before.sites sender) from (all.made.sites sender) there).journal in
      let made_to : (op : Operation) → has to.journal op ≡ true → has (made (start.0 ++ on.0) (start.1 ++ on.1)) op ≡ true = λ op k.
      made-append start.0 start.1 on.0 on.1 (new_world sites) moment start.2 op
      ((some_if (SiteHolds (λ o. has (made start.0 start.1) o ≡ true)) (numbered moment.sites receiver) to (early.made.sites receiver) found).journal op k) in
      let apart : NoTwins (map (λ (o : Operation). o.stamp) (made (start.0 ++ on.0) (start.1 ++ on.1))) = subst NoTwins (sym (made_stamps (start.0 ++ on.0) (start.1 ++ on.1) (new_world sites) before run)) all.stamps in
      let is_from : Some whole.0 ≡ Some from = sym whole.1 ∙ there in
      let sender_is : whole.0 ≡ from = cc in
      let lacks : IsMissing from.journal front whole.2 = subst (λ s. IsMissing s.journal front whole.2) sender_is whole.3 in
      let is_took : Some took.0 ≡ Some in_delivered.0 = sym took.1 ∙ in_delivered.1 in
      let taker_is : took.0 ≡ in_delivered.0 = cc in
      subst (λ o. IfSome o (λ at. at.start ≡ to.start → IsPartOf from.journal at.journal)) (sym in_last.1) (λ same op k.
      let later = same_start to in_delivered.0 in_last.0 until in_last.2 same in
      elim (held_or_lacked to.journal from.journal whole.2 front is_front lacks
      (λ o e. made_numbered (start.0 ++ on.0) (start.1 ++ on.1) (new_world sites) before run o (made_from o e))
      (λ o twin e f. one_of_twins (made (start.0 ++ on.0) (start.1 ++ on.1)) o twin apart (made_from o e) (made_to twin f)) op k) [
        | inl held ↦ from_start to in_last.0 (goes_on_twice to in_delivered.0 in_last.0 until in_last.2) same op held
        | inr lacked ↦ later op (ap (λ s. has s.journal op) (sym taker_is) ∙ took.2 op lacked)
      ])
