-- No two stamps of a run are twins: a site's start only rises, and under one start its journal only grows.
use Rattle.std.proofs.Common.{◌≡◌, ◌<◌, ◌≤◌, ◌+◌, ℕ, Bool, true, false, List, [], ◌∷◌, Option, Some, None, Ok, Err}
use Rattle.std.proofs.Common.{take, map, max, fold, cond, refl, sym, ap, ◌∙◌, inl, inr, arith}
use Rattle.std.specs.Prelude.{◌⊎◌, ◌==◌, ◌&&◌, ◌||◌, filter}
use Rattle.std.specs.List.{AllByRecursion}
use Rattle.std.proofs.lemmas.Bool.{eqb-true, eq-eqb}
use Rattle.review_ops.specs.Draft.{deed_of}
use Rattle.review_ops.specs.Deed.{Deed, merged}
use Rattle.review_ops.specs.Operation.{Operation}
use Rattle.review_ops.specs.Timestamp.{Timestamp}
use Rattle.replica_core.specs.Clock.{is_of, greatest, seqs, next_of}
use Rattle.replica_core.specs.Front.{holds}
use Rattle.replica_core.specs.Journal.{has, arrived}
use Rattle.replica_core.specs.InOrder.{same_itself}
use Rattle.world_core.specs.declared.event.Event.{Event}
use Rattle.world_core.specs.declared.event.Event.TheVariants.{Intake, Send, Deliver, Save, Restart}
use Rattle.world_core.specs.declared.event.Reply.TheVariants.{Took, Delivered, Saved, Restarted}
use Rattle.world_core.specs.declared.event.WorldFault.TheVariants.{NoSite, NoPacket, StartUsed, ClockSpent, BadBody}
use Rattle.world_core.specs.declared.event.WorldFault.TheVariants.{NoMemory}
use Rattle.world_core.specs.Convergence.{stamps_answered, NoTwins}
use Rattle.replica_core.specs.Passing.{AreTwins}
use Rattle.replica_core.specs.JournalLaws.{IsPartOf, part_passes, one_passes, kept-arrived, kept-all_arrived}
use Rattle.replica_core.specs.JournalLaws.{has-arrived, has-append_right}
use Rattle.world_core.specs.Numbered.{numbered, numbered-replaced_same}
use Rattle.world_core.specs.Step.{Answer, taken_in, IsIntake, IsSendAt, IsDelivery, IsDeliveryOf, IsSave, IsRestart}
use Rattle.world_core.specs.Step.{AtSite, Step, Run}
use Rattle.world_core.specs.World.{SiteState, WorldState}
use Rattle.world_core.proofs.Moves.{Does, site_cases, send_cases, step_moves}

-- ---- a site that goes on

-- the site runs under a later start, or has what it had under the same one
abbrev pub GoesOn : SiteState → SiteState → Type 0
GoesOn at after = (at.start < after.start) ⊎ ((at.start ≡ after.start) × IsPartOf at.journal after.journal)

stays : (at after : SiteState) → after ≡ at → GoesOn at after
stays at after same = inr (ap (λ s. s.start) (sym same), λ op h. ap (λ s. has s.journal op) same ∙ h)

grows : (at after : SiteState) (journal : List Operation) → IsPartOf at.journal journal
    → after ≡ record at { journal = journal } → GoesOn at after
grows at after journal part is = inr (ap (λ s. s.start) (sym is), λ op h. ap (λ s. has s.journal op) is ∙ part op h)

intake_goes_on : (site : ℕ) (deed : Deed) (at : SiteState) (answer : Answer) (after : SiteState)
    → IsIntake site deed at answer after → GoesOn at after
intake_goes_on site deed at (Ok (Took stamp)) after h =
    grows at after _ (kept-arrived at.journal (taken_in stamp deed)) h.3
intake_goes_on site deed at (Err ClockSpent) after h = stays at after h.1
intake_goes_on site deed at (Err (BadBody cause)) after h = stays at after h.2
intake_goes_on site deed at (Err (NoMemory taken)) after h = stays at after h.3
intake_goes_on site deed at answer after h = absurd h

delivery_goes_on : (ops : List Operation) (at : SiteState) (answer : Answer) (after : SiteState)
    → IsDelivery ops at answer after → GoesOn at after
delivery_goes_on ops at (Ok (Delivered count)) after h = grows at after _ (kept-all_arrived at.journal ops) h.0
delivery_goes_on ops at (Err (NoMemory taken)) after h =
    grows at after _ (kept-all_arrived at.journal (take taken ops)) h.1
delivery_goes_on ops at answer after h = absurd h

packet_goes_on : (packet : Option (List Operation)) (at : SiteState) (answer : Answer) (after : SiteState)
    → IsDeliveryOf packet at answer after → GoesOn at after
packet_goes_on None at answer after h = stays at after h.1
packet_goes_on (Some ops) at answer after h = delivery_goes_on ops at answer after h

save_goes_on : (at : SiteState) (answer : Answer) (after : SiteState) → IsSave at answer after → GoesOn at after
save_goes_on at (Ok Saved) after h = inr (ap (λ s. s.start) (sym h), λ op e. ap (λ s. has s.journal op) h ∙ e)
save_goes_on at answer after h = absurd h

restart_goes_on : (start : ℕ) (at : SiteState) (answer : Answer) (after : SiteState) → IsRestart start at answer after
    → GoesOn at after
restart_goes_on start at (Ok Restarted) after h = inl
    (let is : after.start ≡ start = ap (λ s. s.start) h.1 in omega (arith, h.0, is))
restart_goes_on start at (Err StartUsed) after h = stays at after h.1
restart_goes_on start at (Err (NoMemory taken)) after h = stays at after h.2
restart_goes_on start at answer after h = absurd h

event_goes_on : {A : Type 0} (packets : List (List Operation)) (event : Event A) (at : SiteState) (answer : Answer)
    (after : SiteState) → Does packets event at answer after → GoesOn at after
event_goes_on packets (Intake site draft) at answer after h = intake_goes_on site (deed_of draft) at answer after h
event_goes_on packets (Send site front) at answer after h = stays at after h
event_goes_on packets (Deliver packet site) at answer after h =
    packet_goes_on (numbered packets packet) at answer after h
event_goes_on packets (Save site) at answer after h = save_goes_on at answer after h
event_goes_on packets (Restart site start) at answer after h = restart_goes_on start at answer after h

-- each site goes on at each step
pub step_goes_on : {A : Type 0} (old : WorldState) (event : Event A) (answer : Answer) (new : WorldState)
    → Step old event answer new → (site : ℕ) (at : SiteState) → numbered old.sites site ≡ Some at
    → (after : SiteState) × (numbered new.sites site ≡ Some after) × GoesOn at after
step_goes_on old event answer new h site at found =
    let moved = step_moves old answer new event h site at found in
    (moved.0, moved.1, elim moved.2 [ inl done ↦ event_goes_on old.packets event at answer moved.0 done.1 | inr other ↦ stays at moved.0 other.1 ])

pub goes_on_twice : (at mid after : SiteState) → GoesOn at mid → GoesOn mid after → GoesOn at after
goes_on_twice at mid after (inl later) (inl latest) = inl (omega arith)
goes_on_twice at mid after (inl later) (inr (same, part)) = inl (omega (arith, later, same))
goes_on_twice at mid after (inr (same, part)) (inl later) = inl (omega (arith, later, same))
goes_on_twice at mid after (inr (same, part)) (inr (again, more)) = inr (same ∙ again, λ op h. more op (part op h))

-- and over a run
pub run_goes_on : {A : Type 0} (events : List (Event A)) (answers : List Answer) (old new : WorldState)
    → Run old events answers new → (site : ℕ) (at : SiteState) → numbered old.sites site ≡ Some at
    → (after : SiteState) × (numbered new.sites site ≡ Some after) × GoesOn at after
run_goes_on [] [] old new h site at found = (at, ap (λ w. numbered w.sites site) h ∙ found, stays at at refl)
run_goes_on (event ∷ events) (answer ∷ answers) old new h site at found =
    let one = step_goes_on old event answer h.0 h.1 site at found in
    let rest = run_goes_on events answers h.0 new h.2 site one.0 one.1 in
    (rest.0, rest.1, goes_on_twice at one.0 rest.0 one.2 rest.2)
run_goes_on [] (answer ∷ answers) old new h site at found = absurd h
run_goes_on (event ∷ events) [] old new h site at found = absurd h

-- ---- the next sequence number is above all that are held
no_less : (numbers : List ℕ) (least : ℕ) → least ≤ fold max least numbers
no_less [] least = omega arith
no_less (n ∷ numbers) least = omega (arith, no_less numbers (max least n))

above_row : (site start seq : ℕ) (journal : List Operation) (least : ℕ) → holds journal site start seq ≡ true
    → seq ≤ fold max least (map (λ op. op.stamp.seq) (filter (is_of site start) journal))
above_row site start seq [] least h = cc
above_row site start seq (op ∷ journal) least held =
    elim (is_of site start op) as (λ t. ((t && op.stamp.seq == seq) || holds journal site start seq) ≡ true → seq ≤ fold max least (map (λ op. op.stamp.seq) (cond t (op ∷ filter (is_of site start) journal) (filter (is_of site start) journal)))) [
      | true ↦ λ h. elim (op.stamp.seq == seq) as (λ t. (op.stamp.seq == seq) ≡ t → (t || holds journal site start seq) ≡ true → seq ≤ fold max (max least op.stamp.seq) (map (λ op. op.stamp.seq) (filter (is_of site start) journal))) [
        | true ↦ λ e k. omega (arith, eqb-true op.stamp.seq seq e, no_less (map (λ op. op.stamp.seq) (filter (is_of site start) journal)) (max least op.stamp.seq))
        | false ↦ λ e k. above_row site start seq journal (max least op.stamp.seq) k
      ] refl h
      | false ↦ λ h. above_row site start seq journal least h
    ] held

-- ---- stamps that were answered

-- the site of the stamp runs under a later start, or holds the stamp's number under the stamp's start
abbrev pub StandsAfter : WorldState → Timestamp → Type 0
StandsAfter world stamp = (at : SiteState) × (numbered world.sites stamp.site ≡ Some at) ×
    ((stamp.start < at.start) ⊎ ((stamp.start ≡ at.start) × (holds at.journal stamp.site stamp.start stamp.seq ≡ true)))

still : (stamp : Timestamp) (at after : SiteState) → GoesOn at after → (stamp.start < at.start)
    ⊎ ((stamp.start ≡ at.start) × (holds at.journal stamp.site stamp.start stamp.seq ≡ true))
    → (stamp.start < after.start)
    ⊎ ((stamp.start ≡ after.start) × (holds after.journal stamp.site stamp.start stamp.seq ≡ true))
still stamp at after (inl later) (inl early) = inl (omega arith)
still stamp at after (inl later) (inr (same, held)) = inl (omega (arith, later, same))
still stamp at after (inr (same, part)) (inl early) = inl (omega (arith, early, same))
still stamp at after (inr (same, part)) (inr (is, held)) = inr (is ∙ same, part_passes (λ op. is_of stamp.site stamp.start op && op.stamp.seq == stamp.seq) at.journal after.journal part held)

stands_on : {A : Type 0} (old : WorldState) (event : Event A) (answer : Answer) (new : WorldState) (stamp : Timestamp)
    → Step old event answer new → StandsAfter old stamp → StandsAfter new stamp
stands_on old event answer new stamp h (at, found, stands) =
    let on = step_goes_on old event answer new h stamp.site at found in
    (on.0, on.1, still stamp at on.0 on.2 stands)

-- what an intake answered
pub record WasNext (old : WorldState) (stamp : Timestamp) (new : WorldState) : Type 0 where
  pub at : SiteState
  pub after : SiteState
  pub found : numbered old.sites stamp.site ≡ Some at
  pub next : stamp ≡ next_of at.journal stamp.site at.start
  pub there : numbered new.sites stamp.site ≡ Some after
  pub start : stamp.start ≡ after.start
  pub held : holds after.journal stamp.site stamp.start stamp.seq ≡ true

both : (a b : Bool) → a ≡ true → b ≡ true → (a && b) ≡ true
both true b e f = f
both false b e f = e

in_its_row : (stamp : Timestamp)
    → (is_of stamp.site stamp.start (record { stamp = stamp; deed = merged 0 }) && stamp.seq == stamp.seq) ≡ true
in_its_row stamp = both (stamp.site == stamp.site && stamp.start == stamp.start) (stamp.seq == stamp.seq)
    (both (stamp.site == stamp.site) (stamp.start == stamp.start) (eq-eqb stamp.site stamp.site refl) (eq-eqb stamp.start stamp.start refl)) (eq-eqb stamp.seq stamp.seq refl)

held_now : (journal : List Operation) (stamp : Timestamp) (deed : Deed)
    → holds (arrived journal (taken_in stamp deed)) stamp.site stamp.start stamp.seq ≡ true
held_now journal stamp deed =
    let op : Operation = taken_in stamp deed in
    one_passes (λ o. is_of stamp.site stamp.start o && o.stamp.seq == stamp.seq) (arrived journal op) op
    (has-arrived journal op op ∙ has-append_right journal (op ∷ []) op (ap (λ t. t || false) (same_itself op)))
    (in_its_row stamp)

intake_next : (site : ℕ) (deed : Deed) (old : WorldState) (stamp : Timestamp) (new : WorldState)
    → AtSite (IsIntake site deed) site old (Ok (Took stamp)) new → WasNext old stamp new
intake_next site deed old stamp new h = elim (site_cases (IsIntake site deed) site old (Ok (Took stamp)) new h) [
  | inl refused ↦ let e : Ok (Took stamp) ≡ Err NoSite = refused.1 in cc
  | inr (at, after, found, done, is) ↦
      let same : site ≡ stamp.site = ap (λ (t : Timestamp). t.site) (sym done.2) in
      record {
        at = at;
        after = after;
        found = ap (numbered old.sites) (sym same) ∙ found;
        next = done.2 ∙ ap (λ n. next_of at.journal n at.start) same;
        there = ap (numbered new.sites) (sym same) ∙ ap (λ w. numbered w.sites site) is
            ∙ numbered-replaced_same old.sites site at after found;
        start = ap (λ (t : Timestamp). t.start) done.2 ∙ ap (λ s. s.start) (sym done.3);
        held = ap (λ s. holds s.journal stamp.site stamp.start stamp.seq) done.3 ∙ held_now at.journal stamp deed;
      }
]

-- only intakes answer stamps
abbrev pub IsAnIntake : {A : Type 0} → Event A → Type 0
IsAnIntake (Intake site draft) = Unit {0}
IsAnIntake event = ⊥

no_delivery : (packet : Option (List Operation)) (at : SiteState) (stamp : Timestamp) (after : SiteState)
    → IsDeliveryOf packet at (Ok (Took stamp)) after → ⊥
no_delivery None at stamp after h = let e : Ok (Took stamp) ≡ Err NoPacket = h.0 in cc
no_delivery (Some ops) at stamp after h = h

took_nothing : (does : SiteState → Answer → SiteState → Type 0) (site : ℕ) (old : WorldState) (stamp : Timestamp)
    (new : WorldState) → ((at after : SiteState) → does at (Ok (Took stamp)) after → ⊥) → AtSite does site old
    (Ok (Took stamp)) new → ⊥
took_nothing does site old stamp new never h = elim (site_cases does site old (Ok (Took stamp)) new h) [
  | inl refused ↦ let e : Ok (Took stamp) ≡ Err NoSite = refused.1 in cc
  | inr (at, after, found, done, is) ↦ never at after done
]

sent_nothing : (site : ℕ) (front : _) (old : WorldState) (stamp : Timestamp) (new : WorldState)
    → IsSendAt site front old (Ok (Took stamp)) new → ⊥
sent_nothing site front old stamp new h = elim (send_cases site front old new (Ok (Took stamp)) h) [
  | inl refused ↦ let e : Ok (Took stamp) ≡ Err NoSite = refused.0 in cc
  | inr (at, found, sent) ↦ sent
]

pub took_next : {A : Type 0} (old : WorldState) (event : Event A) (stamp : Timestamp) (new : WorldState)
    → Step old event (Ok (Took stamp)) new → WasNext old stamp new × IsAnIntake event
took_next old (Intake site draft) stamp new h = (intake_next site (deed_of draft) old stamp new h, tt)
took_next old (Send site front) stamp new h = absurd (sent_nothing site front old stamp new h)
took_next old (Deliver packet site) stamp new h = absurd (took_nothing (IsDeliveryOf (numbered old.packets packet)) site old stamp new (λ at after. no_delivery (numbered old.packets packet) at stamp after) h)
took_next old (Save site) stamp new h = absurd (took_nothing IsSave site old stamp new (λ at after no_such. no_such) h)
took_next old (Restart site start) stamp new h =
    absurd (took_nothing (IsRestart start) site old stamp new (λ at after no_such. no_such) h)

-- a stamp that is answered later is no twin of one that was
differs : (old : WorldState) (stamp other : Timestamp) (new : WorldState) → StandsAfter old stamp
    → WasNext old other new → ¬ AreTwins stamp other
differs old stamp other new (at, found, stands) was twins =
    let known : Some at ≡ Some was.at = sym found ∙ ap (numbered old.sites) twins.site ∙ was.found in
    let same : at ≡ was.at = cc in
    let start : other.start ≡ at.start = ap (λ (t : Timestamp). t.start) was.next ∙ ap (λ s. s.start) (sym same) in
    let seq : other.seq ≡ greatest (seqs other.site at.start at.journal) + 1 = ap (λ (t : Timestamp). t.seq) was.next ∙ ap (λ s. greatest (seqs other.site s.start s.journal) + 1) (sym same) in
    elim stands [
      | inl early ↦ let began = twins.start in omega (arith, early, start, began)
      | inr (is, held) ↦
          let here : holds at.journal other.site at.start stamp.seq ≡ true = ap (λ n. holds at.journal n at.start stamp.seq) (sym twins.site) ∙ ap (λ n. holds at.journal stamp.site n stamp.seq) (sym is) ∙ held in
          let below = above_row other.site at.start stamp.seq at.journal 0 here in
          let again = twins.seq in
          omega (arith, below, seq, again)
    ]

answers_differ : {A : Type 0} (stamp : Timestamp) (events : List (Event A)) (answers : List Answer)
    (old new : WorldState) → StandsAfter old stamp → Run old events answers new → AllByRecursion
    (λ other. ¬ AreTwins stamp other) (stamps_answered answers)
answers_differ stamp [] [] old new stands h = tt
answers_differ stamp (event ∷ events) (Ok (Took other) ∷ answers) old new stands h =
    (differs old stamp other h.0 stands (took_next old event other h.0 h.1).0, answers_differ stamp events answers h.0 new (stands_on old event (Ok (Took other)) h.0 stamp h.1 stands) h.2)
answers_differ stamp (event ∷ events) (answer ∷ answers) old new stands h =
    answers_differ stamp events answers h.0 new (stands_on old event answer h.0 stamp h.1 stands) h.2
answers_differ stamp [] (answer ∷ answers) old new stands h = absurd h
answers_differ stamp (event ∷ events) [] old new stands h = tt

pub run_stamps : {A : Type 0} (events : List (Event A)) (answers : List Answer) (old new : WorldState)
    → Run old events answers new → NoTwins (stamps_answered answers)
run_stamps [] [] old new h = tt
run_stamps (event ∷ events) (Ok (Took stamp) ∷ answers) old new h =
    let was = (took_next old event stamp h.0 h.1).0 in
    (answers_differ stamp events answers h.0 new (was.after, was.there, inr (was.start, was.held)) h.2, run_stamps events answers h.0 new h.2)
run_stamps (event ∷ events) (answer ∷ answers) old new h = run_stamps events answers h.0 new h.2
run_stamps [] (answer ∷ answers) old new h = absurd h
run_stamps (event ∷ events) [] old new h = tt
