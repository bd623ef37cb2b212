-- Every operation in a world was made by an intake.
use Rattle.std.proofs.Common.{◌≡◌, ℕ, zero, suc, true, List, [], ◌∷◌, ◌++◌, Option, Some, None, Ok, Err, take, map}
use Rattle.std.proofs.Common.{refl, sym, ap, subst, ◌∙◌, inl, inr}
use Rattle.std.specs.Prelude.{IfSome, slice_get, replicate}
use Rattle.std.specs.List.{AllByRecursion}
use Rattle.review_ops.specs.Draft.{deed_of}
use Rattle.review_ops.specs.Deed.{Deed}
use Rattle.review_ops.specs.Operation.{Operation}
use Rattle.review_ops.specs.Timestamp.{Timestamp}
use Rattle.replica_core.specs.Front.{Reaches}
use Rattle.replica_core.specs.Journal.{has, arrived, all_arrived}
use Rattle.replica_core.specs.Missing.{is_past}
use Rattle.world_core.specs.declared.event.Event.{Event}
use Rattle.world_core.specs.declared.event.Event.TheVariants.{Intake, Send, Deliver, Save, Restart}
use Rattle.world_core.specs.declared.event.Reply.TheVariants.{Took, Packet, Delivered, Saved, Restarted}
use Rattle.world_core.specs.declared.event.WorldFault.TheVariants.{StartUsed, ClockSpent, BadBody, NoMemory}
use Rattle.world_core.specs.Convergence.{stamps_answered, made, NoTwins, SiteHolds, WorldHolds}
use Rattle.replica_core.specs.Passing.{AreTwins}
use Rattle.replica_core.specs.JournalLaws.{IsPartOf, has-arrived, has-all_arrived, has-append_cases, has-append_left}
use Rattle.replica_core.specs.JournalLaws.{has-append_right, one_is, filtered, same_operation_cases, has-first}
use Rattle.replica_core.specs.JournalLaws.{has-take}
use Rattle.world_core.specs.Numbered.{numbered, numbered-push}
use Rattle.world_core.specs.Step.{Answer, taken_in, IsIntake, IsSend, IsDelivery, IsDeliveryOf, IsSave, IsRestart, Step}
use Rattle.world_core.specs.Step.{Run}
use Rattle.world_core.specs.World.{SiteState, WorldState, new_site, new_world}
use Rattle.world_core.proofs.Moves.{Does, send_cases, step_moves, step_none, packets_stay}
use Rattle.world_core.proofs.Stamps.{took_next}

-- ---- one operation for each stamp
pub made_stamps : {A : Type 0} (events : List (Event A)) (answers : List Answer) (old new : WorldState)
    → Run old events answers new → map (λ op. op.stamp) (made events answers) ≡ stamps_answered answers
made_stamps [] [] old new h = refl
made_stamps (Intake site draft ∷ events) (Ok (Took stamp) ∷ answers) old new h =
    ap (λ l. stamp ∷ l) (made_stamps events answers h.0 new h.2)
made_stamps (event ∷ events) (Ok (Took stamp) ∷ answers) old new h = absurd (took_next old event stamp h.0 h.1).1
made_stamps (event ∷ events) (answer ∷ answers) old new h = made_stamps events answers h.0 new h.2
made_stamps [] (answer ∷ answers) old new h = absurd h
made_stamps (event ∷ events) [] old new h = absurd h

no_twin_in : (stamp : Timestamp) (ops : List Operation) (op : Operation)
    → AllByRecursion (λ other. ¬ AreTwins stamp other) (map (λ o. o.stamp) ops) → has ops op ≡ true
    → ¬ AreTwins stamp op.stamp
no_twin_in stamp [] op all h = cc
no_twin_in stamp (x ∷ ops) op all h = elim (same_operation_cases x ops op h) [
  | inl same ↦ subst (λ o. ¬ AreTwins stamp o.stamp) same all.0
  | inr later ↦ no_twin_in stamp ops op all.1 later
]

turned : (stamp other : Timestamp) → AreTwins stamp other → AreTwins other stamp
turned stamp other twins = record { site = sym twins.site; start = sym twins.start; seq = sym twins.seq }

-- where no two stamps are twins, an operation has no twin but itself
pub one_of_twins : (ops : List Operation) (op other : Operation) → NoTwins (map (λ o. o.stamp) ops) → has ops op ≡ true
    → has ops other ≡ true → AreTwins op.stamp other.stamp → op ≡ other
one_of_twins [] op other apart h k twins = cc
one_of_twins (x ∷ ops) op other apart h k twins = elim (same_operation_cases x ops op h) [
  | inl first ↦ elim (same_operation_cases x ops other k) [
    | inl second ↦ sym first ∙ second
    | inr later ↦ absurd
        (no_twin_in x.stamp ops other apart.0 later (subst (λ o. AreTwins o.stamp other.stamp) (sym first) twins))
  ]
  | inr later ↦ elim (same_operation_cases x ops other k) [
    | inl second ↦ absurd (no_twin_in x.stamp ops op apart.0 later (turned op.stamp x.stamp (subst (λ o. AreTwins op.stamp o.stamp) (sym second) twins)))
    | inr latest ↦ one_of_twins ops op other apart.1 later latest twins
  ]
]

-- ---- what holds of all that intakes make
pub if_some : {T : Type 0} (Q : T → Type 0) (o : Option T) → ((x : T) → o ≡ Some x → Q x) → IfSome o Q
if_some Q None h = tt
if_some Q (Some x) h = h x refl

pub some_if : {T : Type 0} (Q : T → Type 0) (o : Option T) (x : T) → IfSome o Q → o ≡ Some x → Q x
some_if Q None x h e = cc
some_if Q (Some y) x h e = let same : y ≡ x = cc in subst Q same h

made-cons : {A : Type 0} (event : Event A) (events : List (Event A)) (answer : Answer) (answers : List Answer)
    → made (event ∷ events) (answer ∷ answers) ≡ made (event ∷ []) (answer ∷ []) ++ made events answers
made-cons (Intake site draft) events (Ok (Took stamp)) answers = refl
made-cons event events answer answers = refl

module _ (P : Operation → Type 0) where
  -- P of each of these
  abbrev pub Each : List Operation → Type 0
  Each ops = (op : Operation) → has ops op ≡ true → P op

  each_arrived : (journal : List Operation) (op : Operation) → Each journal → P op → Each (arrived journal op)
  each_arrived journal op all new other h =
      elim (has-append_cases journal (op ∷ []) other (sym (has-arrived journal op other) ∙ h)) [
        | inl was ↦ all other was
        | inr is ↦ subst P (one_is op other is) new
      ]

  each_all_arrived : (journal ops : List Operation) → Each journal → Each ops → Each (all_arrived journal ops)
  each_all_arrived journal ops all new other h = elim (has-append_cases journal ops other (sym (has-all_arrived journal ops other) ∙ h)) [ inl was ↦ all other was | inr is ↦ new other is ]

  each_taken : (n : ℕ) (ops : List Operation) → Each ops → Each (take n ops)
  each_taken n ops all op h = all op (has-take n ops op h)

  holds_as : (at after : SiteState) → after ≡ at → SiteHolds P at → SiteHolds P after
  holds_as at after same all = subst (SiteHolds P) (sym same) all

  intake_holds : (site : ℕ) (deed : Deed) (at : SiteState) (answer : Answer) (after : SiteState)
      → IsIntake site deed at answer after → SiteHolds P at
      → ((stamp : Timestamp) → answer ≡ Ok (Took stamp) → P (taken_in stamp deed)) → SiteHolds P after
  intake_holds site deed at (Ok (Took stamp)) after h all new = holds_as _ after h.3 (record { journal = each_arrived at.journal (taken_in stamp deed) all.journal (new stamp refl); saved = all.saved })
  intake_holds site deed at (Err ClockSpent) after h all new = holds_as at after h.1 all
  intake_holds site deed at (Err (BadBody cause)) after h all new = holds_as at after h.2 all
  intake_holds site deed at (Err (NoMemory taken)) after h all new = holds_as at after h.3 all
  intake_holds site deed at answer after h all new = absurd h

  delivery_holds : (ops : List Operation) (at : SiteState) (answer : Answer) (after : SiteState)
      → IsDelivery ops at answer after → SiteHolds P at → Each ops → SiteHolds P after
  delivery_holds ops at (Ok (Delivered count)) after h all new =
      holds_as _ after h.0 (record { journal = each_all_arrived at.journal ops all.journal new; saved = all.saved })
  delivery_holds ops at (Err (NoMemory taken)) after h all new = holds_as _ after h.1 (record { journal = each_all_arrived at.journal (take taken ops) all.journal (each_taken taken ops new); saved = all.saved })
  delivery_holds ops at answer after h all new = absurd h

  packet_holds : (packet : Option (List Operation)) (at : SiteState) (answer : Answer) (after : SiteState)
      → IsDeliveryOf packet at answer after → SiteHolds P at → IfSome packet Each → SiteHolds P after
  packet_holds None at answer after h all new = holds_as at after h.1 all
  packet_holds (Some ops) at answer after h all new = delivery_holds ops at answer after h all new

  save_holds : (at : SiteState) (answer : Answer) (after : SiteState) → IsSave at answer after → SiteHolds P at
      → SiteHolds P after
  save_holds at (Ok Saved) after h all = holds_as _ after h (record { journal = all.journal; saved = all.journal })
  save_holds at answer after h all = absurd h

  restart_holds : (start : ℕ) (at : SiteState) (answer : Answer) (after : SiteState) → IsRestart start at answer after
      → SiteHolds P at → SiteHolds P after
  restart_holds start at (Ok Restarted) after h all =
      holds_as _ after h.1 (record { journal = all.saved; saved = all.saved })
  restart_holds start at (Err StartUsed) after h all = holds_as at after h.1 all
  restart_holds start at (Err (NoMemory taken)) after h all = holds_as at after h.2 all
  restart_holds start at answer after h all = absurd h

  event_holds : {A : Type 0} (packets : List (List Operation)) (event : Event A) (at : SiteState) (answer : Answer)
      (after : SiteState) → Does packets event at answer after → SiteHolds P at →
      ((packet : ℕ) → IfSome (numbered packets packet) Each) → Each
      (made (event ∷ []) (answer ∷ [])) → SiteHolds P after
  event_holds packets (Intake site draft) at answer after h all packed new =
      intake_holds site (deed_of draft) at answer after h all
      (λ stamp is. new (taken_in stamp (deed_of draft)) (ap (λ a. has (made (Intake site draft ∷ []) (a ∷ [])) (taken_in stamp (deed_of draft))) is ∙ has-first (taken_in stamp (deed_of draft)) []))
  event_holds packets (Send site front) at answer after h all packed new = holds_as at after h all
  event_holds packets (Deliver packet site) at answer after h all packed new =
      packet_holds (numbered packets packet) at answer after h all (packed packet)
  event_holds packets (Save site) at answer after h all packed new = save_holds at answer after h all
  event_holds packets (Restart site start) at answer after h all packed new = restart_holds start at answer after h all

  site_step : {A : Type 0} (old : WorldState) (event : Event A) (answer : Answer) (new : WorldState)
      → Step old event answer new → WorldHolds P old → Each (made (event ∷ []) (answer ∷ []))
      → (site : ℕ) (was : Option SiteState) → numbered old.sites site ≡ was → (at : SiteState)
      → numbered new.sites site ≡ Some at → SiteHolds P at
  site_step old event answer new h all new_ones site None found at is = let none : Some at ≡ None = sym is ∙ step_none old answer new event h site found in cc
  site_step old event answer new h all new_ones site (Some was) found at is =
      let moved = step_moves old answer new event h site was found in
      let known : Some moved.0 ≡ Some at = sym moved.1 ∙ is in
      let same : moved.0 ≡ at = cc in
      let before : SiteHolds P was = some_if (SiteHolds P) (numbered old.sites site) was (all.sites site) found in
      subst (SiteHolds P) same (elim moved.2 [ inl done ↦ event_holds old.packets event was answer moved.0 done.1 before all.packets new_ones | inr other ↦ holds_as was moved.0 other.1 before ])

  -- ---- packets
  added : (packets : List (List Operation)) (ops : List Operation)
      → ((packet : ℕ) → IfSome (numbered packets packet) Each) → Each ops → (packet : ℕ)
      → IfSome (numbered (packets ++ ops ∷ []) packet) Each
  added packets ops all new packet = if_some Each (numbered (packets ++ ops ∷ []) packet) (λ found is. elim (numbered-push packets ops packet found is) [
    | inl was ↦ some_if Each (numbered packets packet) found (all packet) was
    | inr same ↦ subst Each (sym same) new
  ])

  sent_holds : (front : Reaches) (journal : List Operation) (old : WorldState) (answer : Answer) (new : WorldState)
      → IsSend front journal old answer new → Each journal → ((packet : ℕ) → IfSome (numbered old.packets packet) Each)
      → (packet : ℕ) → IfSome (numbered new.packets packet) Each
  sent_holds front journal old (Ok (Packet number count more)) new h all packed packet =
      subst (λ w. IfSome (numbered w.packets packet) Each) (sym h.2)
      (added old.packets (take 256 h.0) packed (each_taken 256 h.0 (λ op k. all op (filtered (is_past front) journal op (sym (h.1.members op) ∙ k)).0)) packet)
  sent_holds front journal old (Err (NoMemory taken)) new h all packed packet =
      subst (λ w. IfSome (numbered w.packets packet) Each) (sym h.1) (packed packet)
  sent_holds front journal old answer new h all packed packet = absurd h

  packets_as : (old new : WorldState) → new.packets ≡ old.packets
      → ((packet : ℕ) → IfSome (numbered old.packets packet) Each) → (packet : ℕ)
      → IfSome (numbered new.packets packet) Each
  packets_as old new same packed packet = subst (λ l. IfSome (numbered l packet) Each) (sym same) (packed packet)

  packet_step : {A : Type 0} (old : WorldState) (event : Event A) (answer : Answer) (new : WorldState)
      → Step old event answer new → WorldHolds P old → (packet : ℕ) → IfSome (numbered new.packets packet) Each
  packet_step old (Intake site draft) answer new h all =
      packets_as old new (packets_stay (IsIntake site (deed_of draft)) site old answer new h) all.packets
  packet_step old (Send site front) answer new h all = elim (send_cases site front old new answer h) [
    | inl same ↦ packets_as old new (ap (λ w. w.packets) same.1) all.packets
    | inr (at, found, sent) ↦ sent_holds front at.journal old answer new sent
        (some_if (SiteHolds P) (numbered old.sites site) at (all.sites site) found).journal all.packets
  ]
  packet_step old (Deliver packet site) answer new h all =
      packets_as old new (packets_stay (IsDeliveryOf (numbered old.packets packet)) site old answer new h) all.packets
  packet_step old (Save site) answer new h all =
      packets_as old new (packets_stay IsSave site old answer new h) all.packets
  packet_step old (Restart site start) answer new h all =
      packets_as old new (packets_stay (IsRestart start) site old answer new h) all.packets

  -- what holds of all that is there, and of all that a run makes, holds of all that is there after it
  pub run_holds : {A : Type 0} (events : List (Event A)) (answers : List Answer) (old new : WorldState)
      → Run old events answers new → WorldHolds P old → Each (made events answers) → WorldHolds P new
  run_holds [] [] old new h all new_ones = subst (WorldHolds P) (sym h) all
  run_holds (event ∷ events) (answer ∷ answers) old new h all new_ones =
      let in_all : IsPartOf (made (event ∷ []) (answer ∷ []) ++ made events answers) (made (event ∷ events) (answer ∷ answers)) = λ op k. ap (λ l. has l op) (made-cons event events answer answers) ∙ k in
      let now : Each (made (event ∷ []) (answer ∷ [])) = λ op k. new_ones op (in_all op (has-append_left (made (event ∷ []) (answer ∷ [])) (made events answers) op k)) in
      let later : Each (made events answers) = λ op k. new_ones op (in_all op (has-append_right (made (event ∷ []) (answer ∷ [])) (made events answers) op k)) in
      run_holds events answers h.0 new h.2 (record {
        sites = λ site. if_some (SiteHolds P) (numbered h.0.sites site)
            (site_step old event answer h.0 h.1 all now site (numbered old.sites site) refl);
        packets = packet_step old event answer h.0 h.1 all;
      }) later
  run_holds [] (answer ∷ answers) old new h all new_ones = absurd h
  run_holds (event ∷ events) [] old new h all new_ones = absurd h

  new_at : (sites : ℕ) (place : ℕ) → IfSome (slice_get (replicate sites new_site) place) (SiteHolds P)
  new_at zero place = tt
  new_at (suc sites) zero = record { journal = λ op h. cc; saved = λ op h. cc }
  new_at (suc sites) (suc place) = new_at sites place

  -- of nothing everything holds
  pub new_holds : (sites : ℕ) → WorldHolds P (new_world sites)
  new_holds sites = record { sites = at_number; packets = no_packet } where
    at_number : (site : ℕ) → IfSome (numbered (replicate sites new_site) site) (SiteHolds P)
    at_number zero = tt
    at_number (suc place) = new_at sites place

    no_packet : (packet : ℕ) → IfSome (numbered [] packet) Each
    no_packet zero = tt
    no_packet (suc place) = tt
