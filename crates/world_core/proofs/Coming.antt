-- Each site's journal is the set of what came to it.
use Rattle.std.proofs.Common.{◌≡◌, ℕ, zero, suc, true, cond, List, [], ◌∷◌, ◌++◌, Option, Some, None, Ok, Err, take}
use Rattle.std.proofs.Common.{refl, sym, ap, subst, ◌∙◌, inl, inr}
use Rattle.std.specs.Prelude.{◌⊎◌, ◌==◌, IfSome, slice_get, replicate, unwrap_or}
use Rattle.std.proofs.lemmas.Bool.{eq-eqb, ne_eqb}
use Rattle.review_ops.specs.Draft.{deed_of}
use Rattle.review_ops.specs.Operation.{Operation}
use Rattle.replica_core.specs.Journal.{has}
use Rattle.state_core.specs.State.{IsJournalState}
use Rattle.state_core.specs.StateLaws.{state_of-IsJournalState}
use Rattle.world_core.specs.declared.event.Event.{Event}
use Rattle.world_core.specs.declared.event.Event.TheVariants.{Intake, Send, Deliver, Save, Restart}
use Rattle.world_core.specs.declared.event.Reply.TheVariants.{Took, Delivered, Saved, Restarted}
use Rattle.world_core.specs.declared.event.WorldFault.TheVariants.{StartUsed, ClockSpent, BadBody, NoMemory}
use Rattle.world_core.specs.Convergence.{site_in, packed, Came, nothing, came_with, came_on, came_to, made, IsWhatCame}
use Rattle.world_core.specs.Convergence.{Agree, Converges}
use Rattle.replica_core.specs.Sets.{IsSameSet, state_of-same}
use Rattle.replica_core.specs.JournalLaws.{IsSameSet-append, has-arrived, has-all_arrived}
use Rattle.world_core.specs.Numbered.{numbered}
use Rattle.world_core.specs.Step.{Answer, taken_in, IsIntake, IsDelivery, IsDeliveryOf, IsSave, IsRestart, Run}
use Rattle.world_core.specs.World.{SiteState, WorldState, new_site, new_world}
use Rattle.world_core.proofs.Moves.{Does, Keeps, step_moves, step_none, step_keeps, run_keeps}
use Rattle.world_core.proofs.Stamps.{run_stamps}
use Rattle.world_core.proofs.Making.{if_some, run_holds, new_holds}

-- the site has what came to it, and has saved what was saved of that
pub record HasCome (came : Came) (at : SiteState) : Type 0 where
  pub here : IsSameSet at.journal came.here
  pub saved : IsSameSet at.saved came.saved

come_as : (came : Came) (at after : SiteState) → after ≡ at → HasCome came at → HasCome came after
come_as came at after same has_come = subst (HasCome came) (sym same) has_come

intake_comes : (A : Type 0) (packets : List (List Operation)) (site : ℕ) (draft : _) (at : SiteState) (answer : Answer)
    (after : SiteState) (came : Came) → IsIntake site
    (deed_of {A = A} draft) at answer after → HasCome came at → HasCome
    (came_with {A = A} packets came (Intake site draft) answer) after
intake_comes A packets site draft at (Ok (Took stamp)) after came h is = come_as _ _ after h.3 (record {
  here = λ op. has-arrived at.journal (taken_in stamp (deed_of draft)) op
      ∙ IsSameSet-append at.journal came.here (taken_in stamp (deed_of draft) ∷ []) is.here op;
  saved = is.saved;
})
intake_comes A packets site draft at (Err ClockSpent) after came h is = come_as came at after h.1 is
intake_comes A packets site draft at (Err (BadBody cause)) after came h is = come_as came at after h.2 is
intake_comes A packets site draft at (Err (NoMemory taken)) after came h is = come_as came at after h.3 is
intake_comes A packets site draft at answer after came h is = absurd h

delivery_comes : (A : Type 0) (packets : List (List Operation)) (packet site : ℕ) (ops : List Operation)
    (at : SiteState) (answer : Answer) (after : SiteState)
    (came : Came) → packed packets packet ≡ ops → IsDelivery ops at answer after → HasCome came at → HasCome
    (came_with {A = A} packets came (Deliver packet site) answer) after
delivery_comes A packets packet site ops at (Ok (Delivered count)) after came same h is =
    come_as _ _ after h.0 (record {
      here = λ op. has-all_arrived at.journal ops op ∙ IsSameSet-append at.journal came.here ops is.here op
          ∙ ap (λ l. has (came.here ++ l) op) (sym same);
      saved = is.saved;
    })
delivery_comes A packets packet site ops at (Err (NoMemory taken)) after came same h is =
    come_as _ _ after h.1 (record {
      here = λ op. has-all_arrived at.journal (take taken ops) op
          ∙ IsSameSet-append at.journal came.here (take taken ops) is.here op
          ∙ ap (λ l. has (came.here ++ take taken l) op) (sym same);
      saved = is.saved;
    })
delivery_comes A packets packet site ops at answer after came same h is = absurd h

packet_comes : (A : Type 0) (packets : List (List Operation)) (packet site : ℕ) (found : Option (List Operation)) (at : SiteState) (answer : Answer) (after : SiteState) (came : Came) → ((ops : List Operation) → found ≡ Some ops → numbered packets packet ≡ Some ops) → IsDeliveryOf found at answer after → HasCome came at → HasCome (came_with {A = A} packets came (Deliver packet site) answer) after
packet_comes A packets packet site None at answer after came keeps h is = subst
    (λ a. HasCome (came_with {A = A} packets came (Deliver packet site) a) after) (sym h.0)
    (come_as came at after h.1 is)
packet_comes A packets packet site (Some ops) at answer after came keeps h is =
    delivery_comes A packets packet site ops at answer after came (ap (λ o. unwrap_or o []) (keeps ops refl)) h is

save_comes : (A : Type 0) (packets : List (List Operation)) (site : ℕ) (at : SiteState) (answer : Answer)
    (after : SiteState) (came : Came) → IsSave at answer after → HasCome came at → HasCome
    (came_with {A = A} packets came (Save site) answer) after
save_comes A packets site at (Ok Saved) after came h is =
    come_as _ _ after h (record { here = is.here; saved = is.here })
save_comes A packets site at answer after came h is = absurd h

restart_comes : (A : Type 0) (packets : List (List Operation)) (site start : ℕ) (at : SiteState) (answer : Answer)
    (after : SiteState) (came : Came) → IsRestart start at answer after → HasCome came at → HasCome
    (came_with {A = A} packets came (Restart site start) answer) after
restart_comes A packets site start at (Ok Restarted) after came h is =
    come_as _ _ after h.1 (record { here = is.saved; saved = is.saved })
restart_comes A packets site start at (Err StartUsed) after came h is = come_as came at after h.1 is
restart_comes A packets site start at (Err (NoMemory taken)) after came h is = come_as came at after h.2 is
restart_comes A packets site start at answer after came h is = absurd h

event_comes : {A : Type 0} (packets later : List (List Operation)) → Keeps packets later
    → (event : Event A) (at : SiteState) (answer : Answer) (after : SiteState) (came : Came)
    → Does packets event at answer after → HasCome came at → HasCome (came_with later came event answer) after
event_comes {A = A} packets later keeps (Intake site draft) at answer after came h is =
    intake_comes A later site draft at answer after came h is
event_comes packets later keeps (Send site front) at answer after came h is = come_as came at after h is
event_comes {A = A} packets later keeps (Deliver packet site) at answer after came h is =
    packet_comes A later packet site (numbered packets packet) at answer after came (λ ops. keeps packet ops) h is
event_comes {A = A} packets later keeps (Save site) at answer after came h is =
    save_comes A later site at answer after came h is
event_comes {A = A} packets later keeps (Restart site start) at answer after came h is =
    restart_comes A later site start at answer after came h is

-- over a run, where these are the packets in the end
pub run_comes : {A : Type 0} (later : List (List Operation)) (events : List (Event A)) (answers : List Answer)
    (old new : WorldState) → Run old events answers new → Keeps new.packets later → (site : ℕ) (at : SiteState)
    (came : Came) → numbered old.sites site ≡ Some at → HasCome came at → (after : SiteState) ×
    (numbered new.sites site ≡ Some after) × HasCome (came_on later site came events answers) after
run_comes later [] [] old new h keeps site at came found is = (at, ap (λ w. numbered w.sites site) h ∙ found, is)
run_comes later (event ∷ events) (answer ∷ answers) old new h keeps site at came found is =
    let moved = step_moves old answer h.0 event h.1 site at found in
    let from_mid : Keeps h.0.packets later = λ n ops e. keeps n ops (run_keeps events answers h.0 new h.2 n ops e) in
    let from_old : Keeps old.packets later = λ n ops e. from_mid n ops (step_keeps old answer h.0 event h.1 n ops e) in
    let stepped : HasCome (cond (site == site_in event) (came_with later came event answer) came) moved.0 = elim moved.2 [
      | inl done ↦ subst (λ t. HasCome (cond t (came_with later came event answer) came) moved.0)
          (sym (eq-eqb site (site_in event) done.0))
          (event_comes old.packets later from_old event at answer moved.0 came done.1 is)
      | inr other ↦ subst (λ t. HasCome (cond t (came_with later came event answer) came) moved.0)
          (sym (ne_eqb site (site_in event) other.0)) (come_as came at moved.0 other.1 is)
    ] in
    run_comes later events answers h.0 new h.2 keeps site moved.0
    (cond (site == site_in event) (came_with later came event answer) came) moved.1 stepped
run_comes later [] (answer ∷ answers) old new h keeps site at came found is = absurd h
run_comes later (event ∷ events) [] old new h keeps site at came found is = absurd h

run_none : {A : Type 0} (events : List (Event A)) (answers : List Answer) (old new : WorldState)
    → Run old events answers new → (site : ℕ) → numbered old.sites site ≡ None → numbered new.sites site ≡ None
run_none [] [] old new h site none = ap (λ w. numbered w.sites site) h ∙ none
run_none (event ∷ events) (answer ∷ answers) old new h site none =
    run_none events answers h.0 new h.2 site (step_none old answer h.0 event h.1 site none)
run_none [] (answer ∷ answers) old new h site none = absurd h
run_none (event ∷ events) [] old new h site none = absurd h

new_at : (sites place : ℕ)
    → (slice_get (replicate sites new_site) place ≡ None) ⊎ (slice_get (replicate sites new_site) place ≡ Some new_site)
new_at zero place = inl refl
new_at (suc sites) zero = inr refl
new_at (suc sites) (suc place) = new_at sites place

new_numbered : (sites site : ℕ)
    → (numbered (replicate sites new_site) site ≡ None) ⊎ (numbered (replicate sites new_site) site ≡ Some new_site)
new_numbered sites zero = inl refl
new_numbered sites (suc place) = new_at sites place

module _ {A : Type 0} (sites : ℕ) (events : List (Event A)) (answers : List Answer) (world : WorldState)
    (h : Run (new_world sites) events answers world) where
  has_come : (site : ℕ) (at : SiteState) → numbered world.sites site ≡ Some at
      → HasCome (came_on world.packets site nothing events answers) at
  has_come site at found = elim (new_numbered sites site) [
    | inl none ↦ let known : Some at ≡ None = sym found ∙ run_none events answers (new_world sites) world h site none in cc
    | inr new ↦
        let came = run_comes world.packets events answers (new_world sites) world h (λ n ops e. e) site new_site nothing new (record { here = λ op. refl; saved = λ op. refl }) in
        let known : Some came.0 ≡ Some at = sym came.1 ∙ found in
        let same : came.0 ≡ at = cc in
        subst (HasCome (came_on world.packets site nothing events answers)) same came.2
  ]

  is_what_came : (site : ℕ) (at : SiteState) → numbered world.sites site ≡ Some at
      → IsWhatCame (came_to world.packets site events answers) at
  is_what_came site at found =
      let same : IsSameSet at.journal (came_to world.packets site events answers) = (has_come site at found).here in
      record {
        journal = same;
        state = subst (IsJournalState (came_to world.packets site events answers))
            (state_of-same (came_to world.packets site events answers) at.journal (λ op. sym (same op)))
            (state_of-IsJournalState (came_to world.packets site events answers));
      }

  agree_at : (site other : ℕ)
      → IsSameSet (came_to world.packets site events answers) (came_to world.packets other events answers)
      → (at beside : SiteState) → numbered world.sites site ≡ Some at → numbered world.sites other ≡ Some beside
      → Agree at beside
  agree_at site other same at beside found there =
      let journals : IsSameSet at.journal beside.journal = λ op. (has_come site at found).here op ∙ same op ∙ sym ((has_come other beside there).here op) in
      (journals, state_of-same at.journal beside.journal journals)

  pub converges : Converges events answers world
  converges = record {
    came = λ site. if_some (IsWhatCame (came_to world.packets site events answers)) (numbered world.sites site)
        (is_what_came site);
    agree =
        λ site other same. if_some (λ at. IfSome (numbered world.sites other) (Agree at)) (numbered world.sites site)
        (λ at found. if_some (Agree at) (numbered world.sites other) (λ beside. agree_at site other same at beside found));
    stamps = run_stamps events answers (new_world sites) world h;
    made = run_holds (λ op. has (made events answers) op ≡ true) events answers (new_world sites) world h
        (new_holds (λ op. has (made events answers) op ≡ true) sites) (λ op k. k);
  }
