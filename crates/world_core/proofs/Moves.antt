-- What a step of the machine does, site by site and packet by packet.
use Rattle.std.proofs.Common.{◌≡◌, ◌≢◌, ℕ, true, false, List, [], ◌∷◌, Some, None, Ok, Err, refl, sym, ap, subst, ◌∙◌}
use Rattle.std.proofs.Common.{inl, inr}
use Rattle.std.specs.Prelude.{◌⊎◌, ◌==◌, MatchOption}
use Rattle.std.proofs.lemmas.Bool.{eqb-true, eqb-false}
use Rattle.review_ops.specs.Draft.{deed_of}
use Rattle.review_ops.specs.Operation.{Operation}
use Rattle.world_core.specs.declared.event.Event.{Event}
use Rattle.world_core.specs.declared.event.Event.TheVariants.{Intake, Send, Deliver, Save, Restart}
use Rattle.world_core.specs.declared.event.Reply.TheVariants.{Packet}
use Rattle.world_core.specs.declared.event.WorldFault.TheVariants.{NoSite, NoMemory}
use Rattle.world_core.specs.Convergence.{site_in}
use Rattle.world_core.specs.Numbered.{numbered, replaced, numbered-replaced, numbered-replaced_same, numbered-append}
use Rattle.world_core.specs.Step.{Answer, IsIntake, IsSend, IsSendAt, IsDeliveryOf, IsSave, IsRestart, AtSite, Step}
use Rattle.world_core.specs.Step.{Run}
use Rattle.world_core.specs.World.{SiteState, WorldState, with_site}

-- the event at its site
abbrev pub Does : {A : Type 0} → List (List Operation) → Event A → SiteState → Answer → SiteState → Type 0
Does packets (Intake site draft) at answer after = IsIntake site (deed_of draft) at answer after
Does packets (Send site front) at answer after = after ≡ at
Does packets (Deliver packet site) at answer after = IsDeliveryOf (numbered packets packet) at answer after
Does packets (Save site) at answer after = IsSave at answer after
Does packets (Restart site start) at answer after = IsRestart start at answer after

-- what a site is after a step: changed by the event where it is the event's, else what it was
abbrev pub Moves : (SiteState → Answer → SiteState → Type 0) → ℕ → ℕ → SiteState → Answer → SiteState → Type 0
Moves does site here at answer after = ((here ≡ site) × does at answer after) ⊎ ((here ≢ site) × (after ≡ at))

module _ (does : SiteState → Answer → SiteState → Type 0) (site : ℕ) (old : WorldState) (answer : Answer)
    (new : WorldState) where
  -- there is no such site, or the site changes
  pub site_cases : AtSite does site old answer new → ((numbered old.sites site ≡ None) × (answer ≡ Err NoSite) × (new ≡ old)) ⊎ ((at : SiteState) × (after : SiteState) × (numbered old.sites site ≡ Some at) × does at answer after × (new ≡ with_site old site after))
  site_cases = elim (numbered old.sites site) as (λ o. numbered old.sites site ≡ o → MatchOption o ((answer ≡ Err NoSite) × (new ≡ old)) (λ at. (after : SiteState) × does at answer after × (new ≡ with_site old site after)) → ((numbered old.sites site ≡ None) × (answer ≡ Err NoSite) × (new ≡ old)) ⊎ ((at : SiteState) × (after : SiteState) × (numbered old.sites site ≡ Some at) × does at answer after × (new ≡ with_site old site after))) [
    | None ↦ λ e h. inl (e, h.0, h.1)
    | Some at ↦ λ e h. inr (at, h.0, e, h.1, h.2)
  ] refl

  none_here : (here : ℕ) (at : SiteState) → numbered old.sites site ≡ None → numbered old.sites here ≡ Some at
      → here ≢ site
  none_here here at none found same = let known : Some at ≡ None = sym found ∙ ap (numbered old.sites) same ∙ none in cc

  pub site_moves : AtSite does site old answer new → (here : ℕ) (at : SiteState) → numbered old.sites here ≡ Some at
      → (after : SiteState) × (numbered new.sites here ≡ Some after) × Moves does site here at answer after
  site_moves h here at found = elim (site_cases h) [
    | inl (none, refused, same) ↦ (at, ap (λ w. numbered w.sites here) same ∙ found, inr (none_here here at none found, refl))
    | inr (was, after, there, done, is) ↦
        elim (here == site) as (λ t. (here == site) ≡ t → (after : SiteState) × (numbered new.sites here ≡ Some after) × Moves does site here at answer after) [
          | true ↦ λ e.
              let same : here ≡ site = eqb-true here site e in
              let known : Some was ≡ Some at = sym there ∙ ap (numbered old.sites) (sym same) ∙ found in
              let is_at : was ≡ at = cc in (
                after,
                ap (λ w. numbered w.sites here) is ∙ ap (numbered (replaced old.sites site after)) same
                    ∙ numbered-replaced_same old.sites site was after there,
                inl (same, subst (λ a. does a answer after) is_at done),
              )
          | false ↦ λ e.
              let apart : here ≢ site = eqb-false here site e in (
                at,
                ap (λ w. numbered w.sites here) is ∙ elim (numbered-replaced old.sites site after here) [ inl kept ↦ kept ∙ found | inr other ↦ absurd (apart other.0) ],
                inr (apart, refl),
              )
        ] refl
  ]

  pub site_none : AtSite does site old answer new → (here : ℕ) → numbered old.sites here ≡ None
      → numbered new.sites here ≡ None
  site_none h here none = elim (site_cases h) [
    | inl (no_site, refused, same) ↦ ap (λ w. numbered w.sites here) same ∙ none
    | inr (was, after, there, done, is) ↦ ap (λ w. numbered w.sites here) is ∙ elim (numbered-replaced old.sites site after here) [
      | inl kept ↦ kept ∙ none
      | inr other ↦ let known : Some was ≡ None = sym there ∙ ap (numbered old.sites) (sym other.0) ∙ none in cc
    ]
  ]

  pub packets_stay : AtSite does site old answer new → new.packets ≡ old.packets
  packets_stay h = elim (site_cases h) [
    | inl (none, refused, same) ↦ ap (λ w. w.packets) same
    | inr (was, after, there, done, is) ↦ ap (λ w. w.packets) is
  ]

-- ---- sending
-- a send that isn't refused adds a packet, else nothing changes
pub send_cases : (site : ℕ) (front : _) (old new : WorldState) (answer : Answer) → IsSendAt site front old answer new
    → ((answer ≡ Err NoSite) × (new ≡ old))
    ⊎ ((at : SiteState) × (numbered old.sites site ≡ Some at) × IsSend front at.journal old answer new)
send_cases site front old new answer = elim (numbered old.sites site) as (λ o. numbered old.sites site ≡ o → MatchOption o ((answer ≡ Err NoSite) × (new ≡ old)) (λ at. IsSend front at.journal old answer new) → ((answer ≡ Err NoSite) × (new ≡ old)) ⊎ ((at : SiteState) × (numbered old.sites site ≡ Some at) × IsSend front at.journal old answer new)) [
  | None ↦ λ e h. inl h
  | Some at ↦ λ e h. inr (at, e, h)
] refl

send_keeps : (front : _) (journal : List Operation) (old new : WorldState) (answer : Answer)
    → IsSend front journal old answer new → new.sites ≡ old.sites
send_keeps front journal old new (Ok (Packet number count more)) h = ap (λ w. w.sites) h.2
send_keeps front journal old new (Err (NoMemory taken)) h = ap (λ w. w.sites) h.1
send_keeps front journal old new answer h = absurd h

pub sites_stay : (site : ℕ) (front : _) (old new : WorldState) (answer : Answer) → IsSendAt site front old answer new
    → new.sites ≡ old.sites
sites_stay site front old new answer h = elim (send_cases site front old new answer h) [
  | inl same ↦ ap (λ w. w.sites) same.1
  | inr (at, found, sent) ↦ send_keeps front at.journal old new answer sent
]

-- ---- any event
module _ {A : Type 0} (old : WorldState) (answer : Answer) (new : WorldState) where
  pub step_moves : (event : Event A) → Step old event answer new → (here : ℕ) (at : SiteState)
      → numbered old.sites here ≡ Some at → (after : SiteState) × (numbered new.sites here ≡ Some after)
      × Moves (Does old.packets event) (site_in event) here at answer after
  step_moves (Intake site draft) h here at found =
      site_moves (IsIntake site (deed_of draft)) site old answer new h here at found
  step_moves (Send site front) h here at found = (
    at,
    ap (λ s. numbered s here) (sites_stay site front old new answer h) ∙ found,
    elim (here == site) as (λ t. (here == site) ≡ t → ((here ≡ site) × (at ≡ at)) ⊎ ((here ≢ site) × (at ≡ at))) [ true ↦ λ e. inl (eqb-true here site e, refl) | false ↦ λ e. inr (eqb-false here site e, refl) ] refl,
  )
  step_moves (Deliver packet site) h here at found =
      site_moves (IsDeliveryOf (numbered old.packets packet)) site old answer new h here at found
  step_moves (Save site) h here at found = site_moves IsSave site old answer new h here at found
  step_moves (Restart site start) h here at found = site_moves (IsRestart start) site old answer new h here at found

  pub step_none : (event : Event A) → Step old event answer new → (here : ℕ) → numbered old.sites here ≡ None
      → numbered new.sites here ≡ None
  step_none (Intake site draft) h here none = site_none (IsIntake site (deed_of draft)) site old answer new h here none
  step_none (Send site front) h here none = ap (λ s. numbered s here) (sites_stay site front old new answer h) ∙ none
  step_none (Deliver packet site) h here none =
      site_none (IsDeliveryOf (numbered old.packets packet)) site old answer new h here none
  step_none (Save site) h here none = site_none IsSave site old answer new h here none
  step_none (Restart site start) h here none = site_none (IsRestart start) site old answer new h here none

-- packets are there for good
abbrev pub Keeps : List (List Operation) → List (List Operation) → Type 0
Keeps packets later =
    (number : ℕ) (ops : List Operation) → numbered packets number ≡ Some ops → numbered later number ≡ Some ops

same_keeps : (packets later : List (List Operation)) → later ≡ packets → Keeps packets later
same_keeps packets later same number ops found = ap (λ p. numbered p number) same ∙ found

send_adds : (front : _) (journal : List Operation) (old new : WorldState) (answer : Answer)
    → IsSend front journal old answer new → Keeps old.packets new.packets
send_adds front journal old new (Ok (Packet count more rest)) h number ops found =
    ap (λ w. numbered w.packets number) h.2 ∙ numbered-append old.packets _ number ops found
send_adds front journal old new (Err (NoMemory taken)) h number ops found =
    same_keeps old.packets new.packets (ap (λ w. w.packets) h.1) number ops found
send_adds front journal old new answer h number ops found = absurd h

pub step_keeps : {A : Type 0} (old : WorldState) (answer : Answer) (new : WorldState) (event : Event A)
    → Step old event answer new → Keeps old.packets new.packets
step_keeps old answer new (Intake site draft) h =
    same_keeps old.packets new.packets (packets_stay (IsIntake site (deed_of draft)) site old answer new h)
step_keeps old answer new (Send site front) h = elim (send_cases site front old new answer h) [
  | inl same ↦ same_keeps old.packets new.packets (ap (λ w. w.packets) same.1)
  | inr (at, found, sent) ↦ send_adds front at.journal old new answer sent
]
step_keeps old answer new (Deliver packet site) h =
    same_keeps old.packets new.packets (packets_stay (IsDeliveryOf (numbered old.packets packet)) site old answer new h)
step_keeps old answer new (Save site) h = same_keeps old.packets new.packets (packets_stay IsSave site old answer new h)
step_keeps old answer new (Restart site start) h =
    same_keeps old.packets new.packets (packets_stay (IsRestart start) site old answer new h)

pub run_keeps : {A : Type 0} (events : List (Event A)) (answers : List Answer) (old new : WorldState)
    → Run old events answers new → Keeps old.packets new.packets
run_keeps [] [] old new h number ops found = same_keeps old.packets new.packets (ap (λ w. w.packets) h) number ops found
run_keeps (event ∷ events) (answer ∷ answers) old new h number ops found =
    run_keeps events answers h.0 new h.2 number ops (step_keeps old answer h.0 event h.1 number ops found)
run_keeps [] (answer ∷ answers) old new h number ops found = absurd h
run_keeps (event ∷ events) [] old new h number ops found = absurd h
