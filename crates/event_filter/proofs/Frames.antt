-- What is written in one place changes nothing in another.
use Rattle.std.specs.Prelude.{◌≡◌, ◌≢◌, ℕ, pos, true, false, cond, IsSome, None, Option, Some}
use Rattle.std.specs.FinMap.{get}
use Rattle.std.proofs.lemmas.Bool.{false≢true}
use Rattle.std.specs.Ordering.{nat_cmp, ord_max, eq_by_cmp}
use Rattle.std.proofs.Common.{refl, sym, ap, ◌∙◌, subst}
use Rattle.lattice_core.specs.Exact.{same_by_test}
use Rattle.lattice_core.specs.Join.{option_joined}
use Rattle.lattice_core.specs.JoinMap.{get-map_joined}
use Rattle.lattice_core.specs.Keep.{numbers_exact}
use Rattle.review_ops.specs.Deed.{Deed, change_of, patch_set, vote, withdraw, abandon, restore, merged}
use Rattle.review_ops.specs.Operation.{Operation}
use Rattle.review_ops.specs.Timestamp.{Timestamp}
use Rattle.change_core.specs.Slots.{Patch, Slot, slots_exact}
use Rattle.change_core.specs.Change.{Change, change_joined, effect_by, effect_of, patch_order, vote_order}
use Rattle.change_core.specs.Views.{IsKnownSet, status_of}
use Rattle.state_core.specs.State.{State, with_effect}
use Rattle.event_filter.specs.Recorded.{change_at, patch_at, score_at, score_by}
use Rattle.event_filter.specs.Truth.{place_written, patch_place, score_place, status_place}
use Rattle.event_filter.proofs.Alike.{change_after, patch_in, patches_stay, scores_stay, status_stays}
use Rattle.event_filter.proofs.Registers.{at_another}

-- ---- in the change that the deed is on

patches_apart : (c : Change) (stamp : Timestamp) (deed : Deed) (set : ℕ) → place_written deed ≢ patch_place (change_of deed) set
    → patch_at (change_joined c (effect_by stamp deed)) set ≡ patch_at c set
patches_apart c stamp (patch_set change number message parent) set apart =
    ap patch_in
    (at_another numbers_exact (ord_max patch_order) c.sets number (stamp, record { message = message; parent = parent }) set
    (λ same. apart (ap (patch_place change) (sym same))))
patches_apart c stamp (vote change number label voter value) set apart =
    sym (patches_stay c stamp (vote change number label voter value) set refl)
patches_apart c stamp (withdraw change number label voter) set apart =
    sym (patches_stay c stamp (withdraw change number label voter) set refl)
patches_apart c stamp (abandon change) set apart = sym (patches_stay c stamp (abandon change) set refl)
patches_apart c stamp (restore change) set apart = sym (patches_stay c stamp (restore change) set refl)
patches_apart c stamp (merged change) set apart = sym (patches_stay c stamp (merged change) set refl)

scores_apart : (c : Change) (stamp : Timestamp) (deed : Deed) (slot : Slot)
    → place_written deed ≢ score_place (change_of deed) slot
    → score_at (change_joined c (effect_by stamp deed)) slot ≡ score_at c slot
scores_apart c stamp (patch_set change number message parent) slot apart =
    sym (scores_stay c stamp (patch_set change number message parent) slot refl)
scores_apart c stamp (vote change number label voter value) slot apart =
    ap score_by
    (at_another slots_exact (ord_max vote_order) c.votes (record { set = number; label = label; voter = voter }) (stamp, value) slot
    (λ same. apart (ap (score_place change) (sym same))))
scores_apart c stamp (withdraw change number label voter) slot apart =
    ap score_by
    (at_another slots_exact (ord_max vote_order) c.votes (record { set = number; label = label; voter = voter }) (stamp, pos 0) slot
    (λ same. apart (ap (score_place change) (sym same))))
scores_apart c stamp (abandon change) slot apart = sym (scores_stay c stamp (abandon change) slot refl)
scores_apart c stamp (restore change) slot apart = sym (scores_stay c stamp (restore change) slot refl)
scores_apart c stamp (merged change) slot apart = sym (scores_stay c stamp (merged change) slot refl)

status_apart : (c : Change) (stamp : Timestamp) (deed : Deed) → place_written deed ≢ status_place (change_of deed)
    → status_of (change_joined c (effect_by stamp deed)) ≡ status_of c
status_apart c stamp (patch_set change number message parent) apart = sym (status_stays c.merged c.life)
status_apart c stamp (vote change number label voter value) apart = sym (status_stays c.merged c.life)
status_apart c stamp (withdraw change number label voter) apart = sym (status_stays c.merged c.life)
status_apart c stamp (abandon change) apart = absurd (apart refl)
status_apart c stamp (restore change) apart = absurd (apart refl)
status_apart c stamp (merged change) apart = absurd (apart refl)

-- ---- in a record

module _ {Y : Type 0} (view : Change → Y) (state : State) (op : Operation) (number : ℕ) where
  pub seen_apart : (number ≡ change_of op.deed
      → view (change_joined (change_at state number) (effect_of op)) ≡ view (change_at state number))
      → view (change_at (with_effect state op) number) ≡ view (change_at state number)
  seen_apart within =
      ap view (change_after state op number)
      ∙ elim (eq_by_cmp nat_cmp number (change_of op.deed)) as (λ t. eq_by_cmp nat_cmp number (change_of op.deed) ≡ t → view (cond t (change_joined (change_at state (change_of op.deed)) (effect_of op)) (change_at state number)) ≡ view (change_at state number)) [
        | true ↦ λ e.
            let is : number ≡ change_of op.deed = same_by_test numbers_exact number (change_of op.deed) e in
            ap (λ n. view (change_joined (change_at state n) (effect_of op))) (sym is) ∙ within is
        | false ↦ λ e. refl
      ] refl

pub patch_stays_apart : (state : State) (op : Operation) (change set : ℕ) → place_written op.deed ≢ patch_place change set
    → patch_at (change_at (with_effect state op) change) set ≡ patch_at (change_at state change) set
patch_stays_apart state op change set apart =
    seen_apart (λ c. patch_at c set) state op change
    (λ is. patches_apart (change_at state change) op.stamp op.deed set
    (subst (λ n. place_written op.deed ≢ patch_place n set) is apart))

pub score_stays_apart : (state : State) (op : Operation) (change : ℕ) (slot : Slot)
    → place_written op.deed ≢ score_place change slot
    → score_at (change_at (with_effect state op) change) slot ≡ score_at (change_at state change) slot
score_stays_apart state op change slot apart =
    seen_apart (λ c. score_at c slot) state op change
    (λ is. scores_apart (change_at state change) op.stamp op.deed slot
    (subst (λ n. place_written op.deed ≢ score_place n slot) is apart))

pub status_stays_apart : (state : State) (op : Operation) (change : ℕ) → place_written op.deed ≢ status_place change
    → status_of (change_at (with_effect state op) change) ≡ status_of (change_at state change)
status_stays_apart state op change apart =
    seen_apart status_of state op change
    (λ is. status_apart (change_at state change) op.stamp op.deed
    (subst (λ n. place_written op.deed ≢ status_place n) is apart))

-- ---- which patch sets are known

some_joined : {T : Type 0} (joined : T → T → T) (o p : Option T) → IsSome o → IsSome (option_joined joined o p)
some_joined joined None p known = absurd (false≢true known)
some_joined joined (Some x) None known = refl
some_joined joined (Some x) (Some y) known = refl

known_joined : (c effect : Change) (set : ℕ) → IsKnownSet c set → IsKnownSet (change_joined c effect) set
known_joined c effect set known =
    subst (λ (held : Option (Timestamp × Patch)). IsSome held) (sym (get-map_joined numbers_exact (ord_max patch_order) c.sets effect.sets set))
    (some_joined (ord_max patch_order) (get c.sets set) (get effect.sets set) known)

-- a patch set that is known stays so
pub known_after : (state : State) (op : Operation) (change set : ℕ) → IsKnownSet (change_at state change) set
    → IsKnownSet (change_at (with_effect state op) change) set
known_after state op change set known =
    subst (λ c. IsKnownSet c set) (sym (change_after state op change))
    (elim (eq_by_cmp nat_cmp change (change_of op.deed)) as (λ t. eq_by_cmp nat_cmp change (change_of op.deed) ≡ t → IsKnownSet (cond t (change_joined (change_at state (change_of op.deed)) (effect_of op)) (change_at state change)) set) [
      | true ↦ λ e.
          known_joined (change_at state (change_of op.deed)) (effect_of op) set
          (subst (λ n. IsKnownSet (change_at state n) set) (same_by_test numbers_exact change (change_of op.deed) e) known)
      | false ↦ λ e. known
    ] refl)
