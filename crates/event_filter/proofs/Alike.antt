-- What is recorded already changes no view.
use Rattle.std.specs.Prelude.{◌≡◌, ◌||◌, ℕ, ℤ, pos, Bool, true, false, cond, Option, None, Some, option_map}
use Rattle.std.specs.Prelude.{if◌then◌else◌}
use Rattle.std.specs.Ordering.{is_lt, ord_max, nat_cmp, eq_by_cmp}
use Rattle.std.specs.FinMap.{empty, get, insert}
use Rattle.std.proofs.Common.{refl, sym, ap, ◌∙◌, subst}
use Rattle.lattice_core.specs.Exact.{same_by_test}
use Rattle.lattice_core.specs.Join.{option_joined}
use Rattle.lattice_core.specs.JoinMap.{joined_to, get-put_joined, map_joined, map_joined-empty}
use Rattle.lattice_core.specs.Keep.{numbers_exact}
use Rattle.review_ops.specs.Deed.{Deed, change_of, patch_set, vote, withdraw, abandon, restore, merged}
use Rattle.review_ops.specs.Operation.{Operation}
use Rattle.review_ops.specs.Timestamp.{Timestamp}
use Rattle.change_core.specs.Slots.{Patch, Slot, slots_exact}
use Rattle.change_core.specs.Change.{Change, change_joined, effect_by, effect_of, life_order, patch_order, vote_order}
use Rattle.change_core.specs.StateLaws.{no_change-joined}
use Rattle.change_core.specs.Views.{status_by}
use Rattle.change_core.specs.declared.life.Life.{Life}
use Rattle.change_core.specs.declared.life.Life.TheVariants as life
use Rattle.change_core.specs.declared.life.Status.{Status}
use Rattle.change_core.specs.declared.life.Status.TheVariants.{New, Abandoned, Merged}
use Rattle.state_core.specs.State.{State, with_effect}
use Rattle.event_filter.specs.Recorded.{change_at, change_or_none, patch_at, score_at, score_by, IsRecorded, LookAlike}
use Rattle.event_filter.specs.Recorded.{HasDeed}
use Rattle.event_filter.proofs.Registers.{none_joined, shown_as_before}

abbrev pub patch_in : Option (Timestamp × Patch) → Option Patch
patch_in = option_map (λ register. register.1)

-- the same commit, under another stamp
patch_stays : (held : Option (Timestamp × Patch)) (stamp : Timestamp) (patch : Patch) → patch_in held ≡ Some patch
    → patch_in (option_joined (ord_max patch_order) held (Some (stamp, patch))) ≡ patch_in held
patch_stays None stamp patch e = sym e
patch_stays (Some r) stamp patch e =
    elim (is_lt (patch_order (stamp, patch) r)) as
    (λ t. patch_in (Some (cond t r (stamp, patch))) ≡ Some r.1) [ true ↦ refl | false ↦ sym e ]

-- the same score, under another stamp
score_stays : (held : Option (Timestamp × ℤ)) (stamp : Timestamp) (value : ℤ) → score_by held ≡ value
    → score_by (option_joined (ord_max vote_order) held (Some (stamp, value))) ≡ score_by held
score_stays None stamp value e = sym e
score_stays (Some r) stamp value e =
    elim (is_lt (vote_order (stamp, value) r)) as
    (λ t. score_by (Some (cond t r (stamp, value))) ≡ r.1) [ true ↦ refl | false ↦ sym e ]

-- the status of these parts
abbrev pub status_in : Bool → Option (Timestamp × Life) → Status
status_in is_merged held = if is_merged then Merged else status_by held

pub not_merged : (b : Bool) → (b || false) ≡ b
not_merged true = refl
not_merged false = refl

-- an operation that is none on the status
pub status_stays : (b : Bool) (held : Option (Timestamp × Life))
    → status_in b held ≡ status_in (b || false) (option_joined (ord_max life_order) held None)
status_stays b held =
    ap (λ x. status_in x held) (sym (not_merged b))
    ∙ ap (status_in (b || false)) (sym (none_joined (ord_max life_order) held))

stays_abandoned : (b : Bool) (held : Option (Timestamp × Life)) (stamp : Timestamp) → status_in b held ≡ Abandoned
    → status_in b held ≡ status_in (b || false) (option_joined (ord_max life_order) held (Some (stamp, life.Abandoned)))
stays_abandoned true held stamp e = refl
stays_abandoned false None stamp e = cc
stays_abandoned false (Some (was, life.Abandoned)) stamp e =
    elim (is_lt (life_order (stamp, life.Abandoned) (was, life.Abandoned))) as (λ t. Abandoned ≡ status_by (Some (cond t (was, life.Abandoned) (stamp, life.Abandoned)))) [ true ↦ refl | false ↦ refl ]
stays_abandoned false (Some (was, life.Restored)) stamp e = cc

stays_new : (b : Bool) (held : Option (Timestamp × Life)) (stamp : Timestamp) → status_in b held ≡ New
    → status_in b held ≡ status_in (b || false) (option_joined (ord_max life_order) held (Some (stamp, life.Restored)))
stays_new true held stamp e = refl
stays_new false None stamp e = refl
stays_new false (Some (was, life.Abandoned)) stamp e = cc
stays_new false (Some (was, life.Restored)) stamp e =
    elim (is_lt (life_order (stamp, life.Restored) (was, life.Restored))) as (λ t. New ≡ status_by (Some (cond t (was, life.Restored) (stamp, life.Restored)))) [ true ↦ refl | false ↦ refl ]

stays_merged : (b : Bool) (held : Option (Timestamp × Life)) → status_in b held ≡ Merged
    → status_in b held ≡ status_in (b || true) (option_joined (ord_max life_order) held None)
stays_merged true held e = refl
stays_merged false held e = e

-- nothing is written to the patch sets, or to the votes
pub patches_stay : (c : Change) (stamp : Timestamp) (deed : Deed) (set : ℕ) → (effect_by stamp deed).sets ≡ empty
    → patch_at c set ≡ patch_at (change_joined c (effect_by stamp deed)) set
patches_stay c stamp deed set e =
    ap (λ m. patch_in (get m set)) (sym (ap (λ n. map_joined (ord_max patch_order) c.sets n) e ∙ map_joined-empty numbers_exact (ord_max patch_order) c.sets))

pub scores_stay : (c : Change) (stamp : Timestamp) (deed : Deed) (slot : Slot) → (effect_by stamp deed).votes ≡ empty
    → score_at c slot ≡ score_at (change_joined c (effect_by stamp deed)) slot
scores_stay c stamp deed slot e =
    ap (λ m. score_by (get m slot)) (sym (ap (λ n. map_joined (ord_max vote_order) c.votes n) e ∙ map_joined-empty slots_exact (ord_max vote_order) c.votes))

-- a score that is recorded
score_alike : (c : Change) (stamp : Timestamp) (slot : Slot) (value : ℤ) → score_at c slot ≡ value → (other : Slot)
    → score_at c other
    ≡ score_by (get (map_joined (ord_max vote_order) c.votes (insert empty slot (stamp, value))) other)
score_alike c stamp slot value e =
    shown_as_before slots_exact (ord_max vote_order) c.votes slot (stamp, value) score_by
    (score_stays (get c.votes slot) stamp value e)

pub alike_after : (c : Change) (stamp : Timestamp) (deed : Deed) → HasDeed c deed
    → LookAlike c (change_joined c (effect_by stamp deed))
alike_after c stamp (patch_set change set message parent) e = record {
  status = status_stays c.merged c.life;
  patches = shown_as_before numbers_exact (ord_max patch_order) c.sets set
      (stamp, record { message = message; parent = parent }) patch_in
      (patch_stays (get c.sets set) stamp (record { message = message; parent = parent }) e);
  scores = λ slot. scores_stay c stamp (patch_set change set message parent) slot refl;
}
alike_after c stamp (vote change set label voter value) e = record {
  status = status_stays c.merged c.life;
  patches = λ number. patches_stay c stamp (vote change set label voter value) number refl;
  scores = score_alike c stamp (record { set = set; label = label; voter = voter }) value e;
}
alike_after c stamp (withdraw change set label voter) e = record {
  status = status_stays c.merged c.life;
  patches = λ number. patches_stay c stamp (withdraw change set label voter) number refl;
  scores = score_alike c stamp (record { set = set; label = label; voter = voter }) (pos 0) e;
}
alike_after c stamp (abandon change) e = record {
  status = stays_abandoned c.merged c.life stamp e;
  patches = λ number. patches_stay c stamp (abandon change) number refl;
  scores = λ slot. scores_stay c stamp (abandon change) slot refl;
}
alike_after c stamp (restore change) e = record {
  status = stays_new c.merged c.life stamp e;
  patches = λ number. patches_stay c stamp (restore change) number refl;
  scores = λ slot. scores_stay c stamp (restore change) slot refl;
}
alike_after c stamp (merged change) e = record {
  status = stays_merged c.merged c.life e;
  patches = λ number. patches_stay c stamp (merged change) number refl;
  scores = λ slot. scores_stay c stamp (merged change) slot refl;
}

-- ---- in a record

joined_in : (found : Option Change) (effect : Change)
    → joined_to change_joined found effect ≡ change_joined (change_or_none found) effect
joined_in None effect = sym (no_change-joined effect)
joined_in (Some change) effect = refl

-- what the record has of a change once an operation is taken in
pub change_after : (state : State) (op : Operation) (number : ℕ)
    → change_at (with_effect state op) number
    ≡ cond (eq_by_cmp nat_cmp number (change_of op.deed))
    (change_joined (change_at state (change_of op.deed)) (effect_of op)) (change_at state number)
change_after state op number =
    ap change_or_none (get-put_joined numbers_exact change_joined state (change_of op.deed) (effect_of op) number)
    ∙ elim (eq_by_cmp nat_cmp number (change_of op.deed)) as (λ t. change_or_none (cond t (Some (joined_to change_joined (get state (change_of op.deed)) (effect_of op))) (get state number)) ≡ cond t (change_joined (change_at state (change_of op.deed)) (effect_of op)) (change_at state number)) [
      | true ↦ joined_in (get state (change_of op.deed)) (effect_of op)
      | false ↦ refl
    ]

same_looks : (c : Change) → LookAlike c c
same_looks c = record { status = refl; patches = λ set. refl; scores = λ slot. refl }

pub said_changes_nothing : (state : State) (op : Operation) → IsRecorded state op.deed → (number : ℕ)
    → LookAlike (change_at state number) (change_at (with_effect state op) number)
said_changes_nothing state op said number =
    subst (LookAlike (change_at state number)) (sym (change_after state op number))
    (elim (eq_by_cmp nat_cmp number (change_of op.deed)) as (λ t. eq_by_cmp nat_cmp number (change_of op.deed) ≡ t → LookAlike (change_at state number) (cond t (change_joined (change_at state (change_of op.deed)) (effect_of op)) (change_at state number))) [
      | true ↦ λ e.
          let is : number ≡ change_of op.deed = same_by_test numbers_exact number (change_of op.deed) e in
          subst (λ n. LookAlike (change_at state n) (change_joined (change_at state (change_of op.deed)) (effect_of op))) (sym is)
          (alike_after (change_at state (change_of op.deed)) op.stamp op.deed said)
      | false ↦ λ e. same_looks (change_at state number)
    ] refl)
