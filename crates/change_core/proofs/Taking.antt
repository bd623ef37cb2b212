-- What joining the effect of an operation does to each part of a change.
use Rattle.std.proofs.Common.{◌≡◌, ℕ, ℤ, pos, Bool, true, false, ◌||◌, List, Option, None, Some, refl, sym, ap, ap₂}
use Rattle.std.proofs.Common.{◌∙◌}
use Rattle.std.specs.Ordering.{nat_cmp, ord_max}
use Rattle.std.specs.FinMap as map
use Rattle.std.specs.Option.{option_map}
use Rattle.lattice_core.specs.Keep.{numbers_exact}
use Rattle.lattice_core.specs.Join.{option_joined}
use Rattle.lattice_core.specs.JoinMap.{put_joined, map_joined-empty, map_joined-singleton}
use Rattle.review_ops.specs.Timestamp.{Timestamp}
use Rattle.review_ops.specs.Deed.{Deed, patch_set, vote, withdraw, abandon, restore, merged}
use Rattle.review_ops.specs.Operation.{Operation}
use Rattle.change_core.specs.Slots.{Patch, Slot, slot_cmp, slots_exact}
use Rattle.change_core.specs.Change.{Change, effect_by, effect_of, change_joined, life_order, patch_order, vote_order}
use Rattle.change_core.specs.declared.life.Life.{Life}
use Rattle.change_core.specs.declared.life.Life.TheVariants.{Abandoned, Restored}

or-false : (b : Bool) → (b || false) ≡ b
or-false true = refl
or-false false = refl

kept_life : (life : Option (Timestamp × Life)) → option_joined (ord_max life_order) life None ≡ life
kept_life None = refl
kept_life (Some r) = refl

-- a register's pair is its own shape
pub same_pair : (life : Option (Timestamp × Life)) → option_map (λ r. (r.0, r.1)) life ≡ life
same_pair None = refl
same_pair (Some r) = refl

-- the join of two such registers, by their shapes
pub lives_joined : (new old other : Option (Timestamp × Life)) (written : Timestamp × Life) → option_map
    (λ r. (r.0, r.1)) new ≡ option_joined (ord_max life_order) (option_map (λ r. (r.0, r.1)) old)
    (option_map (λ r. (r.0, r.1)) other) → other ≡ Some written → new ≡ option_joined (ord_max life_order) old
    (Some written)
lives_joined new old other written e is =
    sym (same_pair new) ∙ e ∙ ap₂ (option_joined (ord_max life_order)) (same_pair old) (same_pair other ∙ is)

-- what leads from a change as its parts show it to the change that a call has, and from an operation's fields to the
-- operation
pub joined_alike : (new view old : Change) (stamp : Timestamp) (deed : Deed) (op : Operation)
    → new ≡ change_joined view (effect_by stamp deed) → view ≡ old → stamp ≡ op.stamp → deed ≡ op.deed
    → new ≡ change_joined old (effect_of op)
joined_alike new view old stamp deed op is same_change same_stamp same_deed =
    is ∙ ap (λ c. change_joined c (effect_by stamp deed)) same_change
    ∙ ap₂ (λ s d. change_joined old (effect_by s d)) same_stamp same_deed

module _ (view : Change) (stamp : Timestamp) where
  pub joined_set : (change number : ℕ) (message : List ℕ) (parent : Option ℕ)
      (sets : map.FinMap nat_cmp (Timestamp × Patch)) → sets ≡ put_joined (ord_max patch_order) view.sets number
      (stamp, record { message = message; parent = parent }) → record view { sets = sets } ≡ change_joined view
      (effect_by stamp (patch_set change number message parent))
  joined_set change number message parent sets is =
      let merges = sym (or-false view.merged) in
      let life = sym (kept_life view.life) in
      let set_is = is ∙ sym (map_joined-singleton numbers_exact (ord_max patch_order) view.sets number _) in
      let votes = sym (map_joined-empty slots_exact (ord_max vote_order) view.votes) in
      λ i. record { merged = merges i; life = life i; sets = set_is i; votes = votes i }

  pub joined_vote : (change : ℕ) (slot : Slot) (value : ℤ)
      (votes : map.FinMap slot_cmp (Timestamp × ℤ)) → votes ≡ put_joined (ord_max vote_order) view.votes slot
      (stamp, value) → record view { votes = votes } ≡ change_joined view
      (effect_by stamp (vote change slot.set slot.label slot.voter value))
  joined_vote change slot value votes is =
      let merges = sym (or-false view.merged) in
      let life = sym (kept_life view.life) in
      let sets = sym (map_joined-empty numbers_exact (ord_max patch_order) view.sets) in
      let vote_is = is ∙ sym (map_joined-singleton slots_exact (ord_max vote_order) view.votes slot _) in
      λ i. record { merged = merges i; life = life i; sets = sets i; votes = vote_is i }

  pub joined_withdrawal : (change : ℕ) (slot : Slot) (votes : map.FinMap slot_cmp (Timestamp × ℤ)) → votes ≡ put_joined
      (ord_max vote_order) view.votes slot (stamp, pos 0) → record view { votes = votes } ≡ change_joined view
      (effect_by stamp (withdraw change slot.set slot.label slot.voter))
  joined_withdrawal change slot votes is = joined_vote change slot (pos 0) votes is

  pub joined_abandon : (change : ℕ) (life : Option (Timestamp × Life))
      → life ≡ option_joined (ord_max life_order) view.life (Some (stamp, Abandoned))
      → record view { life = life } ≡ change_joined view (effect_by stamp (abandon change))
  joined_abandon change life is =
      let merges = sym (or-false view.merged) in
      let sets = sym (map_joined-empty numbers_exact (ord_max patch_order) view.sets) in
      let votes = sym (map_joined-empty slots_exact (ord_max vote_order) view.votes) in
      λ i. record { merged = merges i; life = is i; sets = sets i; votes = votes i }

  pub joined_restore : (change : ℕ) (life : Option (Timestamp × Life))
      → life ≡ option_joined (ord_max life_order) view.life (Some (stamp, Restored))
      → record view { life = life } ≡ change_joined view (effect_by stamp (restore change))
  joined_restore change life is =
      let merges = sym (or-false view.merged) in
      let sets = sym (map_joined-empty numbers_exact (ord_max patch_order) view.sets) in
      let votes = sym (map_joined-empty slots_exact (ord_max vote_order) view.votes) in
      λ i. record { merged = merges i; life = is i; sets = sets i; votes = votes i }

  pub joined_merge : (change : ℕ) (merges : Bool) → merges ≡ (view.merged || true)
      → record view { merged = merges } ≡ change_joined view (effect_by stamp (merged change))
  joined_merge change merges is =
      let life = sym (kept_life view.life) in
      let sets = sym (map_joined-empty numbers_exact (ord_max patch_order) view.sets) in
      let votes = sym (map_joined-empty slots_exact (ord_max vote_order) view.votes) in
      λ i. record { merged = is i; life = life i; sets = sets i; votes = votes i }
