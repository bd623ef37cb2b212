-- What is taken in above all that was written there is recorded then.
use Rattle.std.specs.Prelude.{◌≡◌, ◌≢◌, ◌||◌, pos, Bool, true, false, cond, Option, None, Some}
use Rattle.std.specs.declared.cmp.Ordering.{Ordering}
use Rattle.std.specs.declared.cmp.Ordering.TheVariants.{Greater}
use Rattle.std.specs.Ordering.{is_lt, ord_max, ordering_reverse, ordering_then}
use Rattle.std.specs.FinMap.{get}
use Rattle.std.proofs.Common.{refl, sym, ap, ◌∙◌, subst}
use Rattle.lattice_core.specs.Exact.{test_of_same}
use Rattle.lattice_core.specs.Join.{option_joined}
use Rattle.lattice_core.specs.Keep.{numbers_exact, pair_order}
use Rattle.review_ops.specs.Deed.{Deed, change_of, patch_set, vote, withdraw, abandon, restore, merged}
use Rattle.review_ops.specs.Operation.{Operation}
use Rattle.review_ops.specs.Timestamp.{Timestamp, timestamp_cmp, timestamps_exact}
use Rattle.change_core.specs.Slots.{slots_exact}
use Rattle.change_core.specs.Change.{Change, change_joined, effect_by, effect_of, life_order, patch_order, vote_order}
use Rattle.change_core.specs.Views.{status_by}
use Rattle.change_core.specs.declared.life.Life.{Life}
use Rattle.change_core.specs.declared.life.Life.TheVariants as life
use Rattle.change_core.specs.declared.life.Status.TheVariants.{Merged}
use Rattle.state_core.specs.State.{State, with_effect}
use Rattle.event_filter.specs.Recorded.{change_at, score_by, IsRecorded, HasDeed}
use Rattle.event_filter.specs.Newest.{CountsFor, IsAbove, IsNewest, IsOpenTo, IsWrittenLast}
use Rattle.event_filter.proofs.Alike.{change_after, patch_in, status_in}
use Rattle.event_filter.proofs.Registers.{at_key}

-- a register that is written last holds what was written
module _ {T : Type 0} (by_value : T → T → Ordering) where
  pub last_wins : (held : Option (Timestamp × T)) (stamp : Timestamp) (value : T) → IsAbove stamp held
      → option_joined (ord_max (pair_order timestamp_cmp by_value)) held (Some (stamp, value)) ≡ Some (stamp, value)
  last_wins None stamp value above = refl
  last_wins (Some r) stamp value above =
      let later : timestamp_cmp stamp r.0 ≡ Greater = timestamps_exact.total.antisymm stamp r.0 ∙ ap ordering_reverse above in
      ap (λ o. Some (cond (is_lt (ordering_then o (by_value value r.1))) r (stamp, value))) later

lives : (b : Bool) (held : Option (Timestamp × Life)) (stamp : Timestamp) (is : Life) → status_in b held ≢ Merged
    → option_joined (ord_max life_order) held (Some (stamp, is)) ≡ Some (stamp, is)
    → status_in (b || false) (option_joined (ord_max life_order) held (Some (stamp, is))) ≡ status_by (Some (stamp, is))
lives true held stamp is counts wins = absurd (counts refl)
lives false held stamp is counts wins = ap status_by wins

merges_it : (b : Bool) (held : Option (Timestamp × Life)) → status_in (b || true) held ≡ Merged
merges_it true held = refl
merges_it false held = refl

records_after : (c : Change) (stamp : Timestamp) (deed : Deed) → IsWrittenLast c stamp deed → CountsFor c deed
    → HasDeed (change_joined c (effect_by stamp deed)) deed
records_after c stamp (patch_set change set message parent) above counts =
    ap patch_in
    (at_key numbers_exact (ord_max patch_order) c.sets set (stamp, record { message = message; parent = parent })
    ∙ last_wins _ (get c.sets set) stamp (record { message = message; parent = parent }) above)
records_after c stamp (vote change set label voter value) above counts =
    ap score_by (at_key slots_exact (ord_max vote_order) c.votes (record { set = set; label = label; voter = voter }) (stamp, value)
    ∙ last_wins _ (get c.votes (record { set = set; label = label; voter = voter })) stamp value above)
records_after c stamp (withdraw change set label voter) above counts =
    ap score_by (at_key slots_exact (ord_max vote_order) c.votes (record { set = set; label = label; voter = voter }) (stamp, pos 0)
    ∙ last_wins _ (get c.votes (record { set = set; label = label; voter = voter })) stamp (pos 0) above)
records_after c stamp (abandon change) above counts =
    lives c.merged c.life stamp life.Abandoned counts (last_wins _ c.life stamp life.Abandoned above)
records_after c stamp (restore change) above counts =
    lives c.merged c.life stamp life.Restored counts (last_wins _ c.life stamp life.Restored above)
records_after c stamp (merged change) above counts = merges_it c.merged (option_joined (ord_max life_order) c.life None)

pub said_after : (state : State) (op : Operation) → IsNewest state op → IsOpenTo state op.deed
    → IsRecorded (with_effect state op) op.deed
said_after state op newest counts =
    subst (λ c. HasDeed c op.deed)
    (sym (change_after state op (change_of op.deed)
    ∙ ap (λ t. cond t (change_joined (change_at state (change_of op.deed)) (effect_of op)) (change_at state (change_of op.deed))) (test_of_same numbers_exact (change_of op.deed))))
    (records_after (change_at state (change_of op.deed)) op.stamp op.deed newest counts)
