-- The state of one change: registers and one flag. Its join is the join of each of them.
use Rattle.std.specs.Prelude.{ℤ, pos, Bool, true, false, ◌||◌, Option, None, Some}
use Rattle.std.specs.declared.cmp.Ordering.{Ordering}
use Rattle.std.specs.Ordering.{nat_cmp, int_cmp, ord_max}
use Rattle.std.specs.FinMap as map
use Rattle.lattice_core.specs.Keep.{IsExactOrder, pair_order, pairs_exact, integers_exact, numbers_exact}
use Rattle.lattice_core.specs.Join.{IsJoin, option_joined, options_join}
use Rattle.lattice_core.specs.Flag.{raised_join}
use Rattle.lattice_core.specs.Greatest.{greater_join}
use Rattle.lattice_core.specs.JoinMap.{map_joined, maps_join}
use Rattle.review_ops.specs.Timestamp.{Timestamp, timestamp_cmp, timestamps_exact}
use Rattle.review_ops.specs.Deed.{Deed, patch_set, vote, withdraw, abandon, restore, merged}
use Rattle.review_ops.specs.Operation.{Operation}
use Rattle.change_core.specs.Slots.{Patch, patch_cmp, patches_exact, slot_cmp, slots_exact}
use Rattle.change_core.specs.LifeOrder.{life_cmp, lives_exact}
use Rattle.change_core.specs.declared.life.Life.{Life}
use Rattle.change_core.specs.declared.life.Life.TheVariants.{Abandoned, Restored}

-- ---- a register holds what was written with the stamp of its writing, and stamps decide first
abbrev pub life_order : Timestamp × Life → Timestamp × Life → Ordering
life_order = pair_order timestamp_cmp life_cmp

abbrev pub patch_order : Timestamp × Patch → Timestamp × Patch → Ordering
patch_order = pair_order timestamp_cmp patch_cmp

abbrev pub vote_order : Timestamp × ℤ → Timestamp × ℤ → Ordering
vote_order = pair_order timestamp_cmp int_cmp

pub life_order_exact : IsExactOrder life_order
life_order_exact = pairs_exact timestamps_exact lives_exact

pub patch_order_exact : IsExactOrder patch_order
patch_order_exact = pairs_exact timestamps_exact patches_exact

pub vote_order_exact : IsExactOrder vote_order
vote_order_exact = pairs_exact timestamps_exact integers_exact

-- ---- the state
pub record Change : Type 0 where
  -- whether the change is merged
  pub merged : Bool
  -- the greatest abandon or restore
  pub life : Option (Timestamp × Life)
  -- the register of each patch set
  pub sets : map.FinMap nat_cmp (Timestamp × Patch)
  -- the register of each vote slot; a withdrawn vote is one of 0
  pub votes : map.FinMap slot_cmp (Timestamp × ℤ)

-- the state of no operation
abbrev pub no_change : Change
no_change = record { merged = false; life = None; sets = map.empty; votes = map.empty }

-- what one operation adds: it writes to one register, or merges
abbrev pub effect_by : Timestamp → Deed → Change
effect_by stamp (patch_set change number message parent) = record {
  merged = false;
  life = None;
  sets = map.insert map.empty number (stamp, record { message = message; parent = parent });
  votes = map.empty;
}
effect_by stamp (vote change number label voter value) = record {
  merged = false;
  life = None;
  sets = map.empty;
  votes = map.insert map.empty (record { set = number; label = label; voter = voter }) (stamp, value);
}
effect_by stamp (withdraw change number label voter) = record {
  merged = false;
  life = None;
  sets = map.empty;
  votes = map.insert map.empty (record { set = number; label = label; voter = voter }) (stamp, pos 0);
}
effect_by stamp (abandon change) =
    record { merged = false; life = Some (stamp, Abandoned); sets = map.empty; votes = map.empty }
effect_by stamp (restore change) =
    record { merged = false; life = Some (stamp, Restored); sets = map.empty; votes = map.empty }
effect_by stamp (merged change) = record { merged = true; life = None; sets = map.empty; votes = map.empty }

abbrev pub effect_of : Operation → Change
effect_of op = effect_by op.stamp op.deed

-- ---- the join: part by part
abbrev pub change_joined : Change → Change → Change
change_joined a b = record {
  merged = a.merged || b.merged;
  life = option_joined (ord_max life_order) a.life b.life;
  sets = map_joined (ord_max patch_order) a.sets b.sets;
  votes = map_joined (ord_max vote_order) a.votes b.votes;
}

pub sets_join : IsJoin (map_joined {order = nat_cmp} (ord_max patch_order))
sets_join = maps_join numbers_exact (greater_join patch_order_exact)

pub votes_join : IsJoin (map_joined {order = slot_cmp} (ord_max vote_order))
votes_join = maps_join slots_exact (greater_join vote_order_exact)

pub lives_join : IsJoin (option_joined (ord_max life_order))
lives_join = options_join (greater_join life_order_exact)

pub changes_join : IsJoin change_joined
changes_join = record {
  commutes = λ a b i. record {
    merged = raised_join.commutes a.merged b.merged i;
    life = lives_join.commutes a.life b.life i;
    sets = sets_join.commutes a.sets b.sets i;
    votes = votes_join.commutes a.votes b.votes i;
  };
  associates = λ a b c i. record {
    merged = raised_join.associates a.merged b.merged c.merged i;
    life = lives_join.associates a.life b.life c.life i;
    sets = sets_join.associates a.sets b.sets c.sets i;
    votes = votes_join.associates a.votes b.votes c.votes i;
  };
  idempotent = λ a i. record {
    merged = raised_join.idempotent a.merged i;
    life = lives_join.idempotent a.life i;
    sets = sets_join.idempotent a.sets i;
    votes = votes_join.idempotent a.votes i;
  };
}
