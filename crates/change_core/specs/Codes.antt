-- How a change is stored as a value: as its parts.
use Rattle.std.specs.Prelude.{ℕ, ℤ, Bool, List, Option, refl}
use Rattle.std.specs.Coded.{Coded, code_by, coded×, coded_ℕ, coded_ℤ, coded_bool, coded_list, coded_option}
use Rattle.std.specs.Ordering.{nat_cmp}
use Rattle.std.specs.FinMap as map
use Rattle.review_ops.specs.Timestamp.{Timestamp}
use Rattle.change_core.specs.Slots.{Patch, Slot, slot_cmp}
use Rattle.change_core.specs.LifeOrder.{life_rank, life_at, life_at-rank}
use Rattle.change_core.specs.Change.{Change}
use Rattle.change_core.specs.declared.life.Life.{Life}

abbrev pub timestamp_code : Coded Timestamp
timestamp_code = code_by (ℕ × (ℕ × (ℕ × ℕ))) (coded× coded_ℕ (coded× coded_ℕ (coded× coded_ℕ coded_ℕ)))
    (λ t. (t.time, (t.site, (t.start, t.seq))))
    (λ p. record { time = p.0; site = p.1.0; start = p.1.1.0; seq = p.1.1.1 }) (λ _. refl)

abbrev pub life_code : Coded Life
life_code = code_by ℕ coded_ℕ life_rank life_at life_at-rank

abbrev pub patch_code : Coded Patch
patch_code = code_by (List ℕ × Option ℕ) (coded× (coded_list coded_ℕ) (coded_option coded_ℕ))
    (λ p. (p.message, p.parent)) (λ p. record { message = p.0; parent = p.1 }) (λ _. refl)

abbrev pub slot_code : Coded Slot
slot_code = code_by (ℕ × (List ℕ × List ℕ)) (coded× coded_ℕ (coded× (coded_list coded_ℕ) (coded_list coded_ℕ)))
    (λ s. (s.set, (s.label, s.voter))) (λ p. record { set = p.0; label = p.1.0; voter = p.1.1 }) (λ _. refl)

abbrev pub Parts : Type 0
Parts =
    Bool × (Option (Timestamp × Life) × (map.FinMap nat_cmp (Timestamp × Patch) × map.FinMap slot_cmp (Timestamp × ℤ)))

abbrev pub change_code : Coded Change
change_code =
    code_by Parts
    (coded× coded_bool (coded× (coded_option (coded× timestamp_code life_code))
    (coded× (map.code coded_ℕ (coded× timestamp_code patch_code)) (map.code slot_code (coded× timestamp_code coded_ℤ)))))
    (λ c. (c.merged, (c.life, (c.sets, c.votes))))
    (λ p. record { merged = p.0; life = p.1.0; sets = p.1.1.0; votes = p.1.1.1 }) (λ _. refl)
