-- What a change's registers are for, and what they hold: Gerrit keeps one commit for each patch set, and one score for
-- each patch set, label and voter (Gerrit, "Review Labels").
use Rattle.std.specs.Prelude.{ℕ, Bool, List, Option, refl}
use Rattle.std.specs.declared.cmp.Ordering.{Ordering}
use Rattle.std.specs.Ordering.{nat_cmp, on, eq_by_cmp}
use Rattle.std.specs.Option.{option_cmp}
use Rattle.std.specs.Cmp.Lexicographic.{slice_cmp}
use Rattle.lattice_core.specs.Keep.{IsExactOrder, pair_order, pairs_exact, options_exact, numbers_exact, texts_exact}
use Rattle.lattice_core.specs.Keep.{on_exact}

-- a patch set's commit: its message, and the change of its Git parent, where it names one
pub record Patch : Type 0 where
  pub message : List ℕ
  pub parent : Option ℕ

-- by message, byte by byte, and then by parent; no parent is least
abbrev pub patch_cmp : Patch → Patch → Ordering
patch_cmp = on (λ p. (p.message, p.parent)) (pair_order (slice_cmp nat_cmp) (option_cmp nat_cmp))

pub patches_exact : IsExactOrder patch_cmp
patches_exact = on_exact (λ p. (p.message, p.parent)) (λ p. record { message = p.0; parent = p.1 }) (λ _. refl)
    (pairs_exact texts_exact (options_exact numbers_exact))

-- the slot of a vote
pub record Slot : Type 0 where
  pub set : ℕ
  pub label : List ℕ
  pub voter : List ℕ

-- by patch set, then label, then voter
abbrev pub slot_cmp : Slot → Slot → Ordering
slot_cmp =
    on (λ s. (s.set, (s.label, s.voter))) (pair_order nat_cmp (pair_order (slice_cmp nat_cmp) (slice_cmp nat_cmp)))

pub slots_exact : IsExactOrder slot_cmp
slots_exact = on_exact (λ s. (s.set, (s.label, s.voter))) (λ s. record { set = s.0; label = s.1.0; voter = s.1.1 })
    (λ _. refl) (pairs_exact numbers_exact (pairs_exact texts_exact texts_exact))

-- whether two are one patch set, or one slot
abbrev pub same_set : ℕ → ℕ → Bool
same_set = eq_by_cmp nat_cmp

abbrev pub same_slot : Slot → Slot → Bool
same_slot = eq_by_cmp slot_cmp
