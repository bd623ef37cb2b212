-- Abandoned is less than restored.
use Rattle.std.specs.Prelude.{◌≡◌, ℕ, zero, suc, refl}
use Rattle.std.specs.declared.cmp.Ordering.{Ordering}
use Rattle.std.specs.Ordering.{nat_cmp, on}
use Rattle.lattice_core.specs.Keep.{IsExactOrder, numbers_exact, on_exact}
use Rattle.change_core.specs.declared.life.Life.{Life}
use Rattle.change_core.specs.declared.life.Life.TheVariants.{Abandoned, Restored}

abbrev pub life_rank : Life → ℕ
life_rank Abandoned = 0
life_rank Restored = 1

abbrev pub life_cmp : Life → Life → Ordering
life_cmp = on life_rank nat_cmp

abbrev pub life_at : ℕ → Life
life_at zero = Abandoned
life_at (suc n) = Restored

pub life_at-rank : (life : Life) → life_at (life_rank life) ≡ life
life_at-rank Abandoned = refl
life_at-rank Restored = refl

pub lives_exact : IsExactOrder life_cmp
lives_exact = on_exact life_rank life_at life_at-rank numbers_exact
