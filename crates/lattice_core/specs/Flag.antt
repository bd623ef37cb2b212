-- Raised marks under `or`: the smallest grow-only set (Shapiro, Preguiça, Baquero and Zawirski, 2011).
use Rattle.std.specs.Prelude.{◌≡◌, Bool, true, false, ◌||◌}
use Rattle.std.proofs.Common.{refl}
use Rattle.lattice_core.specs.Join.{IsJoin}

or_commutes : (a b : Bool) → (a || b) ≡ (b || a)
or_commutes false false = refl
or_commutes false true = refl
or_commutes true false = refl
or_commutes true true = refl

or_associates : (a b c : Bool) → ((a || b) || c) ≡ (a || (b || c))
or_associates false b c = refl
or_associates true b c = refl

or_idempotent : (a : Bool) → (a || a) ≡ a
or_idempotent false = refl
or_idempotent true = refl

pub raised_join : IsJoin ◌||◌
raised_join = record { commutes = or_commutes; associates = or_associates; idempotent = or_idempotent }
