-- A `&` to refusing memory, as a `&` to each of its two fields.
use Rattle.std.proofs.Common.{ℕ, ◌+◌, [], ◌∷◌}
use seplogic.Ra.Ura.{Ura}
use base.Logic.{ent, sep}
use base.Fml.{Lft, Fml}
use prog.Memory.{align, up}
use types.Logic.{Logic, sem}
use types.Kit.{‵, ◌$◌, ◌∵◌, !, qed, move, keep, fsplit, done}
use denote.Builtin.{u64, RefOf}
use denote.Memory.{hidden_shr}
use denote.Opens.{unhide}
use denote.Param.{bounded, param}
use denote.RattleType.{RattleType}
use denote.Signature.{Slot, plain}
use mir.Syntax.{Args, a_type, dnil, dcons}
use Rattle.std.proofs.alloc.Calls.{Al, α, seen}
use Rattle.std.specs.contracts.cell.Cell as Cells
use Rattle.refusing_memory.specs.contracts.refusing.Refusing as Refusings

abbrev pub Count : RattleType
Count = Cells.the_row u64

-- the count at a place: of a cell nothing is known but where it lies
abbrev pub counted : Lft → ℕ × ℕ → Fml
counted κ at = hidden_shr Count κ (record { value = tt }) at.0 at.1

module _ (Z : Al) where
  abbrev pub Whole : RattleType
  Whole = Refusings.the_row (param 0 Z.row)

  -- a method's `self`, and what the method is given for its type parameter
  abbrev pub this : Slot 2
  this = RefOf (0 ∷ []) tt (plain (λ κs. Whole)) (λ κs. tt)

  abbrev pub args : Args
  args = bounded (a_type ∷ []) (Z.row, tt) (dcons Z.d (dcons Z.drops dnil))

  -- where the count lies, and where the memory does
  abbrev pub count_at : ℕ × ℕ → ℕ × ℕ
  count_at p = (p.0, p.1 + up 8 0)

  abbrev pub memory_at : ℕ × ℕ → ℕ × ℕ
  memory_at p = (p.0, p.1 + up (align (α Z)) (up 8 0 + 8))

  module _ {M : Type 1} {𝓤 : Ura M} (𝓛 : Logic 𝓤) (κ : Lft) (p : ℕ × ℕ) (x : Whole.Denot) where
    pub fields : ent 𝓤 (sem 𝓛 (hidden_shr Whole κ x p.0 p.1)) (sep 𝓤 (sem 𝓛 (counted κ (count_at p))) (sem 𝓛 (seen Z κ (memory_at p) x.memory)))
    fields = qed 𝓛 (‵ (hidden_shr Whole κ x p.0 p.1) ∷ []) ∵ unhide ! $ fsplit ! $ fsplit ! $ move ! (1 ∷ []) $ fsplit ! $ keep ! (2 ∷ 0 ∷ []) $ done !
