-- Which part of its verdicts the text of a report holds.
use Rattle.std.specs.Prelude.{◌<◌, ◌^◌}
use Rattle.std.specs.List.{AllByRecursion}
use Rattle.state_core.specs.declared.item.Item.{Item}
use Rattle.gate_rules.specs.declared.condition.Clause.{Clause}
use Rattle.gate_rules.specs.declared.condition.Clause.TheVariants.{OpenState, CurrentSet, StatusIn, Approval}
use Rattle.ready_core.specs.declared.verdicts.Left.{Left}
use Rattle.ready_core.specs.declared.verdicts.Refusal.{Refusal}
use Rattle.ready_core.specs.declared.verdicts.Refusal.TheVariants.{Own, Cycle, Unknown, Dependency}
use Rattle.ready_core.specs.Verdicts.{Judged}

-- an item that is left out is printed with its refusal, and without its rank
abbrev pub printed : Left → Item × Refusal
printed left = (left.item, left.refusal)

-- ---- every number has at most 64 bits, as those of verdicts have

pub record IsSmallItem (item : Item) : Type 0 where
  pub change : item.change < 2 ^ 64
  pub set : item.set < 2 ^ 64

abbrev pub IsSmallClause : Clause → Type 0
IsSmallClause OpenState = Unit {0}
IsSmallClause CurrentSet = Unit {0}
IsSmallClause StatusIn = Unit {0}
IsSmallClause (Approval number) = number < 2 ^ 64

abbrev pub IsSmallRefusal : Refusal → Type 0
IsSmallRefusal (Own condition) = IsSmallClause condition.clause
IsSmallRefusal Cycle = Unit {0}
IsSmallRefusal (Unknown number) = number < 2 ^ 64
IsSmallRefusal (Dependency number) = number < 2 ^ 64

pub record IsSmallLeft (left : Left) : Type 0 where
  pub item : IsSmallItem left.item
  pub refusal : IsSmallRefusal left.refusal

-- all numbers of the verdicts are below their bounds
pub record AreSmall (verdicts : Judged) : Type 0 where
  pub ready : AllByRecursion IsSmallItem verdicts.ready
  pub out : AllByRecursion IsSmallLeft verdicts.out
