-- Which refusals say that an item is over: one of a condition that compares the status of its change, or whether it is
-- the current patch set. Such an item takes no part any more; which votes it has doesn't matter.
use Rattle.std.specs.Prelude.{Bool, true, false}
use Rattle.gate_rules.specs.declared.condition.Clause.{Clause}
use Rattle.gate_rules.specs.declared.condition.Clause.TheVariants.{OpenState, CurrentSet, StatusIn, Approval}
use Rattle.ready_core.specs.declared.verdicts.Refusal.{Refusal}
use Rattle.ready_core.specs.declared.verdicts.Refusal.TheVariants.{Own, Cycle, Unknown, Dependency}

abbrev pub ends_it : Clause → Bool
ends_it OpenState = true
ends_it CurrentSet = true
ends_it StatusIn = true
ends_it (Approval number) = false

abbrev pub is_over : Refusal → Bool
is_over (Own condition) = ends_it condition.clause
is_over Cycle = false
is_over (Unknown number) = false
is_over (Dependency number) = false
