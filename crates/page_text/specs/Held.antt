-- The causes that hold up items, as the metrics count them: one of the approvals, or a refusal of another kind. An item
-- that is over isn't held up.
use Rattle.std.specs.Prelude.{ℕ, Bool, true, false, ◌&&◌, ◌==◌, List, ◌++◌, codes, decimal}
use Rattle.gate_rules.specs.Words.{side_name}
use Rattle.gate_rules.specs.declared.condition.Clause.{Clause}
use Rattle.gate_rules.specs.declared.condition.Clause.TheVariants as clause
use Rattle.gate_rules.specs.declared.condition.Condition.{Condition}
use Rattle.ready_core.specs.declared.verdicts.Refusal.{Refusal}
use Rattle.ready_core.specs.declared.verdicts.Refusal.TheVariants as refusal
use Rattle.report_changes.specs.Listing.{same_side}
use Rattle.page_text.specs.declared.held.Held.{Held}
use Rattle.page_text.specs.declared.held.Held.TheVariants.{Approval, Cycle, Unknown, Dependency}

-- the clause is the approval of this number
abbrev pub is_approval : ℕ → Clause → Bool
is_approval number (clause.Approval other) = number == other
is_approval number _ = false

abbrev pub is_held_by : Held → Condition → Bool
is_held_by (Approval side number) condition = same_side side condition.side && is_approval number condition.clause
is_held_by _ condition = false

abbrev pub is_held : Held → Refusal → Bool
is_held held (refusal.Own condition) = is_held_by held condition
is_held Cycle refusal.Cycle = true
is_held Unknown (refusal.Unknown number) = true
is_held Dependency (refusal.Dependency number) = true
is_held _ _ = false

-- `require approval 2`, or the first word of the refusal
abbrev pub held_words : Held → List ℕ
held_words (Approval side number) = side_name side ++ codes " approval " ++ decimal number
held_words Cycle = codes "cycle"
held_words Unknown = codes "unknown"
held_words Dependency = codes "dependency"
