-- The words of a refusal.
use Rattle.std.specs.Prelude.{ℕ, List, ◌++◌, codes}
use Rattle.std.specs.Fmt.{decimal}
use Rattle.gate_rules.specs.Words.{clause_text, side_name}
use Rattle.ready_core.specs.declared.verdicts.Refusal.{Refusal}
use Rattle.ready_core.specs.declared.verdicts.Refusal.TheVariants.{Own, Cycle, Unknown, Dependency}

-- its first word; of an own condition that is the side
abbrev pub refusal_word : Refusal → List ℕ
refusal_word (Own condition) = side_name condition.side
refusal_word Cycle = codes "cycle"
refusal_word (Unknown number) = codes "unknown"
refusal_word (Dependency number) = codes "dependency"

-- and then the clause, or the change that the item waits for
abbrev pub refusal_text : Refusal → List ℕ
refusal_text (Own condition) = refusal_word (Own condition) ++ codes " " ++ clause_text condition.clause
refusal_text Cycle = refusal_word Cycle
refusal_text (Unknown number) = refusal_word (Unknown number) ++ codes " " ++ decimal number
refusal_text (Dependency number) = refusal_word (Dependency number) ++ codes " " ++ decimal number
