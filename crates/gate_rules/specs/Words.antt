-- The words of a condition: those of its place in a gate file, which are the keys of Zuul's Gerrit driver
-- (zuul-ci.org/docs, "Gerrit", pipeline requirements), and where it is one of several its number.
use Rattle.std.specs.Prelude.{ℕ, List, [], ◌++◌, Option, None, Some, codes}
use Rattle.std.specs.Fmt.{decimal}
use Rattle.gate_rules.specs.declared.condition.Side.{Side}
use Rattle.gate_rules.specs.declared.condition.Side.TheVariants.{Require, Reject}
use Rattle.gate_rules.specs.declared.condition.Clause.{Clause}
use Rattle.gate_rules.specs.declared.condition.Clause.TheVariants.{OpenState, CurrentSet, StatusIn, Approval}

abbrev pub side_name : Side → List ℕ
side_name Require = codes "require"
side_name Reject = codes "reject"

abbrev pub clause_key : Clause → List ℕ
clause_key OpenState = codes "open"
clause_key CurrentSet = codes "current-patchset"
clause_key StatusIn = codes "status"
clause_key (Approval number) = codes "approval"

-- which of the approvals it is, from 1
abbrev pub clause_place : Clause → Option ℕ
clause_place OpenState = None
clause_place CurrentSet = None
clause_place StatusIn = None
clause_place (Approval number) = Some number

abbrev pub clause_place_text : Option ℕ → List ℕ
clause_place_text None = []
clause_place_text (Some number) = codes " " ++ decimal number

-- the key, and for an approval which one it is
abbrev pub clause_text : Clause → List ℕ
clause_text clause = clause_key clause ++ clause_place_text (clause_place clause)
