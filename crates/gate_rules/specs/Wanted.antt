-- What a gate file has at the place of a condition. The conditions are those of Zuul's Gerrit driver (zuul-ci.org/docs,
-- "Gerrit").
use Rattle.std.specs.Prelude.{◌≡◌, ℕ, zero, suc, List, Option, None, option_and_then, option_map, codes, slice_get}
use Rattle.serde_json.specs.Data.{Data, Members}
use Rattle.serde_json.specs.Find.{get_member}
use Rattle.serde_json.specs.Written.{compact_text}
use Rattle.gate_rules.specs.Reading.{connection_of, listed_or_none, object_under}
use Rattle.gate_rules.specs.declared.condition.Side.{Side}
use Rattle.gate_rules.specs.declared.condition.Clause.{Clause}
use Rattle.gate_rules.specs.declared.condition.Clause.TheVariants.{OpenState, CurrentSet, StatusIn, Approval}
use Rattle.gate_rules.specs.declared.condition.Condition.{Condition}
use Rattle.gate_rules.specs.Spelling.{IsObject}
use Rattle.gate_rules.specs.Words.{side_name}

-- the element of a number, from 1
abbrev pub element_of_number : {X : Type 0} → List X → ℕ → Option X
element_of_number xs zero = None
element_of_number xs (suc place) = slice_get xs place

-- a side's conditions are under its key, and there under the connection's name
abbrev pub conditions_at : Side → Members → Option Members
conditions_at side members =
    option_and_then (object_under (connection_of members)) (object_under (side_name side) members)

-- the value under a clause's key; an approval has its number in the list there, and one that is alone the number 1
abbrev pub clause_value : Clause → Members → Option Data
clause_value OpenState conditions = get_member (codes "open") conditions
clause_value CurrentSet conditions = get_member (codes "current-patchset") conditions
clause_value StatusIn conditions = get_member (codes "status") conditions
clause_value (Approval number) conditions = element_of_number (listed_or_none (get_member (codes "approval") conditions)) number

abbrev pub wanted_value : Condition → Members → Option Data
wanted_value condition members = option_and_then (clause_value condition.clause) (conditions_at condition.side members)

-- the text is what a file has there as compact JSON, or there is none where it has nothing
pub record IsWantedText (file : List ℕ) (condition : Condition) (text : Option (List ℕ)) : Type 0 where
  pub members : Members
  pub is_object : IsObject file members
  pub is : text ≡ option_map compact_text (wanted_value condition members)
