-- What a gate file sets. The conditions and their names are those of Zuul's Gerrit driver (zuul-ci.org/docs, "Gerrit").
use Rattle.std.specs.Prelude.{ℕ, ℤ, List, Bool, Option}

-- a label, in lower case, and the values that are accepted
pub record LabelRule : Type 0 where
  pub label : List ℕ
  pub values : List ℤ

-- what an approval must be: by this voter, where one is named, and of each of these labels
pub record PatternRule : Type 0 where
  pub username : Option (List ℕ)
  pub labels : List LabelRule

-- the conditions of a side: those that are absent demand nothing
pub record SideRules : Type 0 where
  pub is_open : Option Bool
  pub is_current : Option Bool
  pub status : Option (List (List ℕ))
  pub approvals : List PatternRule

pub record GateRules : Type 0 where
  pub bases : List (List ℕ)
  pub connection : List ℕ
  pub cycles : Bool
  pub require : SideRules
  pub reject : SideRules
