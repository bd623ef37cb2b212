-- What is added to a set of texts.
use Rattle.std.specs.Prelude.{◌↔◌, ◌⊎◌, ℕ, List, Contains, map, string_bytes}
use Rattle.std.specs.Prelude.{String}
use Rattle.std.specs.BTreeSet.{BTreeSet}

-- the set has just the texts that it had, and those of which this is so
abbrev pub GainsTexts : {Y : Type 0} → BTreeSet (String Y) → (List ℕ → Type 0) → BTreeSet (String Y) → Type 0
GainsTexts old P new =
    (text : List ℕ) → Contains (map string_bytes new.keys) text ↔ (Contains (map string_bytes old.keys) text ⊎ P text)
