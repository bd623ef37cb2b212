-- What may precede a change's number in a footer's value. The limits are this project's own.
use Rattle.std.specs.Prelude.{◌≡◌, ℕ, ◌≤◌, ◌⊎◌, List, [], ◌∷◌, ◌++◌, length, take, Result, Ok, Err, slice_get, Some}
use Rattle.std.specs.Prelude.{codes}
use Rattle.std.specs.List.{All}
use Rattle.footer_text.specs.declared.bases.BasesFault.{BasesFault}
use Rattle.footer_text.specs.declared.bases.BasesFault.TheVariants.{BadBase, NoMemory}

-- a printable ASCII character that isn't a blank
abbrev pub IsGraphic : ℕ → Type 0
IsGraphic b = (33 ≤ b) × (b ≤ 126)

-- a base has 1 to 256 such characters, the last of which is `/`
pub record IsBase (base : List ℕ) : Type 0 where
  pub short : length base ≤ 256
  pub graphic : All IsGraphic base
  pub slash : (front : List ℕ) × (base ≡ front ++ 47 ∷ [])

-- there are one to eight bases
pub record AreBases (bases : List (List ℕ)) : Type 0 where
  pub some : 1 ≤ length bases
  pub few : length bases ≤ 8
  pub each : All IsBase bases

-- the texts before this place are bases, and at it is none, or one too many; of no texts it is the first place
pub record IsFirstBad (texts : List (List ℕ)) (place : ℕ) : Type 0 where
  pub before : All IsBase (take place texts)
  pub most : place ≤ 8
  pub here : ((texts ≡ []) × (place ≡ 0))
      ⊎ ((text : List ℕ) × (slice_get texts place ≡ Some text) × ((place ≡ 8) ⊎ ¬ (IsBase text)))

-- what each answer of making bases of these texts says
abbrev pub IsBasesAnswer : List (List ℕ) → Result (List (List ℕ)) BasesFault → Type 0
IsBasesAnswer texts (Ok bases) = (bases ≡ texts) × AreBases texts
IsBasesAnswer texts (Err (BadBase place)) = IsFirstBad texts place
IsBasesAnswer texts (Err NoMemory) = AreBases texts

abbrev pub bases_fault_number : BasesFault → ℕ
bases_fault_number (BadBase place) = 1
bases_fault_number NoMemory = 2

abbrev pub bases_fault_name : BasesFault → List ℕ
bases_fault_name (BadBase place) = codes "BadBase"
bases_fault_name NoMemory = codes "NoMemory"
