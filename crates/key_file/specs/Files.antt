-- The file of keys: a key a line, `NAME ROLE SECRET`. Lines that are empty or begin with `#` are passed over.
use Rattle.std.specs.Prelude.{◌≡◌, ◌⊎◌, ℕ, ◌+◌, List, [], ◌∷◌, ◌++◌}
use Rattle.std.specs.Prelude.{All, codes, length, take, slice_index}
use Rattle.hex.specs.Hex.{IsBytes, encode_lower}
use Rattle.site_address.specs.Peer.{IsName}
use Rattle.key_file.specs.declared.key.Role.{Role}
use Rattle.key_file.specs.declared.key.Role.TheVariants.{Read, Feed}
use Rattle.key_file.specs.declared.fault.KeyFault.{KeyFault}
use Rattle.key_file.specs.declared.fault.KeyFault.TheVariants.{Open, BadLine, NoKey, ReadFault, NoMemory}

-- what a line says
pub record KeyEntry : Type 0 where
  pub name : List ℕ
  pub role : Role
  pub secret : List ℕ

abbrev pub role_text : Role → List ℕ
role_text Read = codes "read"
role_text Feed = codes "feed"

-- the secret is written in hex, in lower case
abbrev pub entry_text : KeyEntry → List ℕ
entry_text entry = entry.name ++ 32 ∷ role_text entry.role ++ 32 ∷ encode_lower entry.secret

-- a key has a name, and a secret of 32 bytes
pub record IsKeyEntry (entry : KeyEntry) : Type 0 where
  pub name : IsName entry.name
  pub long : length entry.secret ≡ 32
  pub bytes : IsBytes entry.secret

-- the line says this key
pub record SaysKey (line : List ℕ) (entry : KeyEntry) : Type 0 where
  pub good : IsKeyEntry entry
  pub text : line ≡ entry_text entry

-- the line is empty, or begins with `#`
abbrev pub IsPassedOver : List ℕ → Type 0
IsPassedOver line = (line ≡ []) ⊎ (slice_index line 0 ≡ 35)

-- the lines say these keys, in their order
abbrev pub Say : List (List ℕ) → List KeyEntry → Type 0
Say [] keys = keys ≡ []
Say (line ∷ lines) keys =
    (IsPassedOver line × Say lines keys)
    ⊎ ((key : KeyEntry) × (rest : List KeyEntry) × SaysKey line key × (keys ≡ key ∷ rest) × Say lines rest)

-- the line is neither passed over nor says a key
pub record IsBad (line : List ℕ) : Type 0 where
  pub not_passed : ¬ IsPassedOver line
  pub nothing : (key : KeyEntry) → ¬ SaysKey line key

-- the line adds a key, or none
abbrev pub SaysMore : List ℕ → List KeyEntry → List KeyEntry → Type 0
SaysMore line old new = (more : List KeyEntry) × Say (line ∷ []) more × (new ≡ old ++ more)

-- a line is bad, and the lines before it, so many, aren't
pub record IsFirstBadLine (lines : List (List ℕ)) (before : ℕ) : Type 0 where
  pub keys : List KeyEntry
  pub good : Say (take before lines) keys
  pub bad : List ℕ
  pub rest : List (List ℕ)
  pub at : lines ≡ take before lines ++ bad ∷ rest
  pub is_bad : IsBad bad

-- why a text's keys aren't read
abbrev pub AreUnreadKeys : List (List ℕ) → KeyFault → Type 0
AreUnreadKeys lines Open = ⊥
AreUnreadKeys lines (BadLine n) = (before : ℕ) × (n ≡ before + 1) × IsFirstBadLine lines before
AreUnreadKeys lines NoKey = ⊥
AreUnreadKeys lines ReadFault = ⊥
AreUnreadKeys lines NoMemory = Unit {0}

-- the numbers of faults are the project's own
abbrev pub number_of : KeyFault → ℕ
number_of Open = 1
number_of (BadLine n) = 2
number_of NoKey = 3
number_of ReadFault = 4
number_of NoMemory = 5

abbrev pub name_of : KeyFault → List ℕ
name_of Open = codes "Open"
name_of (BadLine n) = codes "BadLine"
name_of NoKey = codes "NoKey"
name_of ReadFault = codes "ReadFault"
name_of NoMemory = codes "NoMemory"

-- the first of a list of which a fact holds
pub record IsFirstKey (P : KeyEntry → Type 0) (keys : List KeyEntry) (found : KeyEntry) : Type 0 where
  pub before : List KeyEntry
  pub after : List KeyEntry
  pub whole : keys ≡ before ++ found ∷ after
  pub none : All (λ key. ¬ P key) before
  pub is : P found
