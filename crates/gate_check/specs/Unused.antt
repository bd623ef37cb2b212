-- Bases of a gate that no footer of a record has. What footers are, and which change one names under a base, is said in
-- footer_text.
use Rattle.std.specs.Prelude.{◌≡◌, ◌⊎◌, ℕ, List, [], ◌∷◌, ◌++◌, codes, flat_map, map}
use Rattle.std.specs.FinMap as finite
use Rattle.change_core.specs.Change.{Change}
use Rattle.change_core.specs.Slots.{Patch}
use Rattle.footer_text.specs.Lines.{IsFooter, lines_of}
use Rattle.footer_text.specs.Readings.{NamesChange, ReadsAs}
use Rattle.review_ops.specs.Timestamp.{Timestamp}
use Rattle.state_core.specs.State.{State}
use Rattle.gate_check.specs.declared.unused.Sought.{Sought}
use Rattle.gate_check.specs.declared.unused.Sought.TheVariants.{Under, Elsewhere}

-- the commit messages of a change's patch sets, and those of a record
abbrev pub messages_of : List (ℕ × (Timestamp × Patch)) → List (List ℕ)
messages_of registers = map (λ register. register.1.1.message) registers

abbrev pub messages_on : ℕ × Change → List (List ℕ)
messages_on change = messages_of (finite.entries change.1.sets)

abbrev pub messages_in : State → List (List ℕ)
messages_in state = flat_map messages_on (finite.entries state)

-- one of these is so
abbrev pub SomeIs : {X : Type 0} → (X → Type 0) → List X → Type 0
SomeIs P [] = ⊥
SomeIs P (x ∷ xs) = P x ⊎ SomeIs P xs

-- the line is a footer whose value is so, and the message has such a line
abbrev pub HasValue : (List ℕ → Type 0) → List ℕ → Type 0
HasValue P line = (value : List ℕ) × IsFooter line value × P value

abbrev pub HasFooter : (List ℕ → Type 0) → List ℕ → Type 0
HasFooter P message = SomeIs (HasValue P) (lines_of message)

-- the value names a change under this base
abbrev pub IsUnder : List ℕ → List ℕ → Type 0
IsUnder base value = (change : ℕ) × ReadsAs base value change

abbrev pub IsUrl : List ℕ → Type 0
IsUrl value = ((rest : List ℕ) × (value ≡ codes "http://" ++ rest)) ⊎ ((rest : List ℕ) × (value ≡ codes "https://" ++ rest))

-- the value is a URL, and names a change under none of the bases
abbrev pub NamesElsewhere : List (List ℕ) → List ℕ → Type 0
NamesElsewhere bases value = IsUrl value × ((change : ℕ) → ¬ NamesChange bases value change)

-- what is looked for among the values of footers
abbrev pub IsSought : Sought → List ℕ → Type 0
IsSought (Under base) value = IsUnder base.now value
IsSought (Elsewhere bases) value = NamesElsewhere bases.now value

-- no footer of the messages names a change under the base, while one has a URL that names none under any base
abbrev pub IsUnusedBase : List (List ℕ) → List (List ℕ) → List ℕ → Type 0
IsUnusedBase bases messages base =
    (¬ SomeIs (HasFooter (IsUnder base)) messages) × SomeIs (HasFooter (NamesElsewhere bases)) messages
