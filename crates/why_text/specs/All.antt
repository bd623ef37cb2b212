-- The lines of each condition of a gate, as an item meets or breaks it. The form is the project's own.
use Rattle.std.specs.Prelude.{◌≡◌, List, [], ◌∷◌, ◌++◌, ℕ, Bool, true, false, codes}
use Rattle.byte_ends.specs.Lines.{as_line}
use Rattle.gate_rules.specs.Rules.{GateRules}
use Rattle.gate_rules.specs.Tried.{AreTried}
use Rattle.gate_rules.specs.declared.tried.Tried.{Tried}
use Rattle.ready_core.specs.Words.{refusal_text}
use Rattle.ready_core.specs.declared.verdicts.Refusal.TheVariants.{Own}
use Rattle.state_core.specs.State.{State}
use Rattle.state_core.specs.declared.item.Item.{Item}
use Rattle.why_text.specs.Why.{WritesCondition}

abbrev pub tried_word : Bool → List ℕ
tried_word true = codes "breaks "
tried_word false = codes "meets "

-- the condition, and whether the item breaks it
abbrev pub tried_line : Tried → List ℕ
tried_line tried = as_line (tried_word tried.is_broken ++ refusal_text (Own tried.condition))

-- that line, and then what the gate file asks and what the item's change has
pub record WritesTried (file : List ℕ) (state : State) (item : Item) (tried : Tried) (text : List ℕ) : Type 0 where
  pub details : List ℕ
  pub shown : WritesCondition file state item tried.condition details
  pub lines : text ≡ tried_line tried ++ details

-- the text, or the tokens, are those of each, one after the other
abbrev pub WritesEach : {X Y : Type 0} → (X → List Y → Type 0) → List X → List Y → Type 0
WritesEach Writes [] text = text ≡ []
WritesEach {X} {Y} Writes (x ∷ xs) text =
    (first rest : List Y) × Writes x first × WritesEach Writes xs rest × (text ≡ first ++ rest)

-- all conditions of the gate, in the order in which the item is judged
pub record WritesConditions (file : List ℕ) (gate : GateRules) (state : State) (item : Item) (text : List ℕ)
    : Type 0 where
  pub tried : List Tried
  pub are : AreTried gate state item tried
  pub lines : WritesEach (WritesTried file state item) tried text
