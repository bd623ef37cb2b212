-- The labels and the voters of a record: those that some vote has, be it withdrawn or not.
use Rattle.std.specs.Prelude.{◌≡◌, ℕ, List, [], ◌∷◌, Bool, map, flat_map}
use Rattle.std.specs.BTreeSet.{insert_key}
use Rattle.std.specs.Cmp.Lexicographic.{slice_cmp}
use Rattle.std.specs.FinMap as finite
use Rattle.std.specs.Ordering.{nat_cmp}
use Rattle.std.specs.Str.{bytes_eq}
use Rattle.change_core.specs.Change.{Change}
use Rattle.change_core.specs.Slots.{Slot}
use Rattle.gate_rules.specs.Own.{some}
use Rattle.state_core.specs.State.{State}

-- the votes on a change, each as a label and a voter on a patch set
abbrev pub slots_on : ℕ × Change → List Slot
slots_on change = map (λ register. register.0) (finite.entries change.1.votes)

-- those on all changes
abbrev pub slots_in : State → List Slot
slots_in state = flat_map slots_on (finite.entries state)

-- texts in byte order, each once, with more of them
abbrev pub with_each : List (List ℕ) → List (List ℕ) → List (List ℕ)
with_each texts [] = texts
with_each texts (text ∷ more) = with_each (insert_key (slice_cmp nat_cmp) texts text) more

-- whether a name is among these
abbrev pub has_known : List (List ℕ) → List ℕ → Bool
has_known names name = some (bytes_eq name) names

-- what is known of a record: its labels and its voters, in byte order, each once
pub record KnownNames : Type 0 where
  pub labels : List (List ℕ)
  pub voters : List (List ℕ)

abbrev pub known_labels : List Slot → List (List ℕ)
known_labels slots = map (λ slot. slot.label) slots

abbrev pub voters_of : List Slot → List (List ℕ)
voters_of slots = map (λ slot. slot.voter) slots

abbrev pub names_in : State → KnownNames
names_in state = record {
  labels = with_each [] (known_labels (slots_in state));
  voters = with_each [] (voters_of (slots_in state));
}

-- texts that are put in order are the same texts
abbrev pub AreTheSameTexts : Type 0
AreTheSameTexts = (texts : List (List ℕ)) (name : List ℕ) → has_known (with_each [] texts) name ≡ has_known texts name
