-- Nodes' places, read and changed.
use Rattle.std.proofs.Common.{◌≡◌, ◌≢◌, ◌⊎◌, inl, inr, ◌+◌, ◌<◌, ℕ, List, Bool, true, false, cond, not, sym, ◌∙◌, ap}
use Rattle.std.proofs.Common.{subst, length, set, get_or, rules, arith}
use Rattle.std.specs.List.{count_by}
use Rattle.std.proofs.lemmas.Bool.{cases_eq, cases_lt}
use Rattle.std.proofs.lemmas.List.{get_or-set_same, get_or-set_other, get_or_past, get_or_read}
use Rattle.std.proofs.lemmas.List.Sums.{sum_by-set}
use denote.Enum.Bare.{sameb, same_true, same_false, true_same, false_same, differs_false}
use Rattle.walk_core.specs.contracts.component.Place.{the_type}
use Rattle.walk_core.specs.Components.{place_of, sought_place, found_place}
use Rattle.walk_core.specs.declared.component.Place.{Place}
use Rattle.walk_core.specs.declared.component.Place.TheVariants.{OffCycle}
use Rattle.walk_core.specs.declared.component.Way.{Way}
use Rattle.walk_core.specs.declared.component.Way.TheVariants.{Back, Forth}

module _ (places : List Place) (x : ℕ) (read place : Place) (within : x < length places)
    (is : read ≡ get_or places x read) (equal : Bool) (told : equal ≡ sameb the_type read place) where
  -- what the test of a node's place shows
  pub place_is : equal ≡ true → place_of places x ≡ place
  place_is passed = sym (get_or_read places x read within is OffCycle)
      ∙ same_true the_type (search rules) read place (sym told ∙ passed)

  pub place_is_not : equal ≡ false → place_of places x ≢ place
  place_is_not failed same =
      same_false the_type read place (sym told ∙ failed) (get_or_read places x read within is OffCycle ∙ same)

-- what the test that it is another shows
pub place_is_unless : (places : List Place) (x : ℕ) (read place : Place) → x < length places
    → read ≡ get_or places x read → (differs : Bool) → differs ≡ not (sameb the_type read place)
    → differs ≡ false → place_of places x ≡ place
place_is_unless places x read place within is differs told failed =
    sym (get_or_read places x read within is OffCycle)
    ∙ differs_false the_type (search rules) read place (sym told ∙ failed)

module _ (places : List Place) (node : ℕ) (place : Place) (within : node < length places) where
  -- the node has the place, and each other node its own
  pub place_set : (x : ℕ) → ((x ≡ node) × (place_of (set places node place) x ≡ place))
      ⊎ ((x ≢ node) × (place_of (set places node place) x ≡ place_of places x))
  place_set x = elim (cases_eq x node) [
    | inl same ↦ inl (same, subst (λ y. place_of (set places node place) y ≡ place) (sym same) (get_or-set_same places node place OffCycle within))
    | inr other ↦ inr (other, get_or-set_other places node x place OffCycle other)
  ]

-- a number with another place is a node
pub place_within : (places : List Place) (x : ℕ) (place : Place) → place ≢ OffCycle → place_of places x ≡ place
    → x < length places
place_within places x place other is = elim (cases_lt x (length places)) [
  | inl within ↦ within
  | inr past ↦ absurd (other (sym is ∙ get_or_past places x OffCycle past))
]

-- ---- how many nodes are sought

abbrev pub count_at : Place → List Place → ℕ
count_at sought places = count_by (λ place. sameb the_type place sought) places

pub sought_found : (way : Way) → sought_place way ≢ found_place way
sought_found Back same = cc
sought_found Forth same = cc

-- a node that is found is sought no longer
pub count_at-found : (sought found : Place) (places : List Place) (node : ℕ) → sought ≢ found → node < length places
    → place_of places node ≡ sought
    → count_at sought (set places node found) + 1 ≡ count_at sought places
count_at-found sought found places node differ within is =
    let changed : count_at sought (set places node found) + cond (sameb the_type (place_of places node) sought) 1 0 ≡ count_at sought places + cond (sameb the_type found sought) 1 0 = sum_by-set (λ place. cond (sameb the_type place sought) 1 0) places node found OffCycle within in
    let one : ◌≡◌ {A = ℕ} (cond (sameb the_type (place_of places node) sought) 1 0) 1 = ap {B = ℕ} (λ b. cond b 1 0) (true_same the_type (place_of places node) sought is) in
    let none : ◌≡◌ {A = ℕ} (cond (sameb the_type found sought) 1 0) 0 = ap {B = ℕ} (λ b. cond b 1 0) (false_same the_type (search rules) found sought (λ e. differ (sym e))) in
    omega (arith, changed, one, none)
