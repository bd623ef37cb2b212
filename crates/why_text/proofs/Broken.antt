-- A condition that is broken is in the gate file.
use Rattle.std.proofs.Common.{◌≡◌, ◌≤◌, ℕ, List, [], ◌∷◌, length, Bool, Option, None, Some, zero, suc, refl}
use Rattle.std.proofs.Common.{sym, ◌∙◌, subst, arith}
use Rattle.std.specs.Prelude.{codes, option_and_then, option_map, slice_get, unwrap_or, filter_map}
use Rattle.std.specs.List.{cons_option}
use Rattle.std.proofs.lemmas.Option.{slice_get_within}
use Rattle.lattice_core.specs.PlaceLaws.{at_below}
use Rattle.serde_json.specs.Data.{Data, Members, no_members, object}
use Rattle.serde_json.specs.Find.{as_bool, as_object, get_member}
use Rattle.serde_json.specs.Read.{read}
use Rattle.gate_rules.specs.Own.{IsBroken, ItemStanding, breaking, compared, side_rules}
use Rattle.gate_rules.specs.Reading.{conditions_of, flag_under, gate_of, listed, listed_or_none, pattern_of}
use Rattle.gate_rules.specs.Reading.{patterns_of, texts_of}
use Rattle.gate_rules.specs.Rules.{GateRules, PatternRule}
use Rattle.gate_rules.specs.Spelling.{IsObject, SpellsGate}
use Rattle.gate_rules.specs.declared.condition.Side.{Side}
use Rattle.gate_rules.specs.declared.condition.Side.TheVariants.{Require, Reject}
use Rattle.gate_rules.specs.declared.condition.Clause.{Clause}
use Rattle.gate_rules.specs.declared.condition.Clause.TheVariants.{OpenState, CurrentSet, StatusIn, Approval}
use Rattle.gate_rules.specs.declared.condition.Condition.{Condition}
use Rattle.gate_rules.specs.Wanted.{clause_value, conditions_at, wanted_value}

-- ---- what is made of something was there
mapped_there : {A B : Type 0} (f : A → B) (o : Option A) (y : B) → option_map f o ≡ Some y → (x : A) × (o ≡ Some x)
mapped_there f None y e = cc
mapped_there f (Some x) y e = (x, refl)

then_there : {A B : Type 0} (f : A → Option B) (o : Option A) (y : B) → option_and_then f o ≡ Some y
    → (x : A) × (o ≡ Some x)
then_there f None y e = cc
then_there f (Some x) y e = (x, refl)

more_by : {Y : Type 0} (found : Option Y) (ys : List Y) (n : ℕ) → length ys ≤ n → length (cons_option found ys) ≤ suc n
more_by None ys n at_most = omega (arith, at_most)
more_by (Some y) ys n at_most = omega (arith, at_most)

at_most : {X Y : Type 0} (h : X → Option Y) (xs : List X) → length (filter_map h xs) ≤ length xs
at_most h [] = omega arith
at_most h (x ∷ xs) = more_by (h x) (filter_map h xs) (length xs) (at_most h xs)

-- ---- what a clause compares was under its key
approval_there : (ds : List Data) (place : ℕ) (pattern : PatternRule) → slice_get (patterns_of ds) place ≡ Some pattern
    → (d : Data) × (slice_get ds place ≡ Some d)
approval_there ds place pattern is =
    let within = slice_get_within (patterns_of ds) place pattern is in
    at_below ds place (omega (arith, within, at_most (λ d. option_map pattern_of (as_object d)) ds))

clause_there : (conditions : Members) (standing : ItemStanding) (clause : Clause) (held : Bool)
    → compared (conditions_of conditions) standing clause ≡ Some held
    → (d : Data) × (clause_value clause conditions ≡ Some d)
clause_there conditions standing OpenState held is =
    then_there as_bool (get_member (codes "open") conditions) _
    (mapped_there _ (flag_under (codes "open") conditions) held is).1
clause_there conditions standing CurrentSet held is =
    then_there as_bool (get_member (codes "current-patchset") conditions) _
    (mapped_there _ (flag_under (codes "current-patchset") conditions) held is).1
clause_there conditions standing StatusIn held is =
    mapped_there _ (get_member (codes "status") conditions) _
    (mapped_there _ (option_map (λ d. texts_of (listed d)) (get_member (codes "status") conditions)) held is).1
clause_there conditions standing (Approval zero) held is = cc
clause_there conditions standing (Approval (suc place)) held is =
    let ds = listed_or_none (get_member (codes "approval") conditions) in
    approval_there ds place _ (mapped_there _ (slice_get (patterns_of ds) place) held is).1

-- a side without conditions compares nothing
none_compared : (clause : Clause) (d : Data) → clause_value clause no_members ≡ Some d → ⊥
none_compared OpenState d is = cc
none_compared CurrentSet d is = cc
none_compared StatusIn d is = cc
none_compared (Approval zero) d is = cc
none_compared (Approval (suc place)) d is = cc

side_there : (found : Option Members) (standing : ItemStanding) (clause : Clause) (held : Bool)
    → compared (conditions_of (unwrap_or found no_members)) standing clause ≡ Some held
    → (d : Data) × (option_and_then (clause_value clause) found ≡ Some d)
side_there None standing clause held is = let there = clause_there no_members standing clause held is in absurd
    (none_compared clause there.0 there.1)
side_there (Some conditions) standing clause held is = clause_there conditions standing clause held is

-- ---- a gate's conditions are those of its file
rules_there : (members : Members) (bases : List (List ℕ)) (standing : ItemStanding) (side : Side) (clause : Clause)
    (held : Bool)
    → compared (side_rules (gate_of members bases) side) standing clause ≡ Some held
    → (d : Data) × (wanted_value (record { side = side; clause = clause }) members ≡ Some d)
rules_there members bases standing Require clause held is =
    side_there (conditions_at Require members) standing clause held is
rules_there members bases standing Reject clause held is =
    side_there (conditions_at Reject members) standing clause held is

one_object : (found : Option Data) (members others : Members) → found ≡ Some (object members)
    → found ≡ Some (object others) → members ≡ others
one_object found members others p q = let same : Some (object members) ≡ Some (object others) = sym p ∙ q in cc

pub broken_wanted : (file : List ℕ) (gate : GateRules) (members : Members) → SpellsGate file gate
    → IsObject file members → (standing : ItemStanding) (condition : Condition)
    → IsBroken gate standing condition → (value : Data) × (wanted_value condition members ≡ Some value)
broken_wanted file gate members spells is standing condition broken =
    let same = one_object (read file) spells.members members spells.is_object.value is.value in
    let of_file = subst (λ (g : GateRules). compared (side_rules g condition.side) standing condition.clause ≡ Some (breaking condition.side)) spells.rules broken in
    let of_members = subst (λ ms. compared (side_rules (gate_of ms gate.bases) condition.side) standing condition.clause ≡ Some (breaking condition.side)) same of_file in
    rules_there members gate.bases standing condition.side condition.clause (breaking condition.side) of_members
