-- The value at the place of a condition. In a gate file without a fault it has no fraction, so that its text is known.
use Rattle.std.proofs.Common.{◌≡◌, ◌≤◌, ◌-◌, ℕ, List, [], ◌∷◌, length, map, get_or, Bool, true, false, Option, None}
use Rattle.std.proofs.Common.{Some, zero, suc, refl, sym, ap, ◌∙◌, subst, cond, arith}
use Rattle.std.specs.Prelude.{◌||◌, codes, option_and_then, option_map, slice_get}
use Rattle.std.proofs.lemmas.Option.{slice_get-map, slice_get_read}
use Rattle.std.specs.declared.cmp.Ordering.TheVariants.{Less, Equal, Greater}
use Rattle.std.specs.Ordering.{nat_cmp, match_ordering}
use Rattle.std.specs.Cmp.Lexicographic.{slice_cmp}
use Rattle.std.specs.Str.{bytes_eq}
use Rattle.std.proofs.lemmas.Map.Text.{is_eq-slice_cmp}
use Rattle.lattice_core.specs.Keep.{texts_exact}
use Rattle.lattice_core.specs.Exact.{test_of_same}
use Rattle.serde_json.specs.Data.{unsigned, negative, float, Data, null, boolean, number, string, array, object, Items}
use Rattle.serde_json.specs.Data.{no_items, item, Members, no_members, member}
use Rattle.serde_json.specs.Find.{get_member, as_object}
use Rattle.serde_json.specs.Written.{has_float, items_have_float, members_have_float}
use Rattle.gate_rules.specs.Reading.{connection_of, each, is_flag, is_text, is_vote, list_of, listed, listed_or_none}
use Rattle.gate_rules.specs.Reading.{object_under}
use Rattle.gate_rules.specs.Walk.{Fault, or_later, first_fault, first_in_list, good_or_bad, object_fault, approval_key}
use Rattle.gate_rules.specs.Walk.{approval_value, approval_fault, condition_fault, side_fault, gate_fault, gate_key}
use Rattle.gate_rules.specs.Walk.{gate_value}
use Rattle.gate_rules.specs.declared.keys.ApprovalKey.{ApprovalKey}
use Rattle.gate_rules.specs.declared.keys.ApprovalKey.TheVariants.{Username, Label, Unsupported, Unknown}
use Rattle.gate_rules.specs.declared.walk.Flaw.TheVariants as flaw
use Rattle.gate_rules.specs.declared.condition.Side.{Side}
use Rattle.gate_rules.specs.declared.condition.Side.TheVariants.{Require, Reject}
use Rattle.gate_rules.specs.declared.condition.Clause.{Clause}
use Rattle.gate_rules.specs.declared.condition.Clause.TheVariants.{OpenState, CurrentSet, StatusIn, Approval}
use Rattle.gate_rules.specs.declared.condition.Condition.{Condition}
use Rattle.gate_rules.specs.Words.{side_name}
use Rattle.gate_rules.specs.Wanted.{element_of_number, conditions_at, clause_value, wanted_value}

-- ---- faults
or_parts : (a b : Option Fault) → or_later a b ≡ None → (a ≡ None) × (b ≡ None)
or_parts None b e = (refl, e)
or_parts (Some fault) b e = cc

good_is : (b : Bool) (key : List ℕ) → good_or_bad b key ≡ None → b ≡ true
good_is true key e = refl
good_is false key e = cc

-- the value under a key has no fault
at_key : (judge : List ℕ → Data → Option Fault) (ms : Members) (key : List ℕ) (d : Data) → first_fault judge ms ≡ None
    → get_member key ms ≡ Some d → judge key d ≡ None
at_key judge no_members key d none found = cc
at_key judge (member l e ms) key d none found =
    let parts = or_parts (judge l e) (first_fault judge ms) none in
    elim (slice_cmp nat_cmp key l) as (λ r. slice_cmp nat_cmp key l ≡ r → match_ordering r (get_member key ms) (Some e) (get_member key ms) ≡ Some d → judge key d ≡ None) [
      | Less ↦ λ order is. at_key judge ms key d parts.1 is
      | Equal ↦ λ order is. let here : e ≡ d = cc in subst (λ k. judge k d ≡ None) (sym (texts_exact.exact key l order))
          (subst (λ x. judge l x ≡ None) here parts.0)
      | Greater ↦ λ order is. at_key judge ms key d parts.1 is
    ] refl found

-- and neither has an item of a list
at_place : (judge : Data → Option Fault) (ds : List Data) (place : ℕ) (d : Data) → first_in_list judge ds ≡ None
    → slice_get ds place ≡ Some d → judge d ≡ None
at_place judge [] place d none found = cc
at_place judge (e ∷ ds) zero d none found = let here : e ≡ d = cc in subst (λ x. judge x ≡ None) here
    (or_parts (judge e) (first_in_list judge ds) none).0
at_place judge (e ∷ ds) (suc place) d none found =
    at_place judge ds place d (or_parts (judge e) (first_in_list judge ds) none).1 found

bytes_eq_itself : (bytes : List ℕ) → bytes_eq bytes bytes ≡ true
bytes_eq_itself bytes = sym (is_eq-slice_cmp bytes bytes) ∙ test_of_same texts_exact bytes

-- ---- values without a fraction
or_false : (a b : Bool) → a ≡ false → b ≡ false → (a || b) ≡ false
or_false true b p q = cc
or_false false b p q = q

flag_whole : (d : Data) → is_flag d ≡ true → has_float d ≡ false
flag_whole null is = cc
flag_whole (boolean b) is = refl
flag_whole (number n) is = cc
flag_whole (string s) is = cc
flag_whole (array ds) is = cc
flag_whole (object ms) is = cc

text_whole : (d : Data) → is_text d ≡ true → has_float d ≡ false
text_whole null is = cc
text_whole (boolean b) is = cc
text_whole (number n) is = cc
text_whole (string s) is = refl
text_whole (array ds) is = cc
text_whole (object ms) is = cc

vote_whole : (d : Data) → is_vote d ≡ true → has_float d ≡ false
vote_whole null is = cc
vote_whole (boolean b) is = cc
vote_whole (number (unsigned n)) is = refl
vote_whole (number (negative z)) is = refl
vote_whole (number (float x)) is = cc
vote_whole (string s) is = cc
vote_whole (array ds) is = cc
vote_whole (object ms) is = cc

first_passes : (b rest : Bool) → cond b rest false ≡ true → (b ≡ true) × (rest ≡ true)
first_passes true rest e = (refl, e)
first_passes false rest e = cc

module _ (test : Data → Bool) (whole : (d : Data) → test d ≡ true → has_float d ≡ false) where
  items_whole : (ds : Items) → each test (list_of ds) ≡ true → items_have_float ds ≡ false
  items_whole no_items all = refl
  items_whole (item d ds) all = let parts = first_passes (test d) (each test (list_of ds)) all in or_false (has_float d)
      (items_have_float ds) (whole d parts.0) (items_whole ds parts.1)

  alone_whole : (d : Data) → each test (d ∷ []) ≡ true → has_float d ≡ false
  alone_whole d all = whole d (first_passes (test d) true all).0

  listed_whole : (d : Data) → each test (listed d) ≡ true → has_float d ≡ false
  listed_whole null all = alone_whole null all
  listed_whole (boolean b) all = alone_whole (boolean b) all
  listed_whole (number n) all = alone_whole (number n) all
  listed_whole (string s) all = alone_whole (string s) all
  listed_whole (array ds) all = items_whole ds all
  listed_whole (object ms) all = alone_whole (object ms) all

approval_whole : (kind : ApprovalKey) (key : List ℕ) (d : Data) → approval_value kind key d ≡ None → has_float d ≡ false
approval_whole Username key d none = text_whole d (good_is (is_text d) key none)
approval_whole Label key d none = listed_whole is_vote vote_whole d (good_is (each is_vote (listed d)) key none)
approval_whole Unsupported key d none = cc
approval_whole Unknown key d none = cc

approvals_whole : (ms : Members) → first_fault approval_fault ms ≡ None → members_have_float ms ≡ false
approvals_whole no_members none = refl
approvals_whole (member key d ms) none =
    let parts = or_parts (approval_fault key d) (first_fault approval_fault ms) none in
    or_false (has_float d) (members_have_float ms) (approval_whole (approval_key key) key d parts.0)
    (approvals_whole ms parts.1)

pattern_whole : (key : List ℕ) (d : Data) → object_fault approval_fault key d ≡ None → has_float d ≡ false
pattern_whole key null none = cc
pattern_whole key (boolean b) none = cc
pattern_whole key (number n) none = cc
pattern_whole key (string s) none = cc
pattern_whole key (array ds) none = cc
pattern_whole key (object ms) none = approvals_whole ms none

-- ---- the conditions of a side
found_object : (key : List ℕ) (ms found : Members) → object_under key ms ≡ Some found
    → get_member key ms ≡ Some (object found)
found_object key ms found is = by_member (get_member key ms) is where
  by_data : (d : Data) → as_object d ≡ Some found → Some d ≡ Some (object found)
  by_data null e = cc
  by_data (boolean b) e = cc
  by_data (number n) e = cc
  by_data (string s) e = cc
  by_data (array ds) e = cc
  by_data (object os) e = let same : os ≡ found = cc in ap (λ o. Some (object o)) same

  by_member : (o : Option Data) → option_and_then as_object o ≡ Some found → o ≡ Some (object found)
  by_member None e = cc
  by_member (Some d) e = by_data d e

then_some : {A B : Type 0} (f : A → Option B) (o : Option A) (y : B) → option_and_then f o ≡ Some y
    → (x : A) × (o ≡ Some x) × (f x ≡ Some y)
then_some f None y e = cc
then_some f (Some x) y e = (x, refl, e)

side_faultless : (members : Members) (side : Side) (found : Members) → gate_fault true members ≡ None
    → get_member (side_name side) members ≡ Some (object found)
    → first_fault (side_fault (connection_of members)) found ≡ None
side_faultless members Require found none is =
    at_key (λ key d. gate_value (connection_of members) true (gate_key key) key d) members (side_name Require)
    (object found)
    (or_parts (first_fault (λ key d. gate_value (connection_of members) true (gate_key key) key d) members) (good_or_bad true (codes "bases")) none).0 is
side_faultless members Reject found none is =
    at_key (λ key d. gate_value (connection_of members) true (gate_key key) key d) members (side_name Reject)
    (object found)
    (or_parts (first_fault (λ key d. gate_value (connection_of members) true (gate_key key) key d) members) (good_or_bad true (codes "bases")) none).0 is

conditions_faultless : (members : Members) (side : Side) (conditions : Members) → gate_fault true members ≡ None
    → conditions_at side members ≡ Some conditions
    → first_fault condition_fault conditions ≡ None
conditions_faultless members side conditions none is =
    let connection = connection_of members in
    let outer = then_some (object_under connection) (object_under (side_name side) members) conditions is in
    let faultless = side_faultless members side outer.0 none (found_object (side_name side) members outer.0 outer.1) in
    let inner : side_fault connection connection (object conditions) ≡ None =
    at_key (side_fault connection) outer.0 connection (object conditions) faultless (found_object connection outer.0 conditions outer.2) in
    subst (λ b. cond b (object_fault condition_fault connection (object conditions)) (Some (flaw.Unsupported, connection)) ≡ None) (bytes_eq_itself connection) inner

-- ---- the value at a condition's place
clause_whole : (clause : Clause) (conditions : Members) (d : Data) → first_fault condition_fault conditions ≡ None
    → clause_value clause conditions ≡ Some d → has_float d ≡ false
clause_whole OpenState conditions d none is =
    flag_whole d (good_is (is_flag d) (codes "open") (at_key condition_fault conditions (codes "open") d none is))
clause_whole CurrentSet conditions d none is = flag_whole d (good_is (is_flag d) (codes "current-patchset") (at_key condition_fault conditions (codes "current-patchset") d none is))
clause_whole StatusIn conditions d none is = listed_whole is_text text_whole d
    (good_is (each is_text (listed d)) (codes "status") (at_key condition_fault conditions (codes "status") d none is))
clause_whole (Approval zero) conditions d none is = cc
clause_whole (Approval (suc place)) conditions d none is =
    by_found (get_member (codes "approval") conditions) refl is where
      by_found : (found : Option Data) → get_member (codes "approval") conditions ≡ found
          → slice_get (listed_or_none found) place ≡ Some d → has_float d ≡ false
      by_found None there at = cc
      by_found (Some value) there at =
          pattern_whole (codes "approval") d
          (at_place (object_fault approval_fault (codes "approval")) (listed value) place d (at_key condition_fault conditions (codes "approval") value none there) at)

pub wanted_whole : (members : Members) (condition : Condition) (d : Data) → gate_fault true members ≡ None
    → wanted_value condition members ≡ Some d → has_float d ≡ false
wanted_whole members condition d none is =
    let outer = then_some (clause_value condition.clause) (conditions_at condition.side members) d is in
    clause_whole condition.clause outer.0 d (conditions_faultless members condition.side outer.0 none outer.1) outer.2

-- ---- values by their numbers
pub element_at : {X Y : Type 0} (shown : X → Y) (xs : List X) (number : ℕ) (x : X) → (number ≡ 0 → ⊥)
    → number ≤ length xs → x ≡ get_or xs (number - 1) x → Some (shown x) ≡ element_of_number (map shown xs) number
element_at shown xs zero x some within here = absurd (some refl)
element_at shown xs (suc place) x some within here =
    let one_less : suc place - 1 ≡ place = omega arith in
    sym (slice_get-map shown xs place ∙ ap (option_map shown) (slice_get_read xs (length xs) place x refl (omega (arith, within)) (subst (λ k. x ≡ get_or xs k x) one_less here)))
