-- What a query of changes names.
use Rattle.std.proofs.Common.{◌≡◌, ◌∙◌, ◌⊎◌, ◌-◌, ◌/◌, ◌<◌, ◌≤◌, ℕ, Bool, true, false, cond, List, [], ◌∷◌, ◌++◌}
use Rattle.std.proofs.Common.{if◌then◌else◌, inl, inr, refl, sym, ap, arith, drop, length, suc, take, zero}
use Rattle.std.proofs.Common.{length-append}
use Rattle.std.proofs.Math.Dec.{eqb-suc-zero}
use borrow.Author.Tests.{leb-true}
use Rattle.std.specs.Prelude.{◌==◌, ◌||◌, filter, nat_le, nat_lt}
use Rattle.std.proofs.lemmas.Bool.{eqb-true, false≢true}
use Rattle.std.proofs.lemmas.Grind.{common_steps}
use Rattle.query_plan.specs.Giving.{awake, first_class, picked}
use Rattle.query_plan.specs.Keeping.{NamesPortions}
use Rattle.query_plan.specs.Plan.{is_awake_by, is_empty, is_known_by, is_on_list}
use Rattle.query_plan.specs.declared.plan.Plan.{Plan}
use Rattle.query_plan.proofs.Keeping.{on_filter}

-- ---- lists

or_cases : (p q : Bool) → (p || q) ≡ true → (p ≡ true) ⊎ (q ≡ true)
or_cases true q e = inl refl
or_cases false q e = inr e

or_first : (p q : Bool) → p ≡ true → (p || q) ≡ true
or_first p q e = ap (λ (b : Bool). b || q) e

or_second : (p q : Bool) → q ≡ true → (p || q) ≡ true
or_second true q e = refl
or_second false q e = e

on_either : (changes more : List ℕ) (change : ℕ) → is_on_list (changes ++ more) change ≡ true
    → (is_on_list changes change ≡ true) ⊎ (is_on_list more change ≡ true)
on_either [] more change on = inr on
on_either (x ∷ changes) more change on =
    elim (or_cases (x == change) (is_on_list (changes ++ more) change) on) [
      | inl here ↦ inl (or_first (x == change) (is_on_list changes change) here)
      | inr rest ↦ elim (on_either changes more change rest) [
        | inl first ↦ inl (or_second (x == change) (is_on_list changes change) first)
        | inr second ↦ inr second
      ]
    ]

on_take : (count : ℕ) (changes : List ℕ) (change : ℕ) → is_on_list (take count changes) change ≡ true
    → is_on_list changes change ≡ true
on_take zero changes change on = absurd (false≢true on)
on_take (suc count) [] change on = on
on_take (suc count) (x ∷ changes) change on =
    elim (or_cases (x == change) (is_on_list (take count changes) change) on) [
      | inl here ↦ or_first (x == change) (is_on_list changes change) here
      | inr rest ↦ or_second (x == change) (is_on_list changes change) (on_take count changes change rest)
    ]

on_drop : (count : ℕ) (changes : List ℕ) (change : ℕ) → is_on_list (drop count changes) change ≡ true
    → is_on_list changes change ≡ true
on_drop zero changes change on = on
on_drop (suc count) [] change on = on
on_drop (suc count) (x ∷ changes) change on =
    or_second (x == change) (is_on_list changes change) (on_drop count changes change on)

filtered_step : (test : ℕ → Bool) (x : ℕ) (changes : List ℕ) (change : ℕ)
    → (is_on_list (filter test changes) change ≡ true → (is_on_list changes change ≡ true) × (test change ≡ true))
    → (first : Bool) → test x ≡ first
    → is_on_list (cond first (x ∷ filter test changes) (filter test changes)) change ≡ true
    → (((x == change) || is_on_list changes change) ≡ true) × (test change ≡ true)
filtered_step test x changes change more true first on =
    elim (or_cases (x == change) (is_on_list (filter test changes) change) on) [
      | inl here ↦ (or_first (x == change) (is_on_list changes change) here, ap test (sym (eqb-true x change here)) ∙ first)
      | inr rest ↦ (or_second (x == change) (is_on_list changes change) (more rest).0, (more rest).1)
    ]
filtered_step test x changes change more false first on =
    (or_second (x == change) (is_on_list changes change) (more on).0, (more on).1)

pub on_filtered : (test : ℕ → Bool) (changes : List ℕ) (change : ℕ) → is_on_list (filter test changes) change ≡ true
    → (is_on_list changes change ≡ true) × (test change ≡ true)
on_filtered test [] change on = absurd (false≢true on)
on_filtered test (x ∷ changes) change on =
    filtered_step test x changes change (on_filtered test changes change) (test x) refl on

-- ---- what is picked

on_picked_by : (fits : Bool) (changes front back : List ℕ) (change : ℕ)
    → (is_on_list front change ≡ true → is_on_list changes change ≡ true)
    → (is_on_list back change ≡ true → is_on_list changes change ≡ true)
    → is_on_list (if fits then changes else front ++ back) change ≡ true → is_on_list changes change ≡ true
on_picked_by true changes front back change first last on = on
on_picked_by false changes front back change first last on =
    elim (on_either front back change on) [ inl here ↦ first here | inr here ↦ last here ]

on_picked : (changes : List ℕ) (most last : ℕ) (change : ℕ) → is_on_list (picked changes most last) change ≡ true
    → is_on_list changes change ≡ true
on_picked changes most last change on =
    on_picked_by (nat_le (length changes) most) changes (take (most - last) changes)
    (drop (length changes - last) changes) change (on_take (most - last) changes change)
    (on_drop (length changes - last) changes change) on

-- ---- the first class

on_class : (none : Bool) (known : ℕ → Bool) (changes : List ℕ) (change : ℕ)
    → is_on_list (if none then changes else filter known changes) change ≡ true → is_on_list changes change ≡ true
on_class true known changes change on = on
on_class false known changes change on = (on_filtered known changes change on).0

class_known : (none : Bool) (known : ℕ → Bool) (changes : List ℕ) (change : ℕ) → none ≡ false
    → is_on_list (if none then changes else filter known changes) change ≡ true → known change ≡ true
class_known true known changes change is on = absurd (false≢true (sym is))
class_known false known changes change is on = (on_filtered known changes change on).1

some_on : (changes : List ℕ) (change : ℕ) → is_on_list changes change ≡ true → is_empty changes ≡ false
some_on [] change on = absurd (false≢true on)
some_on (x ∷ changes) change on = eqb-suc-zero (length changes)

-- ---- how many

share_within : (whole : Bool) (most : ℕ) → 0 < most → (if whole then 0 else most / 2) < most
share_within true most some = some
share_within false most some = omega arith

few_picked : (fits : Bool) (changes : List ℕ) (most last : ℕ) → nat_le (length changes) most ≡ fits → last < most
    → length (if fits then changes else take (most - last) changes ++ drop (length changes - last) changes) ≤ most
few_picked true changes most last is within = leb-true (length changes) most is
few_picked false changes most last is within = grind (arith, common_steps, length-append)

not_none : (count : ℕ) → 0 < count → (count == 0) ≡ false
not_none count some = grind arith

some_in : (changes : List ℕ) → is_empty changes ≡ false → 0 < length changes
some_in [] some = absurd (false≢true (sym some))
some_in (x ∷ changes) some = omega arith

some_picked : (fits : Bool) (changes : List ℕ) (most last : ℕ) → last < most → 0 < length changes
    → is_empty (if fits then changes else take (most - last) changes ++ drop (length changes - last) changes) ≡ false
some_picked true changes most last within some = not_none (length changes) some
some_picked false changes most last within some =
    not_none (length (take (most - last) changes ++ drop (length changes - last) changes))
    (grind (arith, common_steps, length-append))

class_some : (none : Bool) (known waiting : List ℕ) → is_empty known ≡ none → is_empty waiting ≡ false
    → is_empty (if none then waiting else known) ≡ false
class_some true known waiting is some = some
class_some false known waiting is some = is

pub portions : NamesPortions
portions now most plan more some_awake =
    let whole = nat_lt plan.schedule.most 50 in
    let last = if whole then 0 else most / 2 in
    let within : last < most = share_within whole most more in
    let known = is_known_by plan.marks in
    let test = is_awake_by now plan.schedule.round plan.marks in
    let waking = awake now plan in
    let class = first_class plan.marks waking in
    let class_has : is_empty class ≡ false =
    class_some (is_empty (filter known waking)) (filter known waking) waking refl some_awake in
    record {
      awake = λ change on. on_filtered test plan.waiting.items change
          (on_class (is_empty (filter known waking)) known waking change (on_picked class most _ change on));
      few = few_picked (nat_le (length class) most) class most last refl within;
      some = some_picked (nat_le (length class) most) class most last within (some_in class class_has);
      known_first = λ change other is knows on.
          class_known (is_empty (filter known waking)) known waking other
          (some_on (filter known waking) change
          (on_filter known waking change knows (on_filter test plan.waiting.items change is.1 is.0)))
          (on_picked class most _ other on);
    }
