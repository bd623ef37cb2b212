-- The names of a record, as they are gathered one after the other.
use Rattle.std.proofs.Common.{◌≡◌, ◌∙◌, ℕ, List, [], ◌∷◌, ◌++◌, Bool, true, false, ◌||◌, map, sym, ap, refl, subst, flat_map, ℤ, string_bytes}
use Rattle.std.specs.Prelude.{String, if◌then◌else◌}
use Rattle.std.specs.BTreeMap.{is_at}
use Rattle.std.specs.BTreeSet.{insert_key}
use Rattle.std.specs.Cmp.Lexicographic.{slice_cmp}
use Rattle.std.specs.FinMap.{nat_cmp-IsAntisymmetric, slice_cmp-IsAntisymmetric}
use Rattle.std.specs.List.{list_any}
use Rattle.std.specs.Ordering.{match_ordering, nat_cmp}
use Rattle.std.specs.declared.cmp.Ordering.TheVariants.{Less, Equal, Greater}
use Rattle.std.specs.Str.{bytes_eq}
use Rattle.std.specs.String.{string_cmp}
use Rattle.std.proofs.lemmas.List.{map-append}
use Rattle.std.proofs.lemmas.Map.Text.{is_eq-slice_cmp}
use Rattle.review_ops.specs.Timestamp.{Timestamp}
use Rattle.change_core.specs.Slots.{Slot}
use Rattle.gate_check.specs.Names.{AreTheSameTexts, has_known, with_each}

-- ---- sets of texts

pub insert_shown : {Y : Type 0} (keys : List (String Y)) (key : String Y)
    → map string_bytes (insert_key string_cmp keys key) ≡ insert_key (slice_cmp nat_cmp) (map string_bytes keys) (string_bytes key)
insert_shown [] key = refl
insert_shown (x ∷ xs) key =
    elim (slice_cmp nat_cmp (string_bytes key) (string_bytes x)) as (λ o. map string_bytes (match_ordering o (key ∷ x ∷ xs) (x ∷ xs) (x ∷ insert_key string_cmp xs key)) ≡ match_ordering o (string_bytes key ∷ map string_bytes (x ∷ xs)) (map string_bytes (x ∷ xs)) (string_bytes x ∷ insert_key (slice_cmp nat_cmp) (map string_bytes xs) (string_bytes key))) [
      | Less ↦ refl
      | Equal ↦ refl
      | Greater ↦ ap (λ l. string_bytes x ∷ l) (insert_shown xs key)
    ]

pub has_shown : {Y : Type 0} (keys : List (String Y)) (text : List ℕ)
    → list_any (is_at (λ k. slice_cmp nat_cmp text (string_bytes k))) keys ≡ has_known (map string_bytes keys) text
has_shown [] text = refl
has_shown (x ∷ xs) text =
    ap (λ b. b || list_any (is_at (λ k. slice_cmp nat_cmp text (string_bytes k))) xs) (is_eq-slice_cmp text (string_bytes x))
    ∙ (elim (bytes_eq text (string_bytes x)) as (λ b. (b || list_any (is_at (λ k. slice_cmp nat_cmp text (string_bytes k))) xs) ≡ (if b then true else has_known (map string_bytes xs) text)) [ true ↦ refl | false ↦ has_shown xs text ])

-- ---- texts that are added one after another

with_each-append : (known more later : List (List ℕ)) → with_each known (more ++ later) ≡ with_each (with_each known more) later
with_each-append known [] later = refl
with_each-append known (text ∷ more) later = with_each-append (insert_key (slice_cmp nat_cmp) known text) more later

module _ {X : Type 0} (part : X → List ℕ) where
  -- one more was added, and the later ones are left
  pub each_more : (old new whole : List (List ℕ)) (x : X) (rest later : List X) → rest ≡ x ∷ later
      → new ≡ insert_key (slice_cmp nat_cmp) old (part x) → with_each old (map part rest) ≡ whole
      → with_each new (map part later) ≡ whole
  each_more old new whole x rest later first is so_far =
      ap (λ l. with_each l (map part later)) is ∙ ap (λ l. with_each old (map part l)) (sym first) ∙ so_far

  pub each_done : (now whole : List (List ℕ)) (rest : List X) → rest ≡ [] → with_each now (map part rest) ≡ whole
      → now ≡ whole
  each_done now whole rest none so_far = ap (λ l. with_each now (map part l)) (sym none) ∙ so_far

  module _ {Z : Type 0} (parts : Z → List X) where
    -- the same of lists of them
    pub each_list_more : (old new whole : List (List ℕ)) (z : Z) (rest later : List Z) → rest ≡ z ∷ later
        → new ≡ with_each old (map part (parts z)) → with_each old (map part (flat_map parts rest)) ≡ whole
        → with_each new (map part (flat_map parts later)) ≡ whole
    each_list_more old new whole z rest later first is so_far =
        ap (λ l. with_each l (map part (flat_map parts later))) is
        ∙ sym (with_each-append old (map part (parts z)) (map part (flat_map parts later)))
        ∙ ap (with_each old) (sym (map-append part (parts z) (flat_map parts later)))
        ∙ ap (λ l. with_each old (map part (flat_map parts l))) (sym first) ∙ so_far

    pub each_list_done : (now whole : List (List ℕ)) (rest : List Z) → rest ≡ []
        → with_each now (map part (flat_map parts rest)) ≡ whole → now ≡ whole
    each_list_done now whole rest none so_far =
        ap (λ l. with_each now (map part (flat_map parts l))) (sym none) ∙ so_far

-- the votes of registers
abbrev pub slots_of : List (Slot × (Timestamp × ℤ)) → List Slot
slots_of registers = map (λ register. register.0) registers

-- ---- texts that are put in order are the same texts

first_of_two : (a b c : Bool) → (if a then true else (if b then true else c)) ≡ ((if b then true else c) || a)
first_of_two true true c = refl
first_of_two true false true = refl
first_of_two true false false = refl
first_of_two false true c = refl
first_of_two false false true = refl
first_of_two false false false = refl

there_already : (a c : Bool) → (if a then true else c) ≡ ((if a then true else c) || a)
there_already true c = refl
there_already false true = refl
there_already false false = refl

further_on : (b c d : Bool) → (if b then true else (c || d)) ≡ ((if b then true else c) || d)
further_on true c d = refl
further_on false c d = refl

only_one : (a : Bool) → (if a then true else false) ≡ (false || a)
only_one true = refl
only_one false = refl

has_more : (known : List (List ℕ)) (text name : List ℕ)
    → has_known (insert_key (slice_cmp nat_cmp) known text) name ≡ (has_known known name || bytes_eq name text)
has_more [] text name = only_one (bytes_eq name text)
has_more (x ∷ xs) text name =
    elim (slice_cmp nat_cmp text x) as (λ o. slice_cmp nat_cmp text x ≡ o → has_known (match_ordering o (text ∷ x ∷ xs) (x ∷ xs) (x ∷ insert_key (slice_cmp nat_cmp) xs text)) name ≡ ((if bytes_eq name x then true else has_known xs name) || bytes_eq name text)) [
      | Less ↦ λ e. first_of_two (bytes_eq name text) (bytes_eq name x) (has_known xs name)
      | Equal ↦ λ e. let same = slice_cmp-IsAntisymmetric nat_cmp-IsAntisymmetric text x e in
          subst (λ t. (if bytes_eq name x then true else has_known xs name) ≡ ((if bytes_eq name x then true else has_known xs name) || bytes_eq name t)) (sym same) (there_already (bytes_eq name x) (has_known xs name))
      | Greater ↦ λ e. ap (λ b. if bytes_eq name x then true else b) (has_more xs text name) ∙ further_on (bytes_eq name x) (has_known xs name) (bytes_eq name text)
    ] refl

or_first : (a b c : Bool) → ((a || b) || c) ≡ (a || (if b then true else c))
or_first true b c = refl
or_first false true c = refl
or_first false false c = refl

or_false : (b : Bool) → b ≡ (b || false)
or_false true = refl
or_false false = refl

has_each : (known texts : List (List ℕ)) (name : List ℕ) → has_known (with_each known texts) name ≡ (has_known known name || has_known texts name)
has_each known [] name = or_false (has_known known name)
has_each known (text ∷ more) name =
    has_each (insert_key (slice_cmp nat_cmp) known text) more name
    ∙ ap (λ b. b || has_known more name) (has_more known text name)
    ∙ or_first (has_known known name) (bytes_eq name text) (has_known more name)

pub the_same_texts : AreTheSameTexts
the_same_texts texts name = has_each [] texts name
