-- Texts that are added to a set, and what is left of a record.
use Rattle.std.proofs.Common.{◌≡◌, ◌⊎◌, ◌↔◌, ◌∙◌, inl, inr, ℕ, ◌+◌, ◌≤◌, List, [], ◌∷◌, ◌++◌, Bool, true, false, Some}
use Rattle.std.proofs.Common.{ap, arith, drop, length, map, refl, string_bytes, subst, sym, take}
use Rattle.std.specs.Prelude.{Contains, MatchBool, String, slice_get, unwrap_or}
use Rattle.std.specs.BTreeSet.{BTreeSet, insert_key}
use Rattle.std.specs.Char.{to_ascii_lowercase}
use Rattle.std.specs.Cmp.Lexicographic.{slice_cmp}
use Rattle.std.specs.FinMap.{nat_cmp-IsAntisymmetric, slice_cmp-IsAntisymmetric}
use Rattle.std.specs.List.{AllByRecursion}
use Rattle.std.specs.List.Sorted.{IsStrictlySortedBy}
use Rattle.std.specs.Ordering.{match_ordering, nat_cmp}
use Rattle.std.specs.String.{string_cmp}
use Rattle.std.specs.declared.cmp.Ordering.TheVariants.{Less, Equal, Greater}
use Rattle.std.proofs.lemmas.List.{length-append, length-map, map-append, take-append-drop, take-append-le, take-map}
use Rattle.std.proofs.lemmas.List.{take_all, take_more}
use Rattle.std.proofs.lemmas.Option.{slice_get_within, unwrap_or-slice_get}
use Rattle.lattice_core.specs.MemberLaws.{Contains-cons_cases, Contains-first, Contains-later, Contains-none}
use Rattle.footer_text.specs.Lines.{IsFooter}
use Rattle.gate_check.specs.Gained.{GainsTexts}
use Rattle.gate_check.specs.Ignored.{BeginsLike, IsNearMiss, LineMisses}
use Rattle.gate_check.specs.Unused.{SomeIs}
use Rattle.gate_check.proofs.Sought.{at_place, in_either, in_first, in_second, none_yet}

-- ---- texts that begin alike

module _ (f : ℕ → ℕ) (start text : List ℕ) where
  pub front_like : length start ≤ length text → map f (take (length start) text) ≡ map f start
      → (rest : List ℕ) × (map f text ≡ map f start ++ rest)
  front_like long same = (
    map f (drop (length start) text),
    ap (map f) (sym (take-append-drop (length start) text))
        ∙ map-append f (take (length start) text) (drop (length start) text)
        ∙ ap (λ l. l ++ map f (drop (length start) text)) same,
  )

  pub is_longer : (rest : List ℕ) → map f text ≡ map f start ++ rest → length start ≤ length text
  is_longer rest is =
      let whole : length text ≡ length start + length rest = sym (length-map text f) ∙ ap length is ∙ length-append (map f start) rest ∙ ap (λ n. n + length rest) (length-map start f) in
      omega arith

  pub front_same : (rest : List ℕ) → map f text ≡ map f start ++ rest → map f (take (length start) text) ≡ map f start
  front_same rest is =
      let as_long : length (map f start) ≡ length start = length-map start f in
      sym (take-map f (length start) text) ∙ ap (take (length start)) is
      ∙ take-append-le (length start) (map f start) rest (omega arith)
      ∙ take_all (length start) (map f start) (omega arith)

pub told_like : (start text : List ℕ) (b : Bool) → length start ≤ length text
    → (b ≡ true) ↔ (map to_ascii_lowercase (take (length start) text) ≡ map to_ascii_lowercase start)
    → MatchBool b (BeginsLike start text) (¬ BeginsLike start text)
told_like start text true long same = front_like to_ascii_lowercase start text long (same.0 refl)
told_like start text false long same = λ begins.
    let no : false ≡ true = same.1 (front_same to_ascii_lowercase start text begins.0 begins.1) in cc

-- the same of equal texts
pub like_of : (b : Bool) (other start another text : List ℕ) → other ≡ start → another ≡ text
    → MatchBool b (BeginsLike other another) (¬ BeginsLike other another)
    → MatchBool b (BeginsLike start text) (¬ BeginsLike start text)
like_of b other start another text p q told =
    subst (λ (t : List ℕ). MatchBool b (BeginsLike start t) (¬ BeginsLike start t)) q
    (subst (λ (s : List ℕ). MatchBool b (BeginsLike s another) (¬ BeginsLike s another)) p told)

-- ---- the first elements of a list

module _ {X : Type 0} (P : X → Type 0) where
  pub none_more : (xs : List X) (i : ℕ) (x : X) → slice_get xs i ≡ Some x → ¬ SomeIs P (take i xs) → ¬ P x
      → ¬ SomeIs P (take (i + 1) xs)
  none_more xs i x at before here =
      let within = slice_get_within xs i x at in
      let same = sym (unwrap_or-slice_get xs i x) ∙ ap (λ o. unwrap_or o x) at in
      subst (λ l. ¬ SomeIs P l) (sym (take_more xs i x within ∙ ap (λ z. take i xs ++ z ∷ []) same))
      (none_yet P (take i xs) x before here)

  pub some_of : (xs : List X) (i : ℕ) (x : X) → slice_get xs i ≡ Some x → P x → SomeIs P xs
  some_of xs i x at here =
      let within = slice_get_within xs i x at in
      let same = sym (unwrap_or-slice_get xs i x) ∙ ap (λ o. unwrap_or o x) at in
      at_place P xs i x within (sym same) here

  pub alone : (x : X) → SomeIs P (x ∷ []) → P x
  alone x (inl here) = here
  alone x (inr none) = absurd none

-- ---- a set of texts

-- a text is put among the others
put_in : (known : List (List ℕ)) (text name : List ℕ)
    → Contains (insert_key (slice_cmp nat_cmp) known text) name → Contains known name ⊎ (text ≡ name)
put_in [] text name c = elim (Contains-cons_cases text [] name c) [ inl same ↦ inr same | inr none ↦ inl none ]
put_in (x ∷ xs) text name c =
    elim (slice_cmp nat_cmp text x) as (λ o. Contains (match_ordering o (text ∷ x ∷ xs) (x ∷ xs) (x ∷ insert_key (slice_cmp nat_cmp) xs text)) name → Contains (x ∷ xs) name ⊎ (text ≡ name)) [
      | Less ↦ λ c. elim (Contains-cons_cases text (x ∷ xs) name c) [ inl same ↦ inr same | inr known ↦ inl known ]
      | Equal ↦ λ c. inl c
      | Greater ↦ λ c. elim (Contains-cons_cases x (insert_key (slice_cmp nat_cmp) xs text) name c) [
        | inl same ↦ inl (subst (Contains (x ∷ xs)) same (Contains-first x xs))
        | inr later ↦ elim
            (put_in xs text name later) [ inl known ↦ inl (Contains-later x xs name known) | inr same ↦ inr same ]
      ]
    ] c

-- it is there then, and so are they
has_put : (known : List (List ℕ)) (text : List ℕ) → Contains (insert_key (slice_cmp nat_cmp) known text) text
has_put [] text = Contains-first text []
has_put (x ∷ xs) text =
    elim (slice_cmp nat_cmp text x) as (λ o. slice_cmp nat_cmp text x ≡ o → Contains (match_ordering o (text ∷ x ∷ xs) (x ∷ xs) (x ∷ insert_key (slice_cmp nat_cmp) xs text)) text) [
      | Less ↦ λ e. Contains-first text (x ∷ xs)
      | Equal ↦ λ e. subst (Contains (x ∷ xs)) (sym (slice_cmp-IsAntisymmetric nat_cmp-IsAntisymmetric text x e))
          (Contains-first x xs)
      | Greater ↦ λ e. Contains-later x (insert_key (slice_cmp nat_cmp) xs text) text (has_put xs text)
    ] refl

has_still : (known : List (List ℕ)) (text name : List ℕ) → Contains known name
    → Contains (insert_key (slice_cmp nat_cmp) known text) name
has_still [] text name c = absurd (Contains-none name c)
has_still (x ∷ xs) text name c =
    elim (slice_cmp nat_cmp text x) as (λ o. Contains (match_ordering o (text ∷ x ∷ xs) (x ∷ xs) (x ∷ insert_key (slice_cmp nat_cmp) xs text)) name) [
      | Less ↦ Contains-later text (x ∷ xs) name c
      | Equal ↦ c
      | Greater ↦ elim (Contains-cons_cases x xs name c) [
        | inl same ↦ subst (Contains (x ∷ insert_key (slice_cmp nat_cmp) xs text)) same
            (Contains-first x (insert_key (slice_cmp nat_cmp) xs text))
        | inr later ↦ Contains-later x (insert_key (slice_cmp nat_cmp) xs text) name (has_still xs text name later)
      ]
    ]

-- the texts of a set are in order as its keys are
all_above : {Y : Type 0} (key : String Y) (keys : List (String Y))
    → AllByRecursion (λ other. string_cmp key other ≡ Less) keys
    → AllByRecursion (λ other. slice_cmp nat_cmp (string_bytes key) other ≡ Less) (map string_bytes keys)
all_above key [] all = tt
all_above key (x ∷ xs) all = (all.0, all_above key xs all.1)

pub texts_in_order : {Y : Type 0} (keys : List (String Y)) → IsStrictlySortedBy string_cmp keys
    → IsStrictlySortedBy (slice_cmp nat_cmp) (map string_bytes keys)
unfolding IsStrictlySortedBy
texts_in_order [] sorted = tt
texts_in_order (x ∷ xs) sorted = (all_above x xs sorted.0, texts_in_order xs sorted.1)

-- ---- what a line adds

module _ {Y : Type 0} (old : BTreeSet (String Y)) (bases : List (List ℕ)) (line : List ℕ) where
  pub gains_nothing : ((value : List ℕ) → ¬ LineMisses bases value line)
      → GainsTexts old (λ value. LineMisses bases value line) old
  gains_nothing none text = (λ c. inl c, λ either. elim either [ inl c ↦ c | inr misses ↦ absurd (none text misses) ])

  pub gains_one : (new : BTreeSet (String Y)) (value : List ℕ)
      → ((other : List ℕ) → IsFooter line other → other ≡ value)
      → IsFooter line value → IsNearMiss bases value
      → map string_bytes new.keys ≡ insert_key (slice_cmp nat_cmp) (map string_bytes old.keys) value
      → GainsTexts old (λ value. LineMisses bases value line) new
  gains_one new value only footer near is text = (
    λ c. elim (put_in (map string_bytes old.keys) value text (subst (λ l. Contains l text) is c)) [
      | inl known ↦ inl known
      | inr same ↦ inr (subst (λ t. LineMisses bases t line) same (footer, near))
    ],
    λ either. subst (λ l. Contains l text) (sym is) (elim either [
      | inl known ↦ has_still (map string_bytes old.keys) value text known
      | inr misses ↦ subst (Contains (insert_key (slice_cmp nat_cmp) (map string_bytes old.keys) value))
          (sym (only text misses.0)) (has_put (map string_bytes old.keys) value)
    ]),
  )

-- ---- what several add, one after another

module _ {Y X : Type 0} (P : List ℕ → X → Type 0) (start : BTreeSet (String Y)) where
  pub gains_none : GainsTexts start (λ text. SomeIs (P text) []) start
  gains_none text = (λ c. inl c, λ either. elim either [ inl c ↦ c | inr some ↦ absurd some ])

  -- those so far, and one more
  pub gains_more : (now new : BTreeSet (String Y)) (xs : List X) (x : X)
      → GainsTexts start (λ text. SomeIs (P text) xs) now
      → GainsTexts now (λ text. P text x) new → GainsTexts start (λ text. SomeIs (P text) (xs ++ x ∷ [])) new
  gains_more now new xs x so_far step text = (
    λ c. elim ((step text).0 c) [
      | inl known ↦ elim
          ((so_far text).0 known) [ inl first ↦ inl first | inr some ↦ inr (in_first (P text) xs (x ∷ []) some) ]
      | inr here ↦ inr (in_second (P text) xs (x ∷ []) (inl here))
    ],
    λ either. (step text).1 (elim either [
      | inl first ↦ inl ((so_far text).1 (inl first))
      | inr some ↦ elim (in_either (P text) xs (x ∷ []) some) [
        | inl before ↦ inl ((so_far text).1 (inr before))
        | inr last ↦ inr (alone (P text) x last)
      ]
    ]),
  )

  pub gains_alone : (new : BTreeSet (String Y)) (x : X) → GainsTexts start (λ text. P text x) new
      → GainsTexts start (λ text. SomeIs (P text) (x ∷ [])) new
  gains_alone new x step text = (
    λ c. elim ((step text).0 c) [ inl known ↦ inl known | inr here ↦ inr (inl here) ],
    λ either. (step text).1 (elim either [ inl known ↦ inl known | inr some ↦ inr (alone (P text) x some) ]),
  )

-- ---- what is left

-- what is there, and what those that are left add, is what was there, and what all add
abbrev pub Leaves : {Y X : Type 0} → (List ℕ → X → Type 0) → BTreeSet (String Y) → List X → BTreeSet (String Y) → List X
    → Type 0
Leaves P start whole now rest = (text : List ℕ)
    → (Contains (map string_bytes now.keys) text ⊎ SomeIs (P text) rest)
    ↔ (Contains (map string_bytes start.keys) text ⊎ SomeIs (P text) whole)

module _ {Y X : Type 0} (P : List ℕ → X → Type 0) (start : BTreeSet (String Y)) (whole rest : List X) where
  pub leaves_all : rest ≡ whole → Leaves P start whole start rest
  leaves_all same text = (
    λ either. elim either [ inl c ↦ inl c | inr some ↦ inr (subst (SomeIs (P text)) same some) ],
    λ either. elim either [ inl c ↦ inl c | inr some ↦ inr (subst (SomeIs (P text)) (sym same) some) ],
  )

  -- some are added, and the later ones are left
  pub leaves_later : (now new : BTreeSet (String Y)) (part later : List X) → rest ≡ part ++ later
      → GainsTexts now (λ text. SomeIs (P text) part) new → Leaves P start whole now rest
      → Leaves P start whole new later
  leaves_later now new part later is step left text = (
    λ either. (left text).0 (elim either [
      | inl c ↦ elim ((step text).0 c) [
        | inl known ↦ inl known
        | inr some ↦ inr (subst (SomeIs (P text)) (sym is) (in_first (P text) part later some))
      ]
      | inr some ↦ inr (subst (SomeIs (P text)) (sym is) (in_second (P text) part later some))
    ]),
    λ either. elim ((left text).1 either) [
      | inl known ↦ inl ((step text).1 (inl known))
      | inr some ↦ elim (in_either (P text) part later (subst (SomeIs (P text)) is some)) [
        | inl here ↦ inl ((step text).1 (inr here))
        | inr more ↦ inr more
      ]
    ],
  )

  pub leaves_none : (now : BTreeSet (String Y)) → rest ≡ [] → Leaves P start whole now rest
      → GainsTexts start (λ text. SomeIs (P text) whole) now
  leaves_none now none left text = (
    λ c. (left text).0 (inl c),
    λ either. elim ((left text).1 either) [ inl c ↦ c | inr some ↦ absurd (subst (SomeIs (P text)) none some) ],
  )

-- what is added to none
pub gains_from_empty : {Y : Type 0} (P : List ℕ → Type 0) (start now : BTreeSet (String Y)) → start.keys ≡ []
    → GainsTexts start P now
    → (text : List ℕ) → Contains (map string_bytes now.keys) text ↔ P text
gains_from_empty P start now none gains text = (
  λ c. elim ((gains text).0 c) [
    | inl there ↦ absurd (Contains-none text (subst (λ keys. Contains (map string_bytes keys) text) none there))
    | inr so ↦ so
  ],
  λ so. (gains text).1 (inr so),
)
