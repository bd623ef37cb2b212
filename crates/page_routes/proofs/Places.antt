-- Where the comma of a place is: its numbers have none.
use Rattle.std.proofs.Common.{◌≡◌, ◌<◌, ◌^◌, ◌+◌, ◌%◌, ◌++◌, ◌==◌, ◌&&◌, ◌∷◌, [], ℕ, Bool, true, false, not, cond, List, None, Some, length, take, drop, IfSome, sym, ◌∙◌, ap, subst, refl, arith, length-append, zero-add}
use Rattle.std.specs.Fmt.{decimal}
use Rattle.std.specs.List.{list_all, prefix_len, position_or_len, before_first, after_first}
use Rattle.std.proofs.Math.Seq.{take-append_seam, drop-append-add}
use Rattle.std.proofs.lemmas.Bool.{ne_eqb}
use Rattle.std.proofs.lemmas.Fmt.{decimal_by_steps}
use Rattle.std.proofs.lemmas.List.{append-nil}
use Rattle.std.proofs.lemmas.List.Folds.{list_all-append}
use Rattle.page_routes.specs.Numbers.{IsDecimal}
use Rattle.page_routes.specs.Routes.{IsPlace, change_place_text}
use Rattle.page_routes.specs.declared.route.Place.{Place}

abbrev pub is_comma : ℕ → Bool
is_comma byte = byte == 44

abbrev pub is_other : ℕ → Bool
is_other byte = not (is_comma byte)

digit : (number : ℕ) → number < 10 → is_other (48 + number) ≡ true
digit number small = ap not (ne_eqb (48 + number) 44 (λ e. omega (arith, e)))

others : (number : ℕ) → number < 2 ^ 64 → list_all is_other (decimal number) ≡ true
others number small =
    decimal_by_steps (λ (n : ℕ) (ds : List ℕ). list_all is_other ds ≡ true)
    (λ n low. rw (digit n low) refl)
    (λ n ds low front.
    let last : n % 10 < 10 = omega arith in
    rw (list_all-append is_other ds ((48 + n % 10) ∷ []), front, digit (n % 10) last) refl)
    number small

past : (front rest : List ℕ) → list_all is_other front ≡ true
    → prefix_len is_other (front ++ rest) ≡ length front + prefix_len is_other rest
past [] rest all = sym (zero-add (prefix_len is_other rest))
past (byte ∷ front) rest all = elim (is_other byte) as (λ v. (v && list_all is_other front ≡ true) → (cond v (1 + prefix_len is_other (front ++ rest)) 0 ≡ length (byte ∷ front) + prefix_len is_other rest)) [
  | true ↦ λ same. let more = past front rest same in omega (arith, more)
  | false ↦ λ same. cc
] all

small64 : (number : ℕ) → number < 2 ^ 32 → number < 2 ^ 64
small64 number small = omega (arith, small)

-- the comma of a place with a set stands behind the number of the change
comma_at : (change : ℕ) (rest : List ℕ) → change < 2 ^ 32
    → position_or_len is_comma (decimal change ++ 44 ∷ rest) ≡ length (decimal change)
comma_at change rest small =
    let far = past (decimal change) (44 ∷ rest) (others change (small64 change small)) in omega (arith, far)

-- a number has no comma
no_comma : (change : ℕ) → change < 2 ^ 32 → position_or_len is_comma (decimal change) ≡ length (decimal change)
no_comma change small =
    let far = past (decimal change) [] (others change (small64 change small)) in
    let same = append-nil (decimal change) in
    let moved = subst (λ (l : List ℕ). prefix_len is_other l ≡ length (decimal change) + 0) same far in omega (arith, moved)

past_comma : (front rest : List ℕ) → drop (length front + 1) (front ++ 44 ∷ rest) ≡ rest
past_comma front rest = drop-append-add front (44 ∷ rest) 1

-- ---- a text that isn't read as a place names none

pub no_place : (text : List ℕ) → position_or_len is_comma text ≡ length text
    → ((number : ℕ) → ¬ IsDecimal text number) → (place : Place) → ¬ IsPlace text place
no_place text none unread place is = elim place.set as (λ set. (text ≡ decimal place.change ++ change_place_text set) → IfSome set (λ set. set < 2 ^ 32) → ⊥) [
  | None ↦ λ spelt small. unread place.change (is.1.0, spelt ∙ append-nil (decimal place.change))
  | Some set ↦ λ spelt small.
      let at = comma_at place.change (decimal set) is.1.0 in
      let size = length-append (decimal place.change) (44 ∷ decimal set) in
      let sized = ap length spelt in
      let here = subst (λ (l : List ℕ). position_or_len is_comma l ≡ length l) spelt none in
      omega (arith, at, size, here)
] is.0 is.1.1

pub no_place_before : (text before : List ℕ) → position_or_len is_comma text < length text → before ≡ before_first is_comma text
    → ((number : ℕ) → ¬ IsDecimal before number) → (place : Place) → ¬ IsPlace text place
no_place_before text before found cut unread place is = elim place.set as (λ set. (text ≡ decimal place.change ++ change_place_text set) → IfSome set (λ set. set < 2 ^ 32) → ⊥) [
  | None ↦ λ spelt small.
      let plain = spelt ∙ append-nil (decimal place.change) in
      let none = no_comma place.change is.1.0 in
      let here = subst (λ (l : List ℕ). position_or_len is_comma l < length l) plain found in
      omega (arith, none, here)
  | Some set ↦ λ spelt small.
      let at = comma_at place.change (decimal set) is.1.0 in
      let front = cut ∙ ap (before_first is_comma) spelt
      ∙ ap (λ (n : ℕ). take n (decimal place.change ++ 44 ∷ decimal set)) at
      ∙ take-append_seam (decimal place.change) (44 ∷ decimal set) in
      unread place.change (is.1.0, front)
] is.0 is.1.1

pub no_place_after : (text after : List ℕ) → position_or_len is_comma text < length text → after ≡ after_first is_comma text
    → ((number : ℕ) → ¬ IsDecimal after number) → (place : Place) → ¬ IsPlace text place
no_place_after text after found cut unread place is = elim place.set as (λ set. (text ≡ decimal place.change ++ change_place_text set) → IfSome set (λ set. set < 2 ^ 32) → ⊥) [
  | None ↦ λ spelt small.
      let plain = spelt ∙ append-nil (decimal place.change) in
      let none = no_comma place.change is.1.0 in
      let here = subst (λ (l : List ℕ). position_or_len is_comma l < length l) plain found in
      omega (arith, none, here)
  | Some set ↦ λ spelt small.
      let at = comma_at place.change (decimal set) is.1.0 in
      let back = cut ∙ ap (after_first is_comma) spelt
      ∙ ap (λ (n : ℕ). drop (n + 1) (decimal place.change ++ 44 ∷ decimal set)) at
      ∙ past_comma (decimal place.change) (decimal set) in
      unread set (small, back)
] is.0 is.1.1
