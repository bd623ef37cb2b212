-- The front that has the reach of each line is that of the journal.
use Rattle.std.proofs.Common.{◌≡◌, ◌≤◌, ◌<◌, ◌&&◌, ◌||◌, ◌==◌, inl, inr, ℕ, Bool, true, false, cond, max, List, [], ◌∷◌}
use Rattle.std.proofs.Common.{Option, None, Some, fold, length, get_or, refl, sym, ap, subst, ◌∙◌, arith, eq-eqb}
use Rattle.std.specs.Prelude.{IfSome}
use Rattle.std.specs.Option.{unwrap_or}
use Rattle.std.specs.FinMap.{empty, get, get-empty}
use Rattle.std.specs.List.{All, Contains, list_any}
use Rattle.std.proofs.Math.Nat.{max-eq_left, max-eq_right, zero-max}
use Rattle.std.proofs.lemmas.Bool.{false≢true, eqb-true, cases_lt}
use Rattle.std.proofs.lemmas.List.Elements.{All-head, All-tail}
use Rattle.std.proofs.lemmas.List.Folds.{list_any_at}
use Rattle.std.proofs.lemmas.List.{length-map}
use Rattle.review_ops.specs.Operation.{Operation}
use Rattle.replica_core.specs.Front.{Reaches, row_order, reach_of, holds, ReachesInto, IsFront, AreFromOneOn, IsGapless}
use Rattle.replica_core.specs.FrontLaws.{reach_of-raised, AreReached-empty, AreReached-raised}
use Rattle.replica_core.specs.RowLine.{RowLine}
use Rattle.replica_core.specs.Lines.{raised_by, front_of, row_of, rows_of, AreLines}
use Rattle.replica_core.proofs.Sought.{both}
use Rattle.replica_core.proofs.LineLists.{none_held, row_at, empty_line}

-- ---- what is reached is numbered from 1 on
reached_from : (lines : List RowLine) (front : Reaches) → AreFromOneOn front → AreFromOneOn (fold raised_by front lines)
reached_from [] front reached = reached
reached_from (line ∷ lines) front reached =
    reached_from lines (raised_by front line) (AreReached-raised front line.site line.start line.reach reached)

-- ---- the reach of a row
module _ (site start : ℕ) where
  abbrev is_row : RowLine → Bool
  is_row line = line.site == site && line.start == start

  abbrev reach_after : ℕ → RowLine → ℕ
  reach_after reach line = cond (is_row line) (max reach line.reach) reach

  reach_by : (lines : List RowLine) (front : Reaches)
      → reach_of (fold raised_by front lines) site start ≡ fold reach_after (reach_of front site start) lines
  reach_by [] front = refl
  reach_by (line ∷ lines) front = reach_by lines (raised_by front line)
      ∙ ap (λ n. fold reach_after n lines) (reach_of-raised front line.site line.start line.reach site start)

  one_of : (P : ℕ → Type 0) (a b : ℕ) → P a → P b → P (max a b)
  one_of P a b at_a at_b = elim (cases_lt a b) [
    | inl low ↦ subst P (sym (max-eq_right (omega (arith, low)))) at_b
    | inr high ↦ subst P (sym (max-eq_left (omega (arith, high)))) at_a
  ]

  module _ (P : ℕ → Type 0) where
    stays : (lines : List RowLine) → All (λ line. is_row line ≡ true → P line.reach) lines → (reach : ℕ) → P reach
        → P (fold reach_after reach lines)
    stays [] all reach is = is
    stays (line ∷ lines) all reach is =
        stays lines (All-tail (λ l. is_row l ≡ true → P l.reach) line lines all) (reach_after reach line)
        (elim (is_row line) as (λ t. is_row line ≡ t → P (cond t (max reach line.reach) reach)) [
          | true ↦ λ e. one_of P reach line.reach is (All-head (λ l. is_row l ≡ true → P l.reach) line lines all e)
          | false ↦ λ e. is
        ] refl)

    comes : (lines : List RowLine) → All (λ line. is_row line ≡ true → P line.reach) lines
        → list_any is_row lines ≡ true → P (fold reach_after 0 lines)
    comes [] all some = cc
    comes (line ∷ lines) all some = elim (is_row line) as (λ t. is_row line ≡ t → (t || list_any is_row lines) ≡ true → P (fold reach_after (cond t (max 0 line.reach) 0) lines)) [
      | true ↦ λ e h. stays lines (All-tail (λ l. is_row l ≡ true → P l.reach) line lines all) (max 0 line.reach)
          (subst P (sym (zero-max line.reach)) (All-head (λ l. is_row l ≡ true → P l.reach) line lines all e))
      | false ↦ λ e h. comes lines (All-tail (λ l. is_row l ≡ true → P l.reach) line lines all) h
    ] refl some

  nothing : (lines : List RowLine) → list_any is_row lines ≡ false → fold reach_after 0 lines ≡ 0
  nothing [] none = refl
  nothing (line ∷ lines) none = elim (is_row line) as (λ t. (t || list_any is_row lines) ≡ false → fold reach_after (cond t (max 0 line.reach) 0) lines ≡ 0) [
    | true ↦ λ h. absurd (false≢true (sym h))
    | false ↦ λ h. nothing lines h
  ] none

module _ (journal : List Operation) (lines : List RowLine) (are : AreLines journal lines) (site start : ℕ) where
  row_is : (line : RowLine) → is_row site start line ≡ true → (line.site ≡ site) × (line.start ≡ start)
  row_is line e = let parts = both (line.site == site) (line.start == start) e in (eqb-true line.site site parts.0, eqb-true line.start start parts.1)

  all_right : All (λ line. is_row site start line ≡ true → IsGapless (holds journal site start) line.reach) lines
  all_right k d low e =
      let line = get_or lines k d in
      let row = row_is line e in
      subst (λ held. IsGapless held line.reach) (λ i. holds journal (row.0 i) (row.1 i)) (are.each k d low).reach

  row_there : Contains (rows_of lines) (site, start) → list_any (is_row site start) lines ≡ true
  row_there there =
      let k = there.0 in
      let low : k < length lines = omega (arith, there.1, length-map lines row_of) in
      let line = get_or lines k (empty_line site start) in
      let row : row_of line ≡ (site, start) = sym (row_at lines k low (site, start) (empty_line site start)) ∙ there.2 in
      list_any_at (is_row site start) lines k (empty_line site start) low (ap (λ t. t && line.start == start) (eq-eqb line.site site (ap (λ r. r.0) row)) ∙ eq-eqb line.start start (ap (λ r. r.1) row))

  abbrev Right : ℕ → Type 0
  Right reach = IsGapless (holds journal site start) reach

  right_at : (found : Bool) → list_any (is_row site start) lines ≡ found → Right (fold (reach_after site start) 0 lines)
  right_at true e = comes site start Right lines all_right e
  right_at false e = subst Right (sym (nothing site start lines e)) (record {
    gapless = λ seq low high. absurd (omega (arith, low, high));
    ends = none_held journal lines are site start (λ there. false≢true (sym e ∙ row_there there)) 1;
  })

  right : Right (reach_of (front_of lines) site start)
  right = subst Right (sym (reach_by site start lines empty ∙ ap (λ found. fold (reach_after site start) (unwrap_or found 0) lines) (get-empty row_order (site, start)))) (right_at (list_any (is_row site start) lines) refl)

into : (held : ℕ → Bool) (found : Option ℕ) → IfSome found (λ reach. 1 ≤ reach) → IsGapless held (unwrap_or found 0)
    → ReachesInto held found
into held None some is = is.ends
into held (Some reach) some is = (some, is)

pub IsFront-lines : (journal : List Operation) (lines : List RowLine) → AreLines journal lines
    → IsFront journal (front_of lines)
IsFront-lines journal lines are site start =
    into (holds journal site start) (get (front_of lines) (site, start))
    (reached_from lines empty AreReached-empty site start) (right journal lines are site start)
