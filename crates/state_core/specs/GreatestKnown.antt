-- A change with a known patch set has a greatest one.
use Rattle.std.specs.Prelude.{◌≤◌, ℕ, List, [], ◌∷◌, Contains}
use Rattle.std.specs.FinMap.{get, entries}
use Rattle.std.proofs.Common.{subst, arith, inl, inr}
use Rattle.std.proofs.lemmas.Bool.{cases_lt}
use Rattle.lattice_core.specs.Keep.{numbers_exact}
use Rattle.lattice_core.specs.EntryLaws.{some_of, is_some_of, get-entry, entry-get}
use Rattle.lattice_core.specs.MemberLaws.{Contains-cons_cases, Contains-first, Contains-later, Contains-none}
use Rattle.change_core.specs.Change.{Change}
use Rattle.change_core.specs.Views.{IsKnownSet, IsGreatestKnown}

-- ---- the greatest key
record IsGreatestOf {X : Type 0} (es : List (ℕ × X)) (e : ℕ × X) : Type 0 where
  has : Contains es e
  greatest : (f : ℕ × X) → Contains es f → f.0 ≤ e.0

one_alone : {X : Type 0} (e : ℕ × X) → IsGreatestOf (e ∷ []) e
one_alone e = record {
  has = Contains-first e [];
  greatest = λ f c. elim (Contains-cons_cases e [] f c) [ inl same ↦ subst (λ g. g.0 ≤ e.0) same (omega arith) | inr none ↦ absurd (Contains-none f none) ];
}

greatest_entry : {X : Type 0} (e : ℕ × X) (es : List (ℕ × X)) → (g : ℕ × X) × IsGreatestOf (e ∷ es) g
greatest_entry e [] = (e, one_alone e)
greatest_entry e (f ∷ fs) =
    let rest = greatest_entry f fs in
    elim (cases_lt e.0 rest.0.0) [
      | inl less ↦ (
        rest.0,
        record {
          has = Contains-later e (f ∷ fs) rest.0 rest.1.has;
          greatest = λ h c. elim (Contains-cons_cases e (f ∷ fs) h c) [
            | inl same ↦ subst (λ g. g.0 ≤ rest.0.0) same (omega (arith, less))
            | inr later ↦ rest.1.greatest h later
          ];
        },
      )
      | inr not_less ↦ (
        e,
        record {
          has = Contains-first e (f ∷ fs);
          greatest = λ h c. elim (Contains-cons_cases e (f ∷ fs) h c) [
            | inl same ↦ subst (λ g. g.0 ≤ e.0) same (omega arith)
            | inr later ↦ let below = rest.1.greatest h later in omega (arith, below, not_less)
          ];
        },
      )
    ]

greatest_of_some : {X : Type 0} (es : List (ℕ × X)) (e : ℕ × X) → Contains es e → (g : ℕ × X) × IsGreatestOf es g
greatest_of_some [] e c = absurd (Contains-none e c)
greatest_of_some (f ∷ fs) e c = greatest_entry f fs

-- a change with a known patch set has a greatest one
pub greatest_known : (change : Change) (set : ℕ) → IsKnownSet change set
    → (current : ℕ) × IsGreatestKnown change current
greatest_known change set known =
    let patch = some_of (get change.sets set) known in
    let found = greatest_of_some (entries change.sets) (set, patch.0) (entry-get numbers_exact change.sets set patch.0 patch.1) in (
      found.0.0,
      record {
        known = is_some_of (get change.sets found.0.0) found.0.1
            (get-entry numbers_exact change.sets found.0.0 found.0.1 found.1.has);
        greatest = λ other is.
            let its = some_of (get change.sets other) is in
            found.1.greatest (other, its.0) (entry-get numbers_exact change.sets other its.0 its.1);
      },
    )
