-- The children of a change, entry by entry of a state.
use Rattle.std.specs.Prelude.{◌≡◌, ℕ, List, ◌∷◌, Option, None, Some}
use Rattle.std.proofs.Common.{refl, sym, ap, ◌∙◌, subst, inl, inr}
use Rattle.std.proofs.lemmas.Bool.{false≢true}
use Rattle.std.specs.BTreeSet.{BTreeSet}
use Rattle.std.specs.FinMap.{entries, get, get-empty}
use Rattle.std.specs.Option.{is_some}
use Rattle.std.specs.Ordering.{nat_cmp}
use Rattle.lattice_core.specs.EntryLaws.{entry-get, get-entry}
use Rattle.lattice_core.specs.Keep.{numbers_exact}
use Rattle.lattice_core.specs.MemberLaws.{Contains-cons_cases, Contains-first, Contains-later}
use Rattle.change_core.specs.Change.{Change, no_change}
use Rattle.state_core.specs.State.{State}
use Rattle.event_filter.specs.Asking.{Gains, IsChild}
use Rattle.event_filter.specs.Recorded.{change_at, change_or_none}
use Rattle.event_filter.proofs.Asks.{SomeAsk}

abbrev pub AsksForChild : ℕ → ℕ × Change → ℕ → Type 0
AsksForChild parent entry number = (entry.0 ≡ number) × IsChild entry.1 parent

-- what the entries that are left add completes the whole
abbrev pub Completes : ℕ → State → List (ℕ × Change) → BTreeSet ℕ → BTreeSet ℕ → Type 0
Completes parent state left initial asks =
    (all : BTreeSet ℕ) → Gains (SomeAsk (AsksForChild parent) left) asks all
    → Gains (SomeAsk (AsksForChild parent) (entries state)) initial all

-- ---- one entry more

module _ {X : Type 0} (asks : X → ℕ → Type 0) (x : X) (xs : List X) where
  pub first_asks : (old mid new : BTreeSet ℕ) → Gains (asks x) old mid → Gains (SomeAsk asks xs) mid new
      → Gains (SomeAsk asks (x ∷ xs)) old new
  first_asks old mid new here after number = (
    λ has. elim ((after number).0 has) [
      | inl had ↦ elim ((here number).0 had) [
        | inl first ↦ inl first
        | inr asked ↦ inr (x, Contains-first x xs, asked)
      ]
      | inr some ↦ inr (some.0, Contains-later x xs some.0 some.1, some.2)
    ],
    λ given. elim given [
      | inl first ↦ (after number).1 (inl ((here number).1 (inl first)))
      | inr some ↦ elim (Contains-cons_cases x xs some.0 some.1) [
        | inl same ↦ (after number).1 (inl ((here number).1 (inr (subst (λ y. asks y number) (sym same) some.2))))
        | inr more ↦ (after number).1 (inr (some.0, more, some.2))
      ]
    ],
  )

pub passed : (parent : ℕ) (state : State) (entry : ℕ × Change) (before after : List (ℕ × Change))
    (initial asks new : BTreeSet ℕ) → before ≡ entry ∷ after → Completes parent state before initial asks
    → Gains (AsksForChild parent entry) asks new → Completes parent state after initial new
passed parent state entry before after initial asks new first completes here all gains =
    completes all (subst (λ es. Gains (SomeAsk (AsksForChild parent) es) asks all) (sym first)
    (first_asks (AsksForChild parent) entry after asks new all here gains))

-- ---- all entries

no_child : (parent : ℕ) → ¬ IsChild no_change parent
no_child parent is = absurd (false≢true (sym (ap is_some (get-empty nat_cmp is.1.0)) ∙ is.1.1.known))

pub children : (state : State) (parent : ℕ) (old new : BTreeSet ℕ)
    → Gains (SomeAsk (AsksForChild parent) (entries state)) old new
    → Gains (λ number. IsChild (change_at state number) parent) old new
children state parent old new gains number = (
  λ has. elim ((gains number).0 has) [
    | inl had ↦ inl had
    | inr some ↦
        let there : get state some.0.0 ≡ Some some.0.1 = get-entry numbers_exact state some.0.0 some.0.1 some.1 in
        inr (subst (λ n. IsChild (change_at state n) parent) some.2.0
        (subst (λ found. IsChild (change_or_none found) parent) (sym there) some.2.1))
  ],
  λ given. elim given [
    | inl had ↦ (gains number).1 (inl had)
    | inr is ↦ (gains number).1 (inr (by_entry (get state number) refl is))
  ],
) where
  by_entry : (found : Option Change) → get state number ≡ found → IsChild (change_or_none found) parent
      → SomeAsk (AsksForChild parent) (entries state) number
  by_entry None e is = absurd (no_child parent is)
  by_entry (Some change) e is = ((number, change), entry-get numbers_exact state number change e, (refl, is))
