-- What a list of findings asks for, one after the other.
use Rattle.std.proofs.Common.{◌≡◌, ℕ, ◌+◌, ◌<◌, List, [], ◌∷◌, ◌++◌, length, get_or, take, true, false, refl, sym, subst, inl, inr, ◌∙◌}
use Rattle.std.proofs.lemmas.Bool.{false≢true}
use Rattle.std.proofs.lemmas.List.{take_more}
use Rattle.std.proofs.lemmas.List.Elements.{Contains-append_cases, Contains-append_left, Contains-append_right}
use Rattle.std.specs.BTreeSet.{BTreeSet, contains}
use Rattle.std.specs.Ordering.{nat_cmp}
use Rattle.std.specs.Prelude.{◌↔◌, Contains}
use Rattle.lattice_core.specs.MemberLaws.{Contains-cons_cases, Contains-first, Contains-none}
use Rattle.event_filter.specs.Asking.{Gains}

module _ {X : Type 0} (asks : X → ℕ → Type 0) where
  abbrev pub SomeAsk : List X → ℕ → Type 0
  SomeAsk xs number = (x : X) × Contains xs x × asks x number

  pub none_ask : (old : BTreeSet ℕ) → Gains (SomeAsk []) old old
  none_ask old number =
      (λ has. inl has, λ had. elim had [ inl has ↦ has | inr some ↦ absurd (Contains-none some.0 some.1) ])

  one_more : (xs : List X) (x : X) (old mid new : BTreeSet ℕ) → Gains (SomeAsk xs) old mid → Gains (asks x) mid new
      → Gains (SomeAsk (xs ++ x ∷ [])) old new
  one_more xs x old mid new before here number = (
    λ has. elim ((here number).0 has) [
      | inl had ↦ elim ((before number).0 had) [
        | inl first ↦ inl first
        | inr some ↦ inr (some.0, Contains-append_left xs (x ∷ []) some.0 some.1, some.2)
      ]
      | inr asked ↦ inr (x, Contains-append_right xs (x ∷ []) x (Contains-first x []), asked)
    ],
    λ given. elim given [
      | inl first ↦ (here number).1 (inl ((before number).1 (inl first)))
      | inr some ↦ elim (Contains-append_cases xs (x ∷ []) some.0 some.1) [
        | inl early ↦ (here number).1 (inl ((before number).1 (inr (some.0, early, some.2))))
        | inr last ↦ elim (Contains-cons_cases x [] some.0 last) [
          | inl same ↦ (here number).1 (inr (subst (λ y. asks y number) (sym same) some.2))
          | inr none ↦ absurd (Contains-none some.0 none)
        ]
      ]
    ],
  )

  pub asks_more : (xs : List X) (i : ℕ) (d : X) → i < length xs → (old mid new : BTreeSet ℕ)
      → Gains (SomeAsk (take i xs)) old mid → Gains (asks (get_or xs i d)) mid new
      → Gains (SomeAsk (take (i + 1) xs)) old new
  asks_more xs i d within old mid new before here =
      subst (λ ys. Gains (SomeAsk ys) old new) (sym (take_more xs i d within))
      (one_more (take i xs) (get_or xs i d) old mid new before here)

-- what is asked for where each of these is another way to say that
pub gains_named : (M A B : ℕ → Type 0) (xs : List ℕ) (old new : BTreeSet ℕ) → ((n : ℕ) → Contains xs n ↔ M n)
    → Gains (SomeAsk (λ x n. (x ≡ n) × A n × B n) xs) old new → Gains (λ n. M n × A n × B n) old new
gains_named M A B xs old new named gains number = (
  λ has. elim ((gains number).0 has) [
    | inl had ↦ inl had
    | inr some ↦ inr ((named number).0 (subst (Contains xs) some.2.0 some.1), some.2.1, some.2.2)
  ],
  λ given. elim given [
    | inl had ↦ (gains number).1 (inl had)
    | inr asked ↦ (gains number).1 (inr (number, (named number).1 asked.0, (refl, asked.1, asked.2)))
  ],
)

-- what is asked for where nothing was before
pub gains_alone : (P : ℕ → Type 0) (old new : BTreeSet ℕ) → ((n : ℕ) → contains nat_cmp old n ≡ false) → Gains P old new
    → (number : ℕ) → (contains nat_cmp new number ≡ true) ↔ P number
gains_alone P old new none gains number = (
  λ has. elim ((gains number).0 has) [
    | inl had ↦ absurd (false≢true (sym (none number) ∙ had))
    | inr asked ↦ asked
  ],
  λ asked. (gains number).1 (inr asked),
)
