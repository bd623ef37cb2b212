-- What an item waits for, from what it names.
use Rattle.std.proofs.Common.{◌≡◌, ◌≢◌, ◌↔◌, ℕ, Bool, true, false, not, List, [], ◌∷◌, ◌++◌, Contains, filter, Some}
use Rattle.std.proofs.Common.{eqb, refl, sym, subst, inl, inr}
use Rattle.std.specs.FinMap as finite
use Rattle.std.specs.Ordering.{nat_cmp}
use Rattle.std.specs.List.Retain.{IsFiltered, DiffersFromLast}
use Rattle.std.specs.List.Sorted.{IsPermutation, IsSorted}
use Rattle.std.proofs.lemmas.Bool.{false≢true}
use Rattle.std.proofs.lemmas.List.Elements.{Contains-push, Contains-push_cases, Contains-append_left}
use Rattle.change_core.specs.Change.{Change}
use Rattle.change_core.specs.Views.{message_of, parent_of}
use Rattle.footer_text.specs.Footers.{AreFooters, MessageNeeds}
use Rattle.gate_rules.specs.Rules.{GateRules}
use Rattle.state_core.specs.declared.item.Item.{Item}
use Rattle.state_core.specs.State.{State}
use Rattle.graph_core.specs.Dependencies.{IsNeeded, IsParent, Names}
use Rattle.graph_core.specs.ItemGraph.{AreTargets}
use Rattle.graph_core.specs.Once.{once_each}
use Rattle.lattice_core.specs.MemberLaws.{Contains-of_filter, Contains-to_filter}
use Rattle.state_core.specs.Known.{merged_in}
use Rattle.state_core.specs.KnownLaws.{merged_test}

-- ---- what an item names
module _ (gate : GateRules) (state : State) (item : Item) (change : Change) (message needs : List ℕ)
    (ignored : List (List ℕ))
    (stands : finite.get state item.change ≡ Some change) (said : message_of change item.set ≡ Some message)
    (bases : List (List ℕ)) (same_bases : bases ≡ gate.bases)
    (found_under : AreFooters bases item.change message needs ignored) where
  found : AreFooters gate.bases item.change message needs ignored
  found = subst (λ texts. AreFooters texts item.change message needs ignored) same_bases found_under

  one_change : (other : Change) → finite.get state item.change ≡ Some other → other ≡ change
  one_change other e = cc

  one_message : (other : Change) (text : List ℕ) → finite.get state item.change ≡ Some other
      → message_of other item.set ≡ Some text → text ≡ message
  one_message other text e said_it =
      let same : message_of change item.set ≡ Some text = subst (λ c. message_of c item.set ≡ Some text) (one_change other e) said_it in cc

  needed_by : (number : ℕ) → IsNeeded gate state item number → Contains needs number
  needed_by number is = (found.needed number).1 (subst (λ m. MessageNeeds gate.bases item.change m number) (one_message is.change is.message is.stands is.said) is.needs)

  names_need : (number : ℕ) → Contains needs number → IsNeeded gate state item number
  names_need number c =
      record { change = change; stands = stands; message = message; said = said; needs = (found.needed number).0 c }

  parent_is : (number : ℕ) → IsParent state item number → parent_of change item.set ≡ Some number
  parent_is number is = subst (λ c. parent_of c item.set ≡ Some number) (one_change is.change is.stands) is.parent

  pub names_alone : ((number : ℕ) → parent_of change item.set ≡ Some number → number ≡ item.change) → (number : ℕ)
      → Contains needs number ↔ Names gate state item number
  names_alone own number = (
    λ c. inl (names_need number c),
    λ names. elim names [ inl need ↦ needed_by number need | inr parent ↦ absurd (parent.other (own number (parent_is number parent))) ],
  )

  pub names_with : (parent : ℕ) → parent_of change item.set ≡ Some parent → parent ≢ item.change → (number : ℕ)
      → Contains (needs ++ parent ∷ []) number ↔ Names gate state item number
  names_with parent is other number = (
    λ c. elim (Contains-push_cases needs parent number c) [
      | inl need ↦ inl (names_need number need)
      | inr same ↦ inr (record { change = change; stands = stands; parent = subst (λ n. parent_of change item.set ≡ Some n) same is; other = subst (λ n. n ≢ item.change) same other })
    ],
    λ names. elim names [
      | inl need ↦ Contains-append_left needs (parent ∷ []) number (needed_by number need)
      | inr its ↦ let same : parent ≡ number = one_parent (parent_is number its) in subst
          (Contains (needs ++ parent ∷ [])) same (Contains-push needs parent)
    ],
  ) where
    one_parent : parent_of change item.set ≡ Some number → parent ≡ number
    one_parent e = cc

-- ---- what it waits for
stays : (b : Bool) → ¬ (b ≡ true) → not b ≡ true
stays true h = absurd (h refl)
stays false h = refl

stayed : (b : Bool) → not b ≡ true → ¬ (b ≡ true)
stayed true h e = false≢true h
stayed false h e = false≢true e

-- whether a change isn't merged
abbrev pub is_open_in : State → ℕ → Bool
is_open_in state number = not (merged_in (finite.get state number))

pub settled : (gate : GateRules) (state : State) (item : Item) (names kept sorted once : List ℕ)
    → ((number : ℕ) → Contains names number ↔ Names gate state item number)
    → kept ≡ filter (is_open_in state) names
    → IsPermutation kept sorted → IsSorted nat_cmp sorted → IsFiltered (DiffersFromLast eqb) [] sorted once
    → AreTargets gate state item once
settled gate state item names kept sorted once named kept_is moved in_order filtered =
    let is = once_each kept sorted once moved in_order filtered in
    record {
      increasing = is.increasing;
      each = λ n. (
        λ c.
            let passed = Contains-of_filter (is_open_in state) names n (subst (λ l. Contains l n) kept_is ((is.each n).0 c)) in
            ((named n).0 passed.0, λ merged. stayed (merged_in (finite.get state n)) passed.1 ((merged_test state n).1 merged)),
        λ target.
            let in_names = (named n).1 target.0 in
            let unmerged = stays (merged_in (finite.get state n)) (λ e. target.1 ((merged_test state n).0 e)) in
            (is.each n).1 (subst (λ l. Contains l n) (sym kept_is) (Contains-to_filter (is_open_in state) names n in_names unmerged)),
      );
    }
