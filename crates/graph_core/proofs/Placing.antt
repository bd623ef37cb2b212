-- The places of the last items of some changes, one change after the other.
use Rattle.std.proofs.Common.{◌≡◌, ◌≢◌, ◌<◌, ◌≤◌, ◌+◌, ℕ, cond, eqb, List, [], ◌∷◌, ◌++◌, take, length, get_or}
use Rattle.std.proofs.Common.{Contains, sym, ap, ◌∙◌, subst, arith, inl, inr}
use Rattle.std.specs.declared.cmp.Ordering.TheVariants.{Less, Equal, Greater}
use Rattle.std.specs.Ordering.{nat_cmp}
use Rattle.std.specs.List.Sorted.{IsStrictlyIncreasing, IsStrictlySortedBy}
use Rattle.std.proofs.lemmas.Bool.{lt-ltb}
use Rattle.std.proofs.lemmas.List.{take_more}
use Rattle.std.proofs.lemmas.List.Elements.{Contains-push, Contains-push_cases, Contains-append_left}
use Rattle.std.proofs.lemmas.Map.Keys.{sorted_from_strictly_increasing, IsStrictlyIncreasing-from_sorted}
use Rattle.state_core.specs.declared.item.Item.{Item}
use Rattle.state_core.specs.Items.{item_cmp}
use Rattle.graph_core.specs.ItemGraph.{IsAt}
use Rattle.graph_core.specs.Listed.{IsLastOf, ArePlaces}
use Rattle.lattice_core.specs.MemberLaws.{sorted_push}
use Rattle.walk_core.specs.SortedLists.{taken_below}
use Rattle.state_core.specs.ItemLaws.{changes_rise}

less_is : (m n : ℕ) → m < n → nat_cmp m n ≡ Less
less_is m n h = ap (λ b. cond b Less (cond (eqb m n) Equal Greater)) (lt-ltb m n h)

increasing_push : (xs : List ℕ) (n : ℕ) → IsStrictlyIncreasing xs → ((m : ℕ) → Contains xs m → m < n)
    → IsStrictlyIncreasing (xs ++ n ∷ [])
increasing_push xs n rising above =
    IsStrictlyIncreasing-from_sorted (xs ++ n ∷ [])
    (sorted_push nat_cmp xs n (sorted_from_strictly_increasing xs rising) (λ m c. less_is m n (above m c)))

least_place : (a b : ℕ) → ¬ (a < b) → ¬ (b < a) → a ≡ b
least_place a b p q = omega (arith, p, q)

less_unless : (a b : ℕ) → ¬ (b ≤ a) → a < b
less_unless a b h = omega (arith, h)

module _ (items : List Item) (sorted : IsStrictlySortedBy item_cmp items) where
  -- a change has one last item
  one_last : (number a b : ℕ) → IsLastOf items number a → IsLastOf items number b → a ≡ b
  one_last number a b p q = omega (arith, p.last b q.item q.here q.of, q.last a p.item p.here p.of)

  -- the last item of a lesser change comes before
  last_before : (m n a b : ℕ) → m < n → IsLastOf items m a → IsLastOf items n b → a < b
  last_before m n a b h p q = less_unless a b (λ back.
      let rises = changes_rise items sorted b a q.item p.item back q.here p.here in
      omega (arith, h, rises, p.of, q.of))

  pub ArePlaces-none : (numbers places : List ℕ) (number : ℕ) → ArePlaces items numbers places
      → ((place : ℕ) (item : Item) → IsAt items place item → item.change ≢ number)
      → ArePlaces items (numbers ++ number ∷ []) places
  ArePlaces-none numbers places number are none = record {
    increasing = are.increasing;
    each = λ place. (
      λ c. let found = (are.each place).0 c in (found.0, Contains-append_left numbers (number ∷ []) found.0 found.1, found.2),
      λ found. elim (Contains-push_cases numbers number found.0 found.1) [
        | inl before ↦ (are.each place).1 (found.0, before, found.2)
        | inr same ↦ absurd (none place found.2.item found.2.here (found.2.of ∙ sym same))
      ],
    );
  }

  pub ArePlaces-one : (numbers places : List ℕ) (number place : ℕ) → ArePlaces items numbers places
      → ((m : ℕ) → Contains numbers m → m < number) → IsLastOf items number place
      → ArePlaces items (numbers ++ number ∷ []) (places ++ place ∷ [])
  ArePlaces-one numbers places number place are above last = record {
    increasing = increasing_push places place are.increasing (λ other c.
        let found = (are.each other).0 c in last_before found.0 number other place
        (above found.0 found.1) found.2 last);
    each = λ other. (
      λ c. elim (Contains-push_cases places place other c) [
        | inl before ↦ let found = (are.each other).0 before in (found.0, Contains-append_left numbers (number ∷ []) found.0 found.1, found.2)
        | inr same ↦ (number, Contains-push numbers number, subst (IsLastOf items number) same last)
      ],
      λ found. elim (Contains-push_cases numbers number found.0 found.1) [
        | inl before ↦ Contains-append_left places (place ∷ []) other ((are.each other).1 (found.0, before, found.2))
        | inr same ↦ subst (Contains (places ++ place ∷ []))
            (one_last found.0 place other (subst (λ n. IsLastOf items n place) same last) found.2)
            (Contains-push places place)
      ],
    );
  }

  -- one change more of a rising list
  pub places_more_none : (numbers places : List ℕ) (i : ℕ) → i < length numbers
      → ArePlaces items (take i numbers) places
      → ((place : ℕ) (item : Item) → IsAt items place item → item.change ≢ get_or numbers i 0)
      → ArePlaces items (take (i + 1) numbers) places
  places_more_none numbers places i within are none =
      subst (λ l. ArePlaces items l places) (sym (take_more numbers i 0 within))
      (ArePlaces-none (take i numbers) places (get_or numbers i 0) are none)

  pub places_more : (numbers places : List ℕ) (i place : ℕ) → IsStrictlyIncreasing numbers → i < length numbers
      → ArePlaces items (take i numbers) places
      → IsLastOf items (get_or numbers i 0) place → ArePlaces items (take (i + 1) numbers) (places ++ place ∷ [])
  places_more numbers places i place rising within are last =
      subst (λ l. ArePlaces items l (places ++ place ∷ [])) (sym (take_more numbers i 0 within))
      (ArePlaces-one (take i numbers) places (get_or numbers i 0) place are (taken_below numbers i rising within) last)
