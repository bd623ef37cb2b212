-- From an item that is left out on to the next one.
use Rattle.std.proofs.Common.{◌≡◌, ℕ, ◌≤◌, List, [], ◌∷◌, ◌++◌, Contains, suc, refl, sym, ap, ◌∙◌, subst, arith, Option}
use Rattle.std.proofs.Common.{Some, None}
use Rattle.std.specs.Prelude.{slice_get}
use Rattle.std.specs.FinMap as finite
use Rattle.std.specs.List.Sorted.{IsStrictlySortedBy}
use Rattle.change_core.specs.Change.{Change}
use Rattle.change_core.specs.Views.{IsCurrent, IsGreatestKnown}
use Rattle.state_core.specs.State.{State}
use Rattle.state_core.specs.Items.{item_cmp}
use Rattle.ready_core.specs.declared.verdicts.Left.{Left}
use Rattle.ready_core.specs.declared.verdicts.Refusal.{Refusal}
use Rattle.ready_core.specs.declared.verdicts.Refusal.TheVariants.{Own, Cycle, Unknown, Dependency}
use Rattle.ready_core.specs.Verdicts.{Judged, LeadsFrom, LeadsOn, IsLeftAt, items_out}
use Rattle.why_text.specs.Chain.{Path, IsCause}
use Rattle.why_text.proofs.Lookups.{one_left}

-- ---- a path grows at its end
pub Path-push : {X : Type 0} (R : X → X → Type 0) (xs : List X) (x y : X) → Path R (xs ++ x ∷ []) → R x y
    → Path R ((xs ++ x ∷ []) ++ y ∷ [])
Path-push R [] x y path related = (related, tt)
Path-push R (a ∷ []) x y path related = (path.0, (related, tt))
Path-push R (a ∷ b ∷ rest) x y path related = (path.0, Path-push R (b ∷ rest) x y path.1 related)

pub first-push : {X : Type 0} (xs : List X) (x y : X)
    → slice_get ((xs ++ x ∷ []) ++ y ∷ []) 0 ≡ slice_get (xs ++ x ∷ []) 0
first-push [] x y = refl
first-push (a ∷ xs) x y = refl

-- ---- where an item leads
one_change : (state : State) (a b : Change) (number : ℕ) → finite.get state number ≡ Some a
    → finite.get state number ≡ Some b → a ≡ b
one_change state a b number p q = cc

same_greatest : (a b : ℕ) → a ≤ b → b ≤ a → a ≡ b
same_greatest a b p q = omega (arith, p, q)

pub leads_at : (state : State) (verdicts : Judged) (left : Left) (number : ℕ) → LeadsOn state verdicts left
    → left.refusal ≡ Dependency number
    → (rest : ℕ) × (left.rank ≡ suc rest) × IsLeftAt state verdicts number rest
leads_at state verdicts left number leads waits =
    subst (λ refusal. LeadsFrom state verdicts refusal left.rank) waits leads

-- what isn't left out for a dependency is a cause, at rank 0
pub cause_at : (state : State) (verdicts : Judged) (refusal : Refusal) (rank : ℕ)
    → LeadsFrom state verdicts refusal rank → ((number : ℕ) → ¬ (refusal ≡ Dependency number))
    → IsCause refusal × (rank ≡ 0)
cause_at state verdicts (Own condition) rank leads not_waiting = (tt, leads)
cause_at state verdicts Cycle rank leads not_waiting = (tt, leads)
cause_at state verdicts (Unknown number) rank leads not_waiting = (tt, leads)
cause_at state verdicts (Dependency number) rank leads not_waiting = absurd (not_waiting number refl)

module _ (state : State) (verdicts : Judged) (number rest : ℕ) (at : IsLeftAt state verdicts number rest) where
  some_current : (change : Change) (found : Option ℕ) → change ≡ at.current.change → IsCurrent change found
      → (found ≡ Some at.next.item.set)
  some_current change None same none = absurd
      (none at.next.item.set (subst (λ c. IsGreatestKnown c at.next.item.set) (sym same) at.current.greatest).known)
  some_current change (Some set) same is =
      let greatest = subst (λ c. IsGreatestKnown c at.next.item.set) (sym same) at.current.greatest in
      ap Some (same_greatest set at.next.item.set (greatest.greatest set is.known) (is.greatest at.next.item.set greatest.known))

  pub current_there : (change : Change) (found : Option ℕ) → change ≡ at.current.change → IsCurrent change found
      → found ≡ Some at.next.item.set
  current_there = some_current

  pub next_item : (set : ℕ) → set ≡ at.next.item.set → at.next.item ≡ record { change = number; set = set }
  next_item set same = ap (λ n. record { change = n; set = at.next.item.set }) at.of
      ∙ ap (λ n. record { change = number; set = n }) (sym same)

  pub next_is : IsStrictlySortedBy item_cmp (items_out verdicts.out) → (result : Left) → Contains verdicts.out result
      → at.next.item ≡ result.item → at.next ≡ result
  next_is sorted result out same = one_left verdicts.out sorted at.next result at.out out same
