-- A dependency leads on to its current item, so that ranks are fewer than the items that are left out.
use Rattle.std.proofs.Common.{◌≡◌, ◌≤◌, ◌<◌, ◌==◌, ℕ, zero, suc, not, List, length, filter, Contains, refl, sym, ap}
use Rattle.std.proofs.Common.{◌∙◌, subst, arith, inl, inr}
use Rattle.std.proofs.lemmas.Bool.{eq-eqb, ne_eqb, cases_eq}
use Rattle.std.proofs.lemmas.List.Filters.{length-filter_both}
use Rattle.walk_core.specs.Walks.{IsDistance-once}
use Rattle.gate_rules.specs.Rules.{GateRules}
use Rattle.state_core.specs.Items.{IsItem}
use Rattle.state_core.specs.declared.item.Item.{Item}
use Rattle.state_core.specs.State.{State}
use Rattle.state_core.specs.Items.{IsCurrentItem}
use Rattle.graph_core.specs.Dependencies.{IsDependency}
use Rattle.lattice_core.specs.MemberLaws.{Contains-of_map, Contains-to_filter}
use Rattle.ready_core.specs.declared.verdicts.Refusal.{Refusal}
use Rattle.ready_core.specs.declared.verdicts.Refusal.TheVariants.{Own, Cycle, Unknown, Dependency}
use Rattle.ready_core.specs.declared.verdicts.Left.{Left}
use Rattle.ready_core.specs.Closed.{IsClosed-safe}
use Rattle.ready_core.specs.Refusals.{IsEligible, IsIneligible, IsReady, IsRefused, IsRefusalRank}
use Rattle.ready_core.specs.Verdicts.{AreVerdicts, Judged, LeadsFrom, IsLeftAt}
use Rattle.ready_core.proofs.Refusing.{refused_rank}

-- a list that has each number up to one as the rank of some element is longer than that
module _ {X : Type 0} (rank : X → ℕ) where
  more_than_ranks : (n : ℕ) (xs : List X) → ((k : ℕ) → k ≤ n → (x : X) × Contains xs x × (rank x ≡ k)) → n < length xs
  more_than_ranks zero xs has = let first = has 0 (omega arith) in let c = first.1 in omega (arith, c.1)
  more_than_ranks (suc n) xs has =
      let last = has (suc n) (omega arith) in
      let here = Contains-to_filter (λ x. rank x == suc n) xs last.0 last.1 (eq-eqb (rank last.0) (suc n) last.2) in
      let rest = more_than_ranks n (filter (λ x. not (rank x == suc n)) xs) (λ k less.
      let found = has k (omega (arith, less)) in
      (found.0, Contains-to_filter (λ x. not (rank x == suc n)) xs found.0 found.1 (ap not (ne_eqb (rank found.0) (suc n) (λ e. omega (arith, e, found.2, less)))), found.2)) in
      omega (arith, rest, here.1, length-filter_both (λ x. rank x == suc n) (λ x. not (rank x == suc n)) (λ x. refl) xs)

module _ (gate : GateRules) (state : State) (verdicts : Judged) (are : AreVerdicts gate state verdicts) where
  -- an item at some distance from one that isn't eligible isn't ready
  not_ready : (item : Item) (rank : ℕ) → IsRefusalRank gate state item rank → ¬ IsReady gate state item
  not_ready item rank far ready = IsClosed-safe {E = IsDependency gate state}
      {IsEligible = IsEligible gate state} ready.closed rank item ready.has far.leads

  left_at : (item : Item) (rank : ℕ) → IsCurrentItem state item → IsRefusalRank gate state item rank
      → IsLeftAt state verdicts item.change rank
  left_at item rank current far =
      let is_item : IsItem state item = (current.change, current.stands, current.greatest.known) in
      let found = Contains-of_map (λ (left : Left). left.item) verdicts.out item ((are.out item).1 (is_item, not_ready item rank far)) in
      let next = found.0 in
      let its = refused_rank gate state next.item next.refusal next.rank (are.refused next found.1) in
      record {
        next = next;
        out = found.1;
        current = subst (IsCurrentItem state) (sym found.2) current;
        of = ap (λ (i : Item). i.change) found.2;
        rank = IsDistance-once {E = IsDependency gate state} {P = IsIneligible gate state} next.rank rank next.item its
            (subst (λ i. IsRefusalRank gate state i rank) (sym found.2) far);
      }

  pub leads_from : (item : Item) (refusal : Refusal) (rank : ℕ) → IsRefused gate state item refusal rank
      → LeadsFrom state verdicts refusal rank
  leads_from item (Own condition) rank is = is.1
  leads_from item Cycle rank is = is.2
  leads_from item (Unknown number) rank is = is.3
  leads_from item (Dependency number) rank is =
      let begins = is.1.begins in
      (is.1.rest, is.1.one_more, subst (λ n. IsLeftAt state verdicts n is.1.rest) begins.1 (left_at begins.0 is.1.rest begins.2.edge.1 begins.2.rest))

  next_left : (refusal : Refusal) (rank rest : ℕ) → LeadsFrom state verdicts refusal rank → rank ≡ suc rest
      → (next : Left) × Contains verdicts.out next × (next.rank ≡ rest)
  next_left (Own condition) rank rest leads is = absurd (omega (arith, leads, is))
  next_left Cycle rank rest leads is = absurd (omega (arith, leads, is))
  next_left (Unknown number) rank rest leads is = absurd (omega (arith, leads, is))
  next_left (Dependency number) rank rest leads is =
      (leads.2.next, leads.2.out, leads.2.rank ∙ omega (arith, leads.1, is))

  -- an item is left out with each rank below one that is
  each_rank_below : (n : ℕ) (left : Left) → Contains verdicts.out left → left.rank ≡ n → (k : ℕ) → k ≤ n
      → (other : Left) × Contains verdicts.out other × (other.rank ≡ k)
  each_rank_below zero left has is k less = (left, has, omega (arith, is, less))
  each_rank_below (suc n) left has is k less = elim (cases_eq k (suc n)) [
    | inl same ↦ (left, has, is ∙ sym same)
    | inr other ↦
        let next = next_left left.refusal left.rank n (leads_from left.item left.refusal left.rank (are.refused left has)) is in
        each_rank_below n next.0 next.1 next.2 k (omega (arith, less, other))
  ]

  pub rank_is_short : (left : Left) → Contains verdicts.out left → left.rank < length verdicts.out
  rank_is_short left has =
      more_than_ranks (λ (other : Left). other.rank) left.rank verdicts.out (each_rank_below left.rank left has refl)
