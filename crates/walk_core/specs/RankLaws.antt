-- Laws of rank order: what a node waits for comes before it, nodes on one cycle are side by side, and there is one such
-- list.
use Rattle.std.specs.Prelude.{◌≡◌, ◌≤◌, ◌<◌, ◌⊎◌, ◌+◌, ℕ, List, [], ◌∷◌, Contains, Some, map, slice_get}
use Rattle.std.specs.declared.cmp.Ordering.{Ordering}
use Rattle.std.specs.declared.cmp.Ordering.TheVariants.{Less, Equal, Greater}
use Rattle.std.specs.Ordering.{nat_cmp, ordering_then, ordering_reverse, MatchOrdering}
use Rattle.std.specs.Cmp.{IsTotalOrder, nat_cmp_total}
use Rattle.std.proofs.Common.{zero, suc, refl, sym, ap, ◌∙◌, subst, arith, inl, inr}
use Rattle.std.proofs.lemmas.Cmp.{on_total, then_total, ranked, tied_back}
use Rattle.std.proofs.lemmas.Bool.{cases_lt}
use Rattle.lattice_core.specs.Keep.{IsExactOrder}
use Rattle.walk_core.specs.Walks.{Leads-after}
use Rattle.walk_core.specs.Ranks.{LeadsTo, AreTogether, Rank, rank_cmp, IsRank, IsInRankOrder, EndsStandBefore}
use Rattle.walk_core.specs.Ranks.{TogetherStandTogether}
use Rattle.lattice_core.specs.MemberLaws.{Contains-of_map, Contains-to_map}
use Rattle.lattice_core.specs.PlaceLaws.{Contains-at, at_Contains, sorted_at, not_below_itself}
use Rattle.walk_core.specs.SortedLists.{sorted_same, sorted_part, IsPart}

-- ---- leading to a node goes on
module _ {N : Type 0} (E : N → N → Type 0) where
  pub LeadsTo-trans : (x y z : N) → LeadsTo E x y → LeadsTo E y z → LeadsTo E x z
  LeadsTo-trans x y z p q = (p.0 + q.0, Leads-after E (λ w. w ≡ z) p.0 q.0 x y p.1 q.1)

  pub LeadsTo-edge : (x y z : N) → E x y → LeadsTo E y z → LeadsTo E x z
  LeadsTo-edge x y z edge p = (suc p.0, (y, edge, p.1))

  pub AreTogether-sym : (x y : N) → AreTogether E x y → AreTogether E y x
  AreTogether-sym x y p = record { forth = p.back; back = p.forth }

  pub AreTogether-trans : (x y z : N) → AreTogether E x y → AreTogether E y z → AreTogether E x z
  AreTogether-trans x y z p q = record {
    forth = LeadsTo-trans x y z p.forth q.forth;
    back = LeadsTo-trans z y x q.back p.back;
  }

-- ---- orders by several keys
less_of : (a b : ℕ) (o : Ordering) → o ≡ nat_cmp a b → MatchOrdering o (a < b) (a ≡ b) (b < a) → a < b
    → nat_cmp a b ≡ Less
less_of a b Less e found less = sym e
less_of a b Equal e found less = absurd (omega (arith, found, less))
less_of a b Greater e found less = absurd (omega (arith, found, less))

pub nat_cmp-less : (a b : ℕ) → a < b → nat_cmp a b ≡ Less
nat_cmp-less a b less = less_of a b (nat_cmp a b) refl (ranked a b (nat_cmp a b) refl) less

-- a comparison by further keys is below only where one by the first keys isn't above
no_more : (r s t : Ordering) → ordering_then r (ordering_then s t) ≡ Less
    → (ordering_then r s ≡ Less) ⊎ (ordering_then r s ≡ Equal)
no_more Less s t e = inl refl
no_more Greater s t e = cc
no_more Equal Less t e = inl refl
no_more Equal Equal t e = inr refl
no_more Equal Greater t e = cc

both_equal : (r s : Ordering) → ordering_then r s ≡ Equal → (r ≡ Equal) × (s ≡ Equal)
both_equal Equal s e = (refl, e)
both_equal Less s e = cc
both_equal Greater s e = cc

one_of : {X : Type 0} (cmp : X → X → Ordering) (order : IsExactOrder cmp) (x y : X) (o : Ordering) → cmp x y ≡ o
    → ¬ (cmp x y ≡ Less) → ¬ (cmp y x ≡ Less) → x ≡ y
one_of cmp order x y Less e p q = absurd (p e)
one_of cmp order x y Equal e p q = order.exact x y e
one_of cmp order x y Greater e p q = absurd (q (order.total.antisymm y x ∙ ap ordering_reverse e))

-- what is at a place of a list that is made of another
at_map : {X Y : Type 0} (f : X → Y) (xs : List X) (place : ℕ) (y : Y) → slice_get (map f xs) place ≡ Some y
    → (x : X) × (slice_get xs place ≡ Some x) × (f x ≡ y)
at_map f [] place y at = cc
at_map f (x ∷ xs) zero y at = let same : f x ≡ y = cc in (x, refl, same)
at_map f (x ∷ xs) (suc place) y at = at_map f xs place y at

map_at : {X Y : Type 0} (f : X → Y) (xs : List X) (place : ℕ) (x : X) → slice_get xs place ≡ Some x
    → slice_get (map f xs) place ≡ Some (f x)
map_at f [] place x at = cc
map_at f (y ∷ ys) zero x at = let same : y ≡ x = cc in ap (λ z. Some (f z)) same
map_at f (y ∷ ys) (suc place) x at = map_at f ys place x at

module _ {N : Type 0} {cmp : N → N → Ordering} (order : IsExactOrder cmp) (E : N → N → Type 0) (P : N → Type 0) where
  -- the order by count and first node, and the whole order of ranks
  abbrev group_cmp : Rank N → Rank N → Ordering
  group_cmp a b = ordering_then (nat_cmp a.count b.count) (cmp a.first b.first)

  group_total : IsTotalOrder group_cmp
  group_total = then_total (on_total (λ (rank : Rank N). rank.count) nat_cmp_total)
      (on_total (λ (rank : Rank N). rank.first) order.total)

  pub ranks_total : IsTotalOrder (rank_cmp cmp)
  ranks_total = then_total (on_total (λ (rank : Rank N). rank.count) nat_cmp_total)
      (then_total (on_total (λ (rank : Rank N). rank.first) order.total) (on_total (λ (rank : Rank N). rank.node) order.total))

  -- ---- two ranks
  module _ (a b : Rank N) (is_a : IsRank cmp E P a) (is_b : IsRank cmp E P b) where
    led_part : LeadsTo E a.node b.node → IsPart order.total is_b.count.members is_a.count.members
    led_part leads =
        sorted_part order.total is_b.count.members is_a.count.members is_b.count.in_order is_a.count.in_order
        (λ z here. let has = (is_b.count.just z).0 here in (is_a.count.just z).1 (has.0, LeadsTo-trans E a.node b.node z leads has.1))

    count_falls : LeadsTo E a.node b.node → b.count ≤ a.count
    count_falls leads = omega (arith, (led_part leads).shorter, is_a.count.size, is_b.count.size)

    leads_back : LeadsTo E a.node b.node → a.count ≤ b.count → P a.node → LeadsTo E b.node a.node
    leads_back leads few here =
        let has = (is_a.count.just a.node).1 (here, (0, refl)) in
        ((is_b.count.just a.node).0 ((led_part leads).whole (omega (arith, few, is_a.count.size, is_b.count.size)) a.node has)).1

    firsts_same : AreTogether E a.node b.node → a.first ≡ b.first
    firsts_same together = one_of cmp order a.first b.first (cmp a.first b.first) refl
        (is_b.first.least a.first (AreTogether-trans E b.node a.node a.first (AreTogether-sym E a.node b.node together) is_a.first.here))
        (is_a.first.least b.first (AreTogether-trans E a.node b.node b.first together is_b.first.here))

  counts_same : (a b : Rank N) → IsRank cmp E P a → IsRank cmp E P b → AreTogether E a.node b.node → a.count ≡ b.count
  counts_same a b is_a is_b together =
      omega (arith, count_falls a b is_a is_b together.forth, count_falls b a is_b is_a together.back)

  pub rank_same : (a b : Rank N) → IsRank cmp E P a → IsRank cmp E P b → a.node ≡ b.node → a ≡ b
  rank_same a b is_a is_b same =
      let together : AreTogether E a.node b.node = record { forth = (0, same); back = (0, sym same) } in
      let count = counts_same a b is_a is_b together in
      let first = firsts_same a b is_a is_b together in
      λ i. record { count = count i; first = first i; node = same i }

  -- ---- one list
  module _ (nodes : List N) (are : IsInRankOrder cmp E P nodes) where
    rank_at : (place : ℕ) (x : N) → slice_get nodes place ≡ Some x
        → (rank : Rank N) × (slice_get are.ranks place ≡ Some rank) × (rank.node ≡ x)
    rank_at place x at = at_map (λ rank. rank.node) are.ranks place x (sym (ap (λ xs. slice_get xs place) are.of) ∙ at)

    is_rank_at : (place : ℕ) (rank : Rank N) → slice_get are.ranks place ≡ Some rank → IsRank cmp E P rank
    is_rank_at place rank at = are.each rank (Contains-at are.ranks place rank at)

    earlier : (i j : ℕ) (a b : Rank N) → slice_get are.ranks i ≡ Some a → slice_get are.ranks j ≡ Some b
        → a.count < b.count → i < j
    earlier i j a b at_i at_j less = elim (cases_lt i j) [
      | inl is ↦ is
      | inr not ↦ elim (cases_lt j i) [
        | inl after ↦
            let down = sorted_at (rank_cmp cmp) are.ranks are.rising j i b a after at_j at_i in
            let up : rank_cmp cmp a b ≡ Less = ap (λ o. ordering_then o (ordering_then (cmp a.first b.first) (cmp a.node b.node))) (nat_cmp-less a.count b.count less) in
            absurd (not_below_itself ranks_total a (ranks_total.trans a b a up down))
        | inr also ↦
            let place : i ≡ j = omega (arith, not, also) in
            let same : a ≡ b = let there = subst (λ k. slice_get are.ranks k ≡ Some a) place at_i in cc in
            let counts = ap (λ (rank : Rank N). rank.count) same in
            absurd (omega (arith, counts, less))
      ]
    ]

    -- what a node leads to by an edge comes before it, or is together with it
    pub ends_stand_before : ((x y : N) → P x → E x y → P y) → EndsStandBefore E nodes
    ends_stand_before closed x y has edge =
        let i = at_Contains nodes x has in
        let a = rank_at i.0 x i.1 in
        let x_has : P x = (are.just x).0 has in
        let j = at_Contains nodes y ((are.just y).1 (closed x y x_has edge)) in
        let b = rank_at j.0 y j.1 in
        let leads : LeadsTo E a.0.node b.0.node = subst (λ z. LeadsTo E z b.0.node) (sym a.2) (subst (LeadsTo E x) (sym b.2) (1, (y, edge, refl))) in
        let is_a = is_rank_at i.0 a.0 a.1 in
        let is_b = is_rank_at j.0 b.0 b.1 in
        elim (cases_lt b.0.count a.0.count) [
          | inl less ↦ inl (record {
            earlier = j.0;
            later = i.0;
            before = earlier j.0 i.0 b.0 a.0 b.1 a.1 less;
            at_earlier = j.1;
            at_later = i.1;
          })
          | inr not ↦
              let back = leads_back a.0 b.0 is_a is_b leads not (subst P (sym a.2) x_has) in
              inr (record {
                forth = (1, (y, edge, refl));
                back = subst (λ z. LeadsTo E z x) b.2 (subst (LeadsTo E b.0.node) a.2 back);
              })
        ]

    -- what is between nodes that are together is together with them
    between : (a b c : Rank N) → IsRank cmp E P a → IsRank cmp E P b → IsRank cmp E P c → rank_cmp cmp a b ≡ Less
        → rank_cmp cmp b c ≡ Less → AreTogether E a.node c.node → AreTogether E a.node b.node
    between a b c is_a is_b is_c first next together =
        let counts : a.count ≡ c.count = counts_same a c is_a is_c together in
        let firsts : a.first ≡ c.first = firsts_same a c is_a is_c together in
        let back : (o : Ordering) → group_cmp b c ≡ o → group_cmp b a ≡ o = λ o e. subst (λ n. ordering_then (nat_cmp b.count n) (cmp b.first a.first) ≡ o) (sym counts) (subst (λ f. ordering_then (nat_cmp b.count c.count) (cmp b.first f) ≡ o) (sym firsts) e) in
        let alike : group_cmp a b ≡ Equal = elim (no_more (nat_cmp a.count b.count) (cmp a.first b.first) (cmp a.node b.node) first) [
          | inr equal ↦ equal
          | inl less ↦ elim (no_more (nat_cmp b.count c.count) (cmp b.first c.first) (cmp b.node c.node) next) [
            | inl below ↦ absurd (not_below_itself group_total a (group_total.trans a b a less (back Less below)))
            | inr equal ↦ let no_order : Less ≡ Equal = sym less ∙ tied_back group_total b a (back Equal equal) in cc
          ]
        ] in
        let same : a.first ≡ b.first = order.exact a.first b.first (both_equal (nat_cmp a.count b.count) (cmp a.first b.first) alike).1 in
        AreTogether-trans E a.node a.first b.node is_a.first.here
        (subst (λ f. AreTogether E f b.node) (sym same) (AreTogether-sym E b.node b.first is_b.first.here))

    pub together_stand_together : TogetherStandTogether E nodes
    together_stand_together x y z first next together =
        let a = rank_at first.earlier x first.at_earlier in
        let b = rank_at first.later y first.at_later in
        let b_again = rank_at next.earlier y next.at_earlier in
        let c = rank_at next.later z next.at_later in
        let is_a = is_rank_at first.earlier a.0 a.1 in
        let is_b = is_rank_at first.later b.0 b.1 in
        let is_c = is_rank_at next.later c.0 c.1 in
        let same : b_again.0 ≡ b.0 = rank_same b_again.0 b.0 (is_rank_at next.earlier b_again.0 b_again.1) is_b (b_again.2 ∙ sym b.2) in
        let up = sorted_at (rank_cmp cmp) are.ranks are.rising first.earlier first.later a.0 b.0 first.before a.1 b.1 in
        let more = sorted_at (rank_cmp cmp) are.ranks are.rising next.earlier next.later b_again.0 c.0 next.before b_again.1 c.1 in
        let ends : AreTogether E a.0.node c.0.node = subst (λ w. AreTogether E w c.0.node) (sym a.2) (subst (AreTogether E x) (sym c.2) together) in
        let found = between a.0 b.0 c.0 is_a is_b is_c up (subst (λ r. rank_cmp cmp r c.0 ≡ Less) same more) ends in
        subst (λ w. AreTogether E w y) a.2 (subst (AreTogether E a.0.node) b.2 found)

  -- ---- two lists
  same_ranks : (xs ys : List N) (p : IsInRankOrder cmp E P xs) (q : IsInRankOrder cmp E P ys) (rank : Rank N)
      → Contains p.ranks rank → Contains q.ranks rank
  same_ranks xs ys p q rank here =
      let node : Contains xs rank.node = subst (λ zs. Contains zs rank.node) (sym p.of) (Contains-to_map (λ (r : Rank N). r.node) p.ranks rank here) in
      let there : Contains (map (λ (r : Rank N). r.node) q.ranks) rank.node = subst (λ zs. Contains zs rank.node) q.of ((q.just rank.node).1 ((p.just rank.node).0 node)) in
      let other = Contains-of_map (λ (r : Rank N). r.node) q.ranks rank.node there in
      subst (Contains q.ranks) (rank_same other.0 rank (q.each other.0 other.1) (p.each rank here) other.2) other.1

  pub one_rank_order : (xs ys : List N) → IsInRankOrder cmp E P xs → IsInRankOrder cmp E P ys → xs ≡ ys
  one_rank_order xs ys p q =
      let same : p.ranks ≡ q.ranks = sorted_same ranks_total p.ranks q.ranks p.rising q.rising (λ rank. (same_ranks xs ys p q rank, same_ranks ys xs q p rank)) in
      p.of ∙ ap (map (λ (r : Rank N). r.node)) same ∙ sym q.of
