-- Walks, distances, closed sets and ranks carry over from one graph to another, where a part of the nodes has the same
-- edges in both, and none of them leads out.
use Rattle.std.proofs.Common.{◌≡◌, ℕ, zero, suc, Bool, filter, subst}
use Rattle.std.specs.declared.cmp.Ordering.{Ordering}
use Rattle.lattice_core.specs.MemberLaws.{Contains-of_filter, Contains-to_filter}
use Rattle.walk_core.specs.Walks.{IsDistance, IsOfKind, Leads, Walk}
use Rattle.walk_core.specs.Ranks.{AreTogether, IsRank, LeadsTo, Rank}
use Rattle.ready_core.specs.Closed.{IsInClosedSet}

module _ {N : Type 0} (E F : N → N → Type 0) (part : N → Bool)
    (forth : (x y : N) → IsOfKind part x → E x y → IsOfKind part y × F x y) where
  pub Leads-along : (P Q : N → Type 0) → ((x : N) → IsOfKind part x → P x → Q x) → (n : ℕ) (x : N) → IsOfKind part x
      → Leads E P n x → Leads F Q n x
  Leads-along P Q gives zero x here is = gives x here is
  Leads-along P Q gives (suc n) x here walk =
      let next = forth x walk.0 here walk.1 in
      (walk.0, next.1, Leads-along P Q gives n walk.0 next.0 walk.2)

  pub Walk-along : (n : ℕ) (x y : N) → IsOfKind part x → Walk E n x y → Walk F n x y
  Walk-along n x y here walk = Leads-along (λ z. z ≡ y) (λ z. z ≡ y) (λ z at same. same) n x here walk

  -- a walk stays in the part
  pub stays_in : (n : ℕ) (x y : N) → IsOfKind part x → Walk E n x y → IsOfKind part y
  stays_in zero x y here same = subst (IsOfKind part) same here
  stays_in (suc n) x y here walk = let next = forth x walk.0 here walk.1 in stays_in n walk.0 y next.0 walk.2

  pub LeadsTo-along : (x y : N) → IsOfKind part x → LeadsTo E x y → LeadsTo F x y
  LeadsTo-along x y here leads = (leads.0, Walk-along leads.0 x y here leads.1)

  pub AreTogether-along : (x y : N) → IsOfKind part x → AreTogether E x y → AreTogether F x y
  AreTogether-along x y here together = record {
    forth = LeadsTo-along x y here together.forth;
    back = LeadsTo-along y x (stays_in together.forth.0 x y here together.forth.1) together.back;
  }

module _ {N : Type 0} (E F : N → N → Type 0) (part : N → Bool)
    (forth : (x y : N) → IsOfKind part x → E x y → IsOfKind part y × F x y)
    (back : (x y : N) → IsOfKind part x → F x y → IsOfKind part y × E x y) (P Q : N → Type 0)
    (gives : (x : N) → IsOfKind part x → P x → Q x) where
  pub closed_along : (x : N) → IsOfKind part x → IsInClosedSet E P x → IsInClosedSet F Q x
  closed_along x here some = record {
    set = filter part some.set;
    closed = record {
      members = λ y has. let found = Contains-of_filter part some.set y has in gives y found.1
          (some.closed.members y found.0);
      ends = λ y z has edge.
          let found = Contains-of_filter part some.set y has in
          let next = back y z found.1 edge in
          Contains-to_filter part some.set z (some.closed.ends y z found.0 next.1) next.0;
    };
    has = Contains-to_filter part some.set x some.has here;
  }

  module _ (takes : (x : N) → IsOfKind part x → Q x → P x) where
    pub distance_along : (n : ℕ) (x : N) → IsOfKind part x → IsDistance E P n x → IsDistance F Q n x
    distance_along n x here far = record {
      leads = Leads-along E F part forth P Q gives n x here far.leads;
      fewest = λ m less walk. far.fewest m less (Leads-along F E part back Q P takes m x here walk);
    }

    pub rank_along : (cmp : N → N → Ordering) (rank : Rank N) → IsOfKind part rank.node → IsRank cmp E P rank
        → IsRank cmp F Q rank
    rank_along cmp rank here is = record {
      count = record {
        members = is.count.members;
        in_order = is.count.in_order;
        just = λ y. (
          λ member.
              let found = (is.count.just y).0 member in
              (gives y (stays_in E F part forth found.1.0 rank.node y here found.1.1) found.0, LeadsTo-along E F part forth rank.node y here found.1),
          λ found.
              let kept = takes y (stays_in F E part back found.1.0 rank.node y here found.1.1) found.0 in
              (is.count.just y).1 (kept, LeadsTo-along F E part back rank.node y here found.1),
        );
        size = is.count.size;
      };
      first = record {
        here = AreTogether-along E F part forth rank.node rank.first here is.first.here;
        least = λ x together. is.first.least x (AreTogether-along F E part back rank.node x here together);
      };
    }
