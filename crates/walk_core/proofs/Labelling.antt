-- First nodes of components: how they are found, and that they stay right when a component is found.
use Rattle.std.proofs.Common.{◌≡◌, ◌≢◌, ◌⊎◌, inl, inr, ◌+◌, ◌<◌, ◌≤◌, ◌++◌, ◌∷◌, [], ℕ, zero, suc, List, refl, sym, ◌∙◌}
use Rattle.std.proofs.Common.{subst, length, set, take, get_or, min, arith}
use Rattle.std.specs.List.{Contains}
use Rattle.std.specs.declared.cmp.Ordering.{Ordering}
use Rattle.std.specs.declared.cmp.Ordering.TheVariants.{Less, Equal, Greater}
use Rattle.std.specs.Ordering.{nat_cmp, MatchOrdering}
use Rattle.std.proofs.lemmas.Bool.{cases_eq, cases_lt}
use Rattle.std.proofs.lemmas.Cmp.{ranked}
use Rattle.std.proofs.lemmas.List.{length-set, get_or-set_same, get_or-set_other}
use Rattle.std.proofs.lemmas.List.Elements.{Contains-append_left, Contains-append_right, Contains-append_cases}
use Rattle.std.proofs.lemmas.List.Elements.{Contains-push, Contains-push_cases}
use Rattle.walk_core.specs.Walks.{IsReachedOver, Reaches-trans}
use Rattle.walk_core.specs.Ranks.{LeadsTo, AreTogether}
use Rattle.walk_core.specs.RankLaws.{AreTogether-sym, AreTogether-trans}
use Rattle.lattice_core.specs.MemberLaws.{Contains-none}
use Rattle.walk_core.specs.Digraphs.{HasEdge}
use Rattle.walk_core.specs.Edges.{HasEdge-starts}
use Rattle.walk_core.specs.Components.{place_of, AreConnected, HasComponent, AreSettled, AreLabelled, IsLeastOf}
use Rattle.walk_core.specs.Components.{AreFirsts, IsFirst, AreFound}
use Rattle.walk_core.specs.declared.component.Place.{Place}
use Rattle.walk_core.specs.declared.component.Place.TheVariants.{Waiting, Behind, OnCycle, OffCycle}
use Rattle.walk_core.specs.EdgeLaws.{Contains-more}
use Rattle.walk_core.proofs.Places.{place_set, place_within}
use Rattle.walk_core.proofs.Settling.{settled_on, settled_off}

-- ---- the least of some nodes

pub least_first : (node : ℕ) → IsLeastOf [] node node
least_first node = record { here = inl refl; own = omega arith; least = λ x here. absurd (Contains-none x here) }

module _ (others : List ℕ) (i end node least : ℕ) (within : i < length others) (is : end ≡ get_or others i end)
    (was : IsLeastOf (take i others) node least) where
  pub least_more : IsLeastOf (take (i + 1) others) node (min least end)
  least_more = record {
    here = elim (cases_lt end least) [
      | inl less ↦ let e : min least end ≡ end = omega (arith, less) in inr
          (subst (Contains (take (i + 1) others)) (sym e) ((Contains-more others i end end within is).1 (inr refl)))
      | inr not ↦ let e : min least end ≡ least = omega (arith, not) in elim was.here [
        | inl own ↦ inl (e ∙ own)
        | inr here ↦ inr
            (subst (Contains (take (i + 1) others)) (sym e) ((Contains-more others i least end within is).1 (inl here)))
      ]
    ];
    own = omega (arith, was.own);
    least = λ x here. elim ((Contains-more others i x end within is).0 here) [
      | inl earlier ↦ omega (arith, was.least x earlier)
      | inr same ↦ omega (arith, same)
    ];
  }

-- ---- some nodes are labelled

pub labelled_none : (first : ℕ) (firsts : List ℕ) → AreLabelled [] first firsts firsts
labelled_none first firsts = record { size = refl; each = λ x. inr (λ here. Contains-none x here, refl) }

module _ (nodes : List ℕ) (i end first : ℕ) (before after : List ℕ) (within : i < length nodes)
    (is : end ≡ get_or nodes i end) (inside : end < length after)
    (was : AreLabelled (take i nodes) first before after) where
  labelled_at : (x : ℕ) → (Contains (take (i + 1) nodes) x × (get_or (set after end first) x 0 ≡ first))
      ⊎ ((¬ Contains (take (i + 1) nodes) x) × (get_or (set after end first) x 0 ≡ get_or before x 0))
  labelled_at x = elim (cases_eq x end) [
    | inl same ↦ inl ((Contains-more nodes i x end within is).1 (inr same), subst (λ y. get_or (set after end first) y 0 ≡ first) (sym same) (get_or-set_same after end first 0 inside))
    | inr other ↦
        let kept : get_or (set after end first) x 0 ≡ get_or after x 0 = get_or-set_other after end x first 0 other in
        elim (was.each x) [
          | inl listed ↦ inl ((Contains-more nodes i x end within is).1 (inl listed.0), kept ∙ listed.1)
          | inr out ↦ inr (λ here. elim ((Contains-more nodes i x end within is).0 here) [ inl earlier ↦ out.0 earlier | inr same ↦ other same ], kept ∙ out.1)
        ]
  ]

  pub labelled_more : AreLabelled (take (i + 1) nodes) first before (set after end first)
  labelled_more = record { size = length-set after end first ∙ was.size; each = labelled_at }

-- ---- nodes that are together

not_below : (x first : ℕ) (o : Ordering) → o ≡ nat_cmp x first → MatchOrdering o (x < first) (x ≡ first) (first < x)
    → first ≤ x → ¬ (nat_cmp x first ≡ Less)
not_below x first Less e found h less = absurd (omega (arith, found, h))
not_below x first Equal e found h less = let no : Equal ≡ Less = e ∙ less in cc
not_below x first Greater e found h less = let no : Greater ≡ Less = e ∙ less in cc

pub nat_cmp-not_below : (x first : ℕ) → first ≤ x → ¬ (nat_cmp x first ≡ Less)
nat_cmp-not_below x first h = not_below x first (nat_cmp x first) refl (ranked x first (nat_cmp x first) refl) h

module _ (graph : List (List ℕ)) where
  leads_cases : (x y : ℕ) → LeadsTo (HasEdge graph) x y → (x ≡ y) ⊎ IsReachedOver (HasEdge graph) x y
  leads_cases x y (zero, same) = inl same
  leads_cases x y (suc n, walk) = inr (n, walk)

  pub together_cases : (x y : ℕ) → AreTogether (HasEdge graph) x y → (x ≡ y) ⊎ AreConnected graph x y
  together_cases x y p = elim (leads_cases x y p.forth) [
    | inl same ↦ inl same
    | inr forth ↦ elim (leads_cases y x p.back) [
      | inl same ↦ inl (sym same)
      | inr back ↦ inr (record { forth = forth; back = back })
    ]
  ]

  pub connected_together : (x y : ℕ) → AreConnected graph x y → AreTogether (HasEdge graph) x y
  connected_together x y p = record { forth = (suc p.forth.0, p.forth.1); back = (suc p.back.0, p.back.1) }

  pub together_self : (x : ℕ) → AreTogether (HasEdge graph) x x
  together_self x = record { forth = (0, refl); back = (0, refl) }

  -- a node that is on no cycle is together with itself alone
  pub first_alone : (x : ℕ) → ¬ IsReachedOver (HasEdge graph) x x → IsFirst graph x x
  first_alone x off = record {
    here = together_self x;
    least = λ y together. elim (together_cases x y together) [
      | inl same ↦ nat_cmp-not_below y x (omega (arith, same))
      | inr connected ↦ absurd (off (Reaches-trans (HasEdge graph) x y x connected.forth connected.back))
    ];
  }

  -- the least of a component is the first of each of its nodes
  module _ (node : ℕ) (members : List ℕ) (first : ℕ) (are : (x : ℕ) → (Contains members x → AreConnected graph node x) × (AreConnected graph node x → Contains members x)) (least : IsLeastOf members node first) where
    with_first : AreTogether (HasEdge graph) node first
    with_first = elim least.here [
      | inl same ↦ subst (AreTogether (HasEdge graph) node) (sym same) (together_self node)
      | inr here ↦ connected_together node first ((are first).0 here)
    ]

    pub first_of_member : (x : ℕ) → Contains members x → IsFirst graph x first
    first_of_member x here =
        let together = connected_together node x ((are x).0 here) in
        record {
          here = AreTogether-trans (HasEdge graph) x node first
              (AreTogether-sym (HasEdge graph) node x together) with_first;
          least = λ y also. elim (together_cases node y (AreTogether-trans (HasEdge graph) node x y together also)) [
            | inl same ↦ nat_cmp-not_below y first (omega (arith, least.own, same))
            | inr connected ↦ nat_cmp-not_below y first (least.least y ((are y).1 connected))
          ];
        }

-- ---- a component is found

module _ (graph : List (List ℕ)) (node : ℕ) (start end : List Place) (firsts nodes : List ℕ)
    (found : AreFound graph start firsts nodes) (waits : place_of start node ≡ Waiting)
    (component : HasComponent graph node start end) (members : List ℕ) (are : (x : ℕ) → (Contains members x → AreConnected graph node x) × (AreConnected graph node x → Contains members x))
    (first : ℕ) (least : IsLeastOf members node first) (after : List ℕ)
    (labelled : AreLabelled members first firsts after) where
  on_now : (x : ℕ) → place_of end x ≡ OnCycle → IsFirst graph x (get_or after x 0)
  on_now x is = elim (labelled.each x) [
    | inl member ↦ subst (IsFirst graph x) (sym member.1)
        (first_of_member graph node members first are least x member.0)
    | inr other ↦ elim (component.each x) [
      | inl same ↦ subst (IsFirst graph x) (sym other.1) (found.on x (sym same ∙ is))
      | inr new ↦ absurd (other.0 ((are x).1 new.connected))
    ]
  ]

  other_now : (x : ℕ) → x < length graph → place_of end x ≢ OnCycle → get_or after x 0 ≡ x
  other_now x within off = elim (labelled.each x) [
    | inl member ↦ absurd (off (component.all x ((are x).0 member.0)))
    | inr other ↦ elim (component.each x) [
      | inl same ↦ other.1 ∙ found.other x within (λ on. off (same ∙ on))
      | inr new ↦ absurd (off new.is)
    ]
  ]

  listed_now : (x : ℕ) → x < length graph → Contains (nodes ++ members) x ⊎ (place_of end x ≡ Waiting)
  listed_now x within = elim (found.listed x within) [
    | inl here ↦ inl (Contains-append_left nodes members x here)
    | inr waited ↦ elim (component.each x) [
      | inl same ↦ inr (same ∙ waited)
      | inr new ↦ inl (Contains-append_right nodes members x ((are x).1 new.connected))
    ]
  ]

  within_now : (x : ℕ) → Contains (nodes ++ members) x → x < length graph
  within_now x here = elim (Contains-append_cases nodes members x here) [
    | inl earlier ↦ found.within x earlier
    | inr member ↦ let back = ((are x).0 member).back in HasEdge-starts graph x back.1.0 back.1.1
  ]

  pub found_component : AreFound graph end after (nodes ++ members)
  found_component = record {
    settled = settled_on graph node start end found.settled waits component;
    size = labelled.size ∙ found.size;
    on = on_now;
    other = other_now;
    listed = listed_now;
    within = within_now;
  }

  -- the node itself is on no cycle
  module _ (waiting : place_of end node ≡ Waiting) (inside : node < length graph) where
    at_node : (x : ℕ) → ((x ≡ node) × (place_of (set end node OffCycle) x ≡ OffCycle))
        ⊎ ((x ≢ node) × (place_of (set end node OffCycle) x ≡ place_of end x))
    at_node = place_set end node OffCycle (place_within end node Waiting (λ same. cc (same)) waiting)

    on_before : (x : ℕ) → place_of (set end node OffCycle) x ≡ OnCycle → place_of end x ≡ OnCycle
    on_before x is = elim (at_node x) [
      | inl at ↦ let no_place : OffCycle ≡ OnCycle = sym at.1 ∙ is in cc
      | inr other ↦ sym other.1 ∙ is
    ]

    on_still : (x : ℕ) → place_of end x ≡ OnCycle → place_of (set end node OffCycle) x ≡ OnCycle
    on_still x on = elim (at_node x) [
      | inl at ↦ let no_place : OnCycle ≡ Waiting = sym on ∙ subst (λ y. place_of end y ≡ Waiting) (sym at.0) waiting in cc
      | inr other ↦ other.1 ∙ on
    ]

    waits_still : (x : ℕ) → x ≢ node → place_of end x ≡ Waiting → place_of (set end node OffCycle) x ≡ Waiting
    waits_still x other waits_on = elim (at_node x) [ inl at ↦ absurd (other at.0) | inr kept ↦ kept.1 ∙ waits_on ]

    pub found_alone : AreFound graph (set end node OffCycle) after ((nodes ++ members) ++ node ∷ [])
    found_alone = record {
      settled = settled_off graph node start end found.settled waits component waiting;
      size = labelled.size ∙ found.size;
      on = λ x is. on_now x (on_before x is);
      other = λ x within off. other_now x within (λ on. off (on_still x on));
      listed = λ x within. elim (listed_now x within) [
        | inl here ↦ inl (Contains-append_left (nodes ++ members) (node ∷ []) x here)
        | inr waits_on ↦ elim (cases_eq x node) [
          | inl same ↦ inl
              (subst (Contains ((nodes ++ members) ++ node ∷ [])) (sym same) (Contains-push (nodes ++ members) node))
          | inr other ↦ inr (waits_still x other waits_on)
        ]
      ];
      within = λ x here. elim (Contains-push_cases (nodes ++ members) node x here) [
        | inl earlier ↦ within_now x earlier
        | inr same ↦ subst (λ y. y < length graph) same inside
      ];
    }

-- ---- at first, and at last

-- nothing is found where all nodes wait
pub found_none : (graph : List (List ℕ)) (places : List Place) (firsts : List ℕ) → AreSettled graph places
    → ((x : ℕ) → x < length graph → place_of places x ≡ Waiting)
    → length firsts ≡ length graph → ((x : ℕ) → x < length graph → get_or firsts x 0 ≡ x)
    → AreFound graph places firsts []
found_none graph places firsts settled wait size own = record {
  settled = settled;
  size = size;
  on = λ x is. let inside = place_within places x OnCycle (λ same. cc (same)) is in
      let no_place : Waiting ≡ OnCycle = sym (wait x (omega (arith, inside, settled.size))) ∙ is in
      absurd cc;
  other = λ x within off. own x within;
  listed = λ x within. inr (wait x within);
  within = λ x here. absurd (Contains-none x here);
}

module _ (graph : List (List ℕ)) (places : List Place) (firsts nodes : List ℕ)
    (found : AreFound graph places firsts nodes) (none : (x : ℕ) → place_of places x ≢ Waiting) where
  first_at : (x : ℕ) (place : Place) → x < length graph → place_of places x ≡ place
      → IsFirst graph x (get_or firsts x 0)
  first_at x Waiting within is = absurd (none x is)
  first_at x Behind within is = absurd (found.settled.sure x is)
  first_at x OnCycle within is = found.on x is
  first_at x OffCycle within is =
      let alone : get_or firsts x 0 ≡ x = found.other x within (λ on. let no_place : OffCycle ≡ OnCycle = sym is ∙ on in cc) in
      subst (IsFirst graph x) (sym alone) (first_alone graph x (found.settled.off x is))

  pub firsts_found : AreFirsts graph firsts
  firsts_found = record { size = found.size; each = λ x within. first_at x (place_of places x) within refl }

  pub all_found : (x : ℕ) → x < length graph → Contains nodes x
  all_found x within = elim (found.listed x within) [ inl here ↦ here | inr waits ↦ absurd (none x waits) ]
