-- Laws of edges between numbered nodes, and of the distances over them.
use Rattle.std.specs.Prelude.{◌≡◌, ◌↔◌, ◌<◌, ◌≤◌, ℕ, Bool, true, List, Option, None, Some, All, Contains, length}
use Rattle.std.specs.Prelude.{slice_get}
use Rattle.std.proofs.Common.{suc, refl, sym, ap, subst, get_or, inl, inr, arith, ◌∙◌}
use Rattle.std.proofs.lemmas.Bool.{cases_lt}
use Rattle.std.proofs.lemmas.List.Elements.{Contains-get_or}
use Rattle.std.proofs.lemmas.List.{same_lists}
use Rattle.std.proofs.lemmas.Option.{slice_get_past, slice_get_within, slice_get-get_or, get_or_from_slice_get}
use Rattle.walk_core.specs.Walks.{Leads, IsDistance-next, IsDistance-edge, IsDistance-once, IsDistance-zero}
use Rattle.walk_core.specs.Digraphs.{row, ends_of, HasEdge, IsWithin, IsReversed, IsMarked, IsDistanceTo, AreDistances}

-- an edge begins at a node
pub HasEdge-starts : (graph : List (List ℕ)) (x y : ℕ) → HasEdge graph x y → x < length graph
HasEdge-starts graph x y edge = elim (cases_lt x (length graph)) [
  | inl within ↦ within
  | inr past ↦
      let none = subst (λ ends. Contains ends y) (ap row (slice_get_past graph x past)) edge in
      absurd (omega (arith, none.1))
]

-- and ends at one, if the edges turned round begin at nodes of a graph of that size
pub IsReversed-ends : (graph reversed : List (List ℕ)) → IsReversed graph reversed → IsWithin graph
IsReversed-ends graph reversed turned x y edge =
    let within = HasEdge-starts reversed y x ((turned.edges x y).0 edge) in omega (arith, within, turned.nodes)

-- the ends of a node's edges are nodes
pub IsWithin-row : (graph : List (List ℕ)) → IsWithin graph → (x : ℕ) → All (λ y. y < length graph) (ends_of graph x)
IsWithin-row graph is x k d within = is x _ (Contains-get_or (ends_of graph x) k d within)

-- ---- distances

module _ (graph : List (List ℕ)) (marked : List Bool) where
  one_distance : (x : ℕ) (a b : Option ℕ) → IsDistanceTo graph marked x a → IsDistanceTo graph marked x b → a ≡ b
  one_distance x None None a b = refl
  one_distance x None (Some n) a b = absurd (a n b.leads)
  one_distance x (Some m) None a b = absurd (b m a.leads)
  one_distance x (Some m) (Some n) a b = ap Some (IsDistance-once {E = HasEdge graph} {P = IsMarked marked} m n x a b)

  -- each node has its distance in the list
  known_distance : (distances : List (Option ℕ)) → AreDistances graph marked distances → (x : ℕ) (distance : Option ℕ)
      → x < length graph → IsDistanceTo graph marked x distance → slice_get distances x ≡ Some distance
  known_distance distances are x distance within is =
      let longer : x < length distances = omega (arith, within, are.nodes) in
      let at : slice_get distances x ≡ Some (get_or distances x None) = slice_get-get_or distances x None longer in
      at ∙ ap Some (one_distance x (get_or distances x None) distance (are.each x _ at) is)

  -- there is one list of distances
  pub AreDistances-once : (a b : List (Option ℕ)) → AreDistances graph marked a → AreDistances graph marked b → a ≡ b
  AreDistances-once a b are also = same_lists a b (are.nodes ∙ sym also.nodes) (λ x d within.
      let at : slice_get a x ≡ Some (get_or a x d) = slice_get-get_or a x d within in
      let there : slice_get b x ≡ Some (get_or a x d) = known_distance b also x _ (omega (arith, within, are.nodes)) (are.each x _ at) in
      sym (get_or_from_slice_get b x _ d there))

  module _ (distances : List (Option ℕ)) (are : AreDistances graph marked distances) where
    some_distance : (x : ℕ) (distance : Option ℕ) → slice_get distances x ≡ Some distance → (m : ℕ)
        → Leads (HasEdge graph) (IsMarked marked) m x → (n : ℕ) × (slice_get distances x ≡ Some (Some n))
    some_distance x None at m leads = absurd (are.each x None at m leads)
    some_distance x (Some n) at m leads = (n, at)

    -- just the marked nodes have the distance 0
    pub AreDistances-zero : length marked ≡ length graph → (x : ℕ)
        → slice_get distances x ≡ Some (Some 0) ↔ IsMarked marked x
    AreDistances-zero sized x = (
      λ at. (are.each x (Some 0) at).leads,
      λ is. let within = slice_get_within marked x true is in known_distance distances are x (Some 0)
          (omega (arith, within, sized)) (IsDistance-zero {E = HasEdge graph} {P = IsMarked marked} x is),
    )

    -- from a node at a distance above 0 an edge leads to one at the distance below it
    pub AreDistances-next : IsWithin graph → (x n : ℕ) → slice_get distances x ≡ Some (Some (suc n))
        → (y : ℕ) × HasEdge graph x y × (slice_get distances y ≡ Some (Some n))
    AreDistances-next within x n at =
        let next = IsDistance-next {E = HasEdge graph} {P = IsMarked marked} n x (are.each x _ at) in
        (next.0, next.1.edge, known_distance distances are next.0 (Some n) (within x next.0 next.1.edge) next.1.rest)

    -- and no edge leads nearer
    pub AreDistances-edge : (x y m n : ℕ) → HasEdge graph x y → slice_get distances x ≡ Some (Some n)
        → slice_get distances y ≡ Some (Some m) → n ≤ suc m
    AreDistances-edge x y m n edge far near =
        IsDistance-edge {E = HasEdge graph} {P = IsMarked marked} n m x y edge (are.each x _ far)
        (are.each y _ near).leads

    -- a node with an edge to one that has a distance has one
    pub AreDistances-before : (x y m : ℕ) → HasEdge graph x y → slice_get distances y ≡ Some (Some m)
        → (n : ℕ) × (slice_get distances x ≡ Some (Some n))
    AreDistances-before x y m edge near =
        let longer : x < length distances = let within = HasEdge-starts graph x y edge in omega (arith, within, are.nodes) in
        some_distance x (get_or distances x None) (slice_get-get_or distances x None longer) (suc m)
        (y, edge, (are.each y _ near).leads)
