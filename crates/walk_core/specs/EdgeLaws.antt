-- What an edge more does to the rows of a graph.
use Rattle.std.proofs.Common.{◌≡◌, ◌≢◌, ◌↔◌, ◌⊎◌, inl, inr, ℕ, zero, suc, ◌+◌, ◌<◌, ◌≤◌, List, [], ◌∷◌, ◌++◌, length}
use Rattle.std.proofs.Common.{map, replicate, set, get_or, take, refl, sym, ap, subst, ◌∙◌, arith}
use Rattle.std.specs.List.{Contains, All}
use Rattle.std.specs.Option.{option_map}
use Rattle.std.proofs.lemmas.Bool.{cases_eq}
use Rattle.std.proofs.lemmas.List.{map-set, length-map, length-set, length-replicate, take_more, take_all}
use Rattle.std.proofs.lemmas.List.Elements.{Contains-push, Contains-push_cases, Contains-append_left, Contains-get_or}
use Rattle.std.proofs.lemmas.Option.{slice_get-get_or, slice_get-map}
use Rattle.walk_core.specs.Writes.{slice_get-set_other, slice_get-set_same}
use Rattle.walk_core.specs.Edges.{HasEdge-starts, IsReversed-ends, IsWithin-row}
use Rattle.walk_core.specs.Digraphs.{row, ends_of, HasEdge, IsWithin, IsReversed, AddsEdges}

-- ---- a row is written

module _ (graph : List (List ℕ)) (from to : ℕ) (ends : List ℕ) where
  ends_more : List ℕ → Type 0
  ends_more after = (y : ℕ) → Contains after y ↔ (Contains ends y ⊎ (y ≡ to))

  pushed : ends_more (ends ++ to ∷ [])
  unfolding ends_more
  pushed y = (
    λ has. elim (Contains-push_cases ends to y has) [ inl old ↦ inl old | inr is ↦ inr (sym is) ],
    λ has. elim has [ inl old ↦ Contains-append_left ends (to ∷ []) y old | inr is ↦ subst (Contains (ends ++ to ∷ [])) (sym is) (Contains-push ends to) ],
  )

  -- another row is as it was
  at_other : (x y : ℕ) → x ≢ from
      → HasEdge (set graph from (ends ++ to ∷ [])) x y ↔ (HasEdge graph x y ⊎ ((x ≡ from) × (y ≡ to)))
  at_other x y ne =
      let same = ap row (slice_get-set_other graph from (ends ++ to ∷ []) x ne) in (
        λ has. inl (subst (λ xs. Contains xs y) same has),
        λ has. elim has [ inl old ↦ subst (λ xs. Contains xs y) (sym same) old | inr is ↦ absurd (ne is.0) ],
      )

  -- the node's own row has one end more
  at_from : (y : ℕ) → from < length graph → ends_of graph from ≡ ends
      → HasEdge (set graph from (ends ++ to ∷ [])) from y ↔ (HasEdge graph from y ⊎ ((from ≡ from) × (y ≡ to)))
  unfolding ends_more
  at_from y within are =
      let now = ap row (slice_get-set_same graph from (ends ++ to ∷ []) within) in (
        λ has. elim ((pushed y).0 (subst (λ xs. Contains xs y) now has)) [
          | inl old ↦ inl (subst (λ xs. Contains xs y) (sym are) old)
          | inr is ↦ inr (refl, is)
        ],
        λ has. subst (λ xs. Contains xs y) (sym now) ((pushed y).1 (elim has [
          | inl old ↦ inl (subst (λ xs. Contains xs y) are old)
          | inr is ↦ inr is.1
        ])),
      )

  AddsEdges-push : from < length graph → ends_of graph from ≡ ends
      → AddsEdges graph (λ x y. (x ≡ from) × (y ≡ to)) (set graph from (ends ++ to ∷ []))
  AddsEdges-push within are = record {
    nodes = length-set graph from (ends ++ to ∷ []);
    edges = λ x y. elim (cases_eq x from) [
      | inl is ↦ subst
          (λ z. HasEdge (set graph from (ends ++ to ∷ [])) z y ↔ (HasEdge graph z y ⊎ ((z ≡ from) × (y ≡ to)))) (sym is)
          (at_from y within are)
      | inr ne ↦ at_other x y ne
    ];
  }

-- the row that is read at a node
pub ends_of-read : {T : Type 0} (f : T → List ℕ) (rows : List T) (x : ℕ) (was : T) → x < length rows
    → was ≡ get_or rows x was → ends_of (map f rows) x ≡ f was
ends_of-read f rows x was within is =
    ap row (slice_get-map f rows x) ∙ ap (λ o. row (option_map f o)) (slice_get-get_or rows x was within)
    ∙ ap f (sym is)

-- an end is pushed to a row
pub AddsEdges-pushed : {T : Type 0} (f : T → List ℕ) (rows : List T) (from to : ℕ) (was pushed : T) → from < length rows
    → was ≡ get_or rows from was → f pushed ≡ f was ++ to ∷ []
    → AddsEdges (map f rows) (λ x y. (x ≡ from) × (y ≡ to)) (map f (set rows from pushed))
AddsEdges-pushed f rows from to was pushed within is pushes =
    let longer : from < length (map f rows) = omega (arith, length-map rows f) in
    let written : map f (set rows from pushed) ≡ set (map f rows) from (f was ++ to ∷ []) =
    map-set f rows from pushed ∙ ap (set (map f rows) from) pushes in
    subst (AddsEdges (map f rows) (λ x y. (x ≡ from) × (y ≡ to))) (sym written)
    (AddsEdges-push (map f rows) from to (f was) longer (ends_of-read f rows from was within is))

-- ---- some edges and then others

module _ (E F G : ℕ → ℕ → Type 0) (graph mid after : List (List ℕ)) where
  pub AddsEdges-then : AddsEdges graph E mid → AddsEdges mid F after → ((x y : ℕ) → G x y ↔ (E x y ⊎ F x y))
      → AddsEdges graph G after
  AddsEdges-then first second both = record {
    nodes = second.nodes ∙ first.nodes;
    edges = λ x y. (
      λ has. elim ((second.edges x y).0 has) [
        | inl old ↦ elim ((first.edges x y).0 old) [ inl older ↦ inl older | inr e ↦ inr ((both x y).1 (inl e)) ]
        | inr f ↦ inr ((both x y).1 (inr f))
      ],
      λ has. (second.edges x y).1 (elim has [
        | inl old ↦ inl ((first.edges x y).1 (inl old))
        | inr g ↦ elim ((both x y).0 g) [ inl e ↦ inl ((first.edges x y).1 (inr e)) | inr f ↦ inr f ]
      ]),
    );
  }

-- ---- the ends of one node are turned round

pub Contains-more : (xs : List ℕ) (i x end : ℕ) → i < length xs → end ≡ get_or xs i end
    → Contains (take (i + 1) xs) x ↔ (Contains (take i xs) x ⊎ (x ≡ end))
Contains-more xs i x end within is =
    let more : take (i + 1) xs ≡ take i xs ++ end ∷ [] = take_more xs i end within ∙ ap (λ e. take i xs ++ e ∷ []) (sym is) in (
      λ has. elim (Contains-push_cases (take i xs) end x (subst (λ ys. Contains ys x) more has)) [ inl old ↦ inl old | inr same ↦ inr (sym same) ],
      λ has. subst (λ ys. Contains ys x) (sym more) (elim has [
        | inl old ↦ Contains-append_left (take i xs) (end ∷ []) x old
        | inr same ↦ subst (Contains (take i xs ++ end ∷ [])) (sym same) (Contains-push (take i xs) end)
      ]),
    )

abbrev pub Named : List ℕ → ℕ → ℕ → ℕ → ℕ → Type 0
Named ends node i x y = Contains (take i ends) x × (y ≡ node)

module _ (ends : List ℕ) (node : ℕ) (graph : List (List ℕ)) where
  pub Named-more : (i end : ℕ) (mid after : List (List ℕ)) → i < length ends → end ≡ get_or ends i end
      → AddsEdges graph (Named ends node i) mid → AddsEdges mid (λ x y. (x ≡ end) × (y ≡ node)) after
      → AddsEdges graph (Named ends node (i + 1)) after
  Named-more i end mid after within is first second =
      AddsEdges-then (Named ends node i) (λ x y. (x ≡ end) × (y ≡ node))
      (Named ends node (i + 1)) graph mid after first second (λ x y. (
        λ named. elim ((Contains-more ends i x end within is).0 named.0) [ inl old ↦ inl (old, named.1) | inr same ↦ inr (same, named.1) ],
        λ has. elim has [
          | inl old ↦ ((Contains-more ends i x end within is).1 (inl old.0), old.1)
          | inr new ↦ ((Contains-more ends i x end within is).1 (inr new.0), new.1)
        ],
      ))

  pub Named-all : (i : ℕ) (after : List (List ℕ)) → length ends ≤ i → AddsEdges graph (Named ends node i) after
      → AddsEdges graph (λ x y. Contains ends x × (y ≡ node)) after
  Named-all i after all adds =
      subst (λ xs. AddsEdges graph (λ x y. Contains xs x × (y ≡ node)) after) (take_all i ends all) adds

-- ---- a graph is turned round, node by node

ends_of-replicate : (n x : ℕ) → ends_of (replicate n []) x ≡ []
ends_of-replicate zero x = refl
ends_of-replicate (suc n) zero = refl
ends_of-replicate (suc n) (suc x) = ends_of-replicate n x

module _ (graph : List (List ℕ)) where
  abbrev pub Turned : ℕ → ℕ → ℕ → Type 0
  Turned i x y = (y < i) × HasEdge graph y x

  pub Turned-more : (i : ℕ) (ends : List ℕ) (rows mid after : List (List ℕ)) → ends_of graph i ≡ ends
      → AddsEdges rows (Turned i) mid → AddsEdges mid (λ x y. Contains ends x × (y ≡ i)) after
      → AddsEdges rows (Turned (i + 1)) after
  Turned-more i ends rows mid after are first second =
      AddsEdges-then (Turned i) (λ x y. Contains ends x × (y ≡ i)) (Turned (i + 1)) rows mid after first second
      (λ x y. (
        λ turned. elim (cases_eq y i) [
          | inl is ↦ inr (subst (λ xs. Contains xs x) are (subst (λ z. HasEdge graph z x) is turned.1), is)
          | inr ne ↦ inl (omega (arith, ne, turned.0), turned.1)
        ],
        λ has. elim has [
          | inl old ↦ (omega (arith, old.0), old.1)
          | inr new ↦ (omega (arith, new.1), subst (λ z. HasEdge graph z x) (sym new.1) (subst (λ xs. Contains xs x) (sym are) new.0))
        ],
      ))

  pub Turned-all : (n i : ℕ) (reversed : List (List ℕ)) → n ≡ length graph → n ≤ i
      → AddsEdges (replicate n []) (Turned i) reversed → IsReversed graph reversed
  Turned-all n i reversed many all adds = record {
    nodes = adds.nodes ∙ length-replicate n [] ∙ many;
    edges = λ x y. (
      λ edge. let within = HasEdge-starts graph x y edge in (adds.edges y x).1
          (inr (omega (arith, within, many), edge)),
      λ edge. elim ((adds.edges y x).0 edge) [
        | inl none ↦ let h = subst (λ xs. Contains xs x) (ends_of-replicate n y) none in absurd (omega (arith, h.1))
        | inr turned ↦ turned.1
      ],
    );
  }

-- ---- what a graph lends

pub lent_ends_within : (graph reversed : List (List ℕ)) (x : ℕ) (ends : List ℕ) → IsReversed graph reversed
    → ends_of graph x ≡ ends → All (λ y. y < length graph) ends
lent_ends_within graph reversed x ends turned are =
    subst (All (λ y. y < length graph)) are (IsWithin-row graph (IsReversed-ends graph reversed turned) x)

module _ (graph reversed : List (List ℕ)) (x : ℕ) (names : List ℕ) (turned : IsReversed graph reversed)
    (are : ends_of reversed x ≡ names) where
  pub lent_names : (y : ℕ) → Contains names y ↔ HasEdge graph y x
  lent_names y = (
    λ has. (turned.edges y x).1 (subst (λ xs. Contains xs y) (sym are) has),
    λ edge. subst (λ xs. Contains xs y) are ((turned.edges y x).0 edge),
  )

  pub lent_names_within : All (λ y. y < length graph) names
  lent_names_within k d within = HasEdge-starts graph _ x ((lent_names _).0 (Contains-get_or names k d within))

-- ---- a graph that is built edge by edge

pub AddsEdges-within : (graph after : List (List ℕ)) (from to : ℕ) → IsWithin graph → to < length graph
    → AddsEdges graph (λ x y. (x ≡ from) × (y ≡ to)) after → IsWithin after
AddsEdges-within graph after from to within below adds x y edge = elim ((adds.edges x y).0 edge) [
  | inl old ↦ let h = within x y old in omega (arith, h, adds.nodes)
  | inr is ↦ omega (arith, is.1, below, adds.nodes)
]
