-- Searches over edges turned round, and what their answers say of the graph.
use Rattle.std.proofs.Common.{◌≡◌, ◌<◌, ◌≤◌, ◌+◌, ◌↔◌, ℕ, Bool, true, List, [], ◌∷◌, ◌++◌, length, map, Contains}
use Rattle.std.proofs.Common.{Option, Some, None, is_some, zero, suc, refl, sym, ap, ◌∙◌, subst, arith, inl, inr}
use Rattle.std.proofs.Common.{length-append}
use Rattle.std.specs.Prelude.{slice_get, option_map}
use Rattle.std.proofs.lemmas.List.{length-map, map_push}
use Rattle.std.proofs.lemmas.Option.{slice_get-map, slice_get_within, slice_get-get_or}
use Rattle.walk_core.specs.Walks.{Leads, Walk}
use Rattle.walk_core.specs.Digraphs.{HasEdge, IsMarked, IsReversed, IsWithin, AreDistances, ends_of, row}
use Rattle.walk_core.specs.Edges.{HasEdge-starts}
use Rattle.walk_core.proofs.Turned.{Walk-turned}
use Rattle.lattice_core.specs.PlaceLaws.{earlier_or_same}
use Rattle.walk_core.specs.Reach.{IsLeading, AreLeading, AreReached}

-- ---- what distances say of leading
module _ (graph : List (List ℕ)) (marked : List Bool) (distances : List (Option ℕ))
    (sized : length marked ≡ length graph) (are : AreDistances graph marked distances) where
  leads_at : (x : ℕ) (found : Option (Option ℕ)) → slice_get distances x ≡ found → option_map is_some found ≡ Some true
      → IsLeading graph marked x
  leads_at x None at is = cc
  leads_at x (Some None) at is = cc
  leads_at x (Some (Some n)) at is = (n, (are.each x (Some n) at).leads)

  within : (n x : ℕ) → Leads (HasEdge graph) (IsMarked marked) n x → x < length distances
  within zero x leads = omega (arith, slice_get_within marked x true leads, sized, are.nodes)
  within (suc n) x leads = omega (arith, HasEdge-starts graph x leads.0 leads.1, are.nodes)

  there_at : (x n : ℕ) (distance : Option ℕ) → slice_get distances x ≡ Some distance
      → Leads (HasEdge graph) (IsMarked marked) n x → is_some distance ≡ true
  there_at x n None at leads = absurd (are.each x None at n leads)
  there_at x n (Some m) at leads = refl

  pub AreLeading-distances : AreLeading graph marked (map is_some distances)
  AreLeading-distances = record {
    nodes = length-map distances is_some ∙ are.nodes;
    each = λ x. (
      λ flag. leads_at x (slice_get distances x) refl (sym (slice_get-map is_some distances x) ∙ flag),
      λ leads.
          let at = slice_get-get_or distances x None (within leads.0 x leads.1) in
          slice_get-map is_some distances x ∙ ap (option_map is_some) at ∙ ap Some (there_at x leads.0 _ at leads.1),
    );
  }

-- ---- walks and where they end
Leads-end : {N : Type 0} (E : N → N → Type 0) (P : N → Type 0) (n : ℕ) (x : N) → Leads E P n x
    → (y : N) × P y × Walk E n x y
Leads-end E P zero x is = (x, is, refl)
Leads-end E P (suc n) x leads = let rest = Leads-end E P n leads.0 leads.2 in (rest.0, rest.1, (leads.0, leads.1, rest.2))

end-Leads : {N : Type 0} (E : N → N → Type 0) (P : N → Type 0) (n : ℕ) (x y : N) → P y → Walk E n x y → Leads E P n x
end-Leads E P zero x y is walk = subst P (sym walk) is
end-Leads E P (suc n) x y is walk = (walk.0, walk.1, end-Leads E P n walk.0 y is walk.2)

Walk-by : {N : Type 0} (E F : N → N → Type 0) → ((a b : N) → E a b → F a b) → (n : ℕ) (x y : N) → Walk E n x y
    → Walk F n x y
Walk-by E F gives zero x y walk = walk
Walk-by E F gives (suc n) x y walk = (walk.0, gives x walk.0 walk.1, Walk-by E F gives n walk.0 y walk.2)

-- what leads to a marked node over the edges turned round is reached from one
pub AreReached-turned : (graph turned : List (List ℕ)) (marked flags : List Bool) → IsReversed graph turned
    → AreLeading turned marked flags → AreReached graph marked flags
AreReached-turned graph turned marked flags reversed are = record {
  nodes = are.nodes ∙ reversed.nodes;
  each = λ x. (
    λ flag.
        let leads = (are.each x).0 flag in
        let end = Leads-end (HasEdge turned) (IsMarked marked) leads.0 x leads.1 in
        (end.0, end.1, (leads.0, Walk-turned (HasEdge graph) leads.0 x end.0 (Walk-by (HasEdge turned) (λ a b. HasEdge graph b a) (λ a b edge. (reversed.edges b a).1 edge) leads.0 x end.0 end.2))),
    λ reached.
        let walk : Walk (HasEdge turned) reached.2.0 x reached.0 = Walk-turned (HasEdge turned) reached.2.0 reached.0 x
        (Walk-by (HasEdge graph) (λ a b. HasEdge turned b a) (λ a b edge. (reversed.edges a b).0 edge) reached.2.0 reached.0 x reached.2.1) in
        (are.each x).1
        (reached.2.0, end-Leads (HasEdge turned) (IsMarked marked) reached.2.0 x reached.0 reached.1 walk),
  );
}

-- ---- the rows turned round, node after node
push_before : {X : Type 0} (xs : List X) (y : X) (i : ℕ) → i < length xs → slice_get (xs ++ y ∷ []) i ≡ slice_get xs i
push_before [] y i less = absurd (omega (arith, less))
push_before (x ∷ xs) y zero less = refl
push_before (x ∷ xs) y (suc i) less = push_before xs y i (omega (arith, less))

push_at : {X : Type 0} (xs : List X) (y : X) → slice_get (xs ++ y ∷ []) (length xs) ≡ Some y
push_at [] y = refl
push_at (x ∷ xs) y = push_at xs y

-- the first rows are those of the nodes that have an edge to each
pub record AreNamers (graph : List (List ℕ)) (count : ℕ) (rows : List (List ℕ)) : Type 0 where
  pub nodes : length rows ≡ count
  pub each : (x y : ℕ) → x < count → Contains (ends_of rows x) y ↔ HasEdge graph y x

at_last : (x count : ℕ) → x < count + 1 → x ≤ count
at_last x count less = omega (arith, less)

pub more_namers : {T : Type 0} (f : T → List ℕ) (graph : List (List ℕ)) (count : ℕ) (rows : List T) (new : T)
    → AreNamers graph count (map f rows)
    → ((y : ℕ) → Contains (f new) y ↔ HasEdge graph y count) → AreNamers graph (count + 1) (map f (rows ++ new ∷ []))
more_namers f graph count rows new are names = record {
  nodes = ap length (map_push f rows new) ∙ length-append (map f rows) (f new ∷ []) ∙ ap (λ n. n + 1) are.nodes;
  each = λ x y less. elim (earlier_or_same x count (at_last x count less)) [
    | inl earlier ↦ subst (λ r. Contains (row r) y ↔ HasEdge graph y x)
        (sym (before x (omega (arith, earlier, are.nodes)))) (are.each x y earlier)
    | inr same ↦ subst (λ n. Contains (ends_of (map f (rows ++ new ∷ [])) n) y ↔ HasEdge graph y n) (sym same)
        (subst (λ r. Contains (row r) y ↔ HasEdge graph y count) (sym last) (names y))
  ];
} where
  before : (x : ℕ) → x < length (map f rows) → slice_get (map f (rows ++ new ∷ [])) x ≡ slice_get (map f rows) x
  before x less = ap (λ l. slice_get l x) (map_push f rows new) ∙ push_before (map f rows) (f new) x less

  last : slice_get (map f (rows ++ new ∷ [])) count ≡ Some (f new)
  last = ap (λ l. slice_get l count) (map_push f rows new)
      ∙ subst (λ n. slice_get (map f rows ++ f new ∷ []) n ≡ Some (f new)) are.nodes (push_at (map f rows) (f new))

pub all_named : (graph rows : List (List ℕ)) (count : ℕ) → IsWithin graph → length graph ≤ count → count ≤ length graph
    → AreNamers graph count rows → IsReversed graph rows
all_named graph rows count is low high are = record {
  nodes = omega (arith, are.nodes, low, high);
  edges = λ x y. (
    λ edge. (are.each y x (omega (arith, is x y edge, low))).1 edge,
    λ named. (are.each y x (omega (arith, HasEdge-starts rows y x named, are.nodes))).0 named,
  );
}

pub turned_within : (graph turned : List (List ℕ)) → IsReversed graph turned → IsWithin turned
turned_within graph turned reversed x y edge = let within = HasEdge-starts graph y x ((reversed.edges y x).1 edge) in omega (arith, within, reversed.nodes)
