-- Nodes, place after place.
use Rattle.std.proofs.Common.{◌≡◌, ◌<◌, ◌+◌, ℕ, Bool, List, [], ◌∷◌, ◌++◌, Contains, eqb, flat_map, refl, sym, subst}
use Rattle.std.proofs.Common.{arith}
use Rattle.std.specs.List.{AllZip}
use Rattle.std.specs.List.Retain.{IsFiltered, DiffersFromLast}
use Rattle.std.specs.List.Sorted.{IsPermutation, IsSorted, IsStrictlyIncreasing}
use Rattle.std.specs.Ordering.{nat_cmp}
use Rattle.std.proofs.lemmas.List.Filters.{dedup_is}
use Rattle.std.proofs.lemmas.List.Kept.{Contains-dedup_nat, Contains-from_dedup}
use Rattle.std.proofs.lemmas.List.Sorted.{Contains-permutation, IsPermutation-sym}
use Rattle.std.proofs.lemmas.Map.Keys.{IsStrictlyIncreasing-dedup}
use Rattle.state_core.specs.State.{State}
use Rattle.graph_core.specs.ItemGraph.{ItemGraph}
use Rattle.ready_core.specs.declared.verdicts.Left.{Left}
use Rattle.graph_text.specs.Drawing.{AreAllUnknown}
use Rattle.graph_text.specs.declared.node.Node.{Node}
use Rattle.graph_text.specs.Places.{AreNodesTo, IsNodeAt, IsShown}
use Rattle.graph_text.proofs.Kept.{below_grows, kept_skips, kept_takes}

zip_push : {X Y : Type 0} (R : X → Y → Type 0) (xs : List X) (ys : List Y) (x : X) (y : Y) → AllZip R xs ys → R x y
    → AllZip R (xs ++ x ∷ []) (ys ++ y ∷ [])
zip_push R [] [] x y all r = (r, tt)
zip_push R [] (b ∷ ys) x y all r = absurd all
zip_push R (a ∷ xs) [] x y all r = absurd all
zip_push R (a ∷ xs) (b ∷ ys) x y all r = (all.0, zip_push R xs ys x y all.1 r)

module _ (state : State) (graph : ItemGraph) (out : List Left) (ahead behind : List Bool) (firsts : List ℕ) where
  module _ (count : ℕ) (nodes : List Node) (are : AreNodesTo state graph out ahead behind firsts count nodes) where
    pub node_less : ¬ IsShown state graph.items ahead behind count
        → AreNodesTo state graph out ahead behind firsts (count + 1) nodes
    node_less not = record {
      places = are.places;
      kept = kept_skips (IsShown state graph.items ahead behind) (λ m. m < count)
          (λ m. m < count + 1) are.places count are.kept (below_grows count) not;
      nodes_at = are.nodes_at;
    }

    pub node_more : IsShown state graph.items ahead behind count → (node : Node)
        → IsNodeAt state graph out ahead behind firsts count node
        → (pushed : List Node) → pushed ≡ nodes ++ node ∷ []
        → AreNodesTo state graph out ahead behind firsts (count + 1) pushed
    node_more is node drawn pushed pushed_is =
        subst (AreNodesTo state graph out ahead behind firsts (count + 1)) (sym pushed_is) (record {
          places = are.places ++ count ∷ [];
          kept = kept_takes (IsShown state graph.items ahead behind) (λ m. m < count)
              (λ m. m < count + 1) are.places count are.kept (below_grows count) is (λ m less. less) _ refl;
          nodes_at = zip_push (IsNodeAt state graph out ahead behind firsts) are.places nodes count node are.nodes_at drawn;
        })

-- ---- the unknown changes of all nodes
pub all_unknown : (nodes : List Node) (named sorted once : List ℕ) → named ≡ flat_map (λ node. node.unknown.items) nodes
    → IsPermutation named sorted → IsSorted nat_cmp sorted
    → IsFiltered (DiffersFromLast eqb) [] sorted once → AreAllUnknown nodes once
all_unknown nodes named sorted once named_is moved in_order filtered =
    let is = dedup_is eqb sorted once filtered in
    record {
      increasing = subst IsStrictlyIncreasing (sym is) (IsStrictlyIncreasing-dedup sorted in_order);
      each = λ n. (
        λ c.
            let in_named = Contains-permutation sorted named n (IsPermutation-sym named sorted moved) (Contains-from_dedup eqb sorted n (subst (λ l. Contains l n) is c)) in
            subst (λ l. Contains l n) named_is in_named,
        λ has.
            let in_named = subst (λ l. Contains l n) (sym named_is) has in
            subst (λ l. Contains l n) (sym is)
            (Contains-dedup_nat sorted n (Contains-permutation named sorted n moved in_named)),
      );
    }
