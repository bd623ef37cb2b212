-- A search on its way: what it found so far, and the nodes that it has still to look at.
use Rattle.std.proofs.Common.{◌≡◌, ◌≢◌, ◌⊎◌, inl, inr, ◌<◌, ◌++◌, ◌∷◌, [], ℕ, List, Some, refl, sym, ◌∙◌, subst, length}
use Rattle.std.proofs.Common.{set, arith}
use Rattle.std.specs.List.{All, Contains}
use Rattle.std.specs.Prelude.{◌↔◌}
use Rattle.std.proofs.lemmas.List.{length-set}
use Rattle.std.proofs.lemmas.List.Elements.{All-pop, Contains-push, Contains-push_cases, Contains-append_left}
use Rattle.std.proofs.lemmas.List.Elements.{Contains-append_right, Contains-append_cases}
use Rattle.walk_core.specs.Walks.{IsReachedOver, Reaches-trans}
use Rattle.walk_core.specs.Components.{place_of, IsFound}
use Rattle.walk_core.specs.declared.component.Place.{Place}
use Rattle.walk_core.proofs.Places.{place_set}

pub record IsSpreading (E : ℕ → ℕ → Type 0) (sought found : Place) (start : ℕ) (before now : List Place) (nodes ahead : List ℕ) : Type 0 where
  pub size : length now ≡ length before
  pub each : (x : ℕ) → (place_of now x ≡ place_of before x) ⊎ Contains nodes x
  pub moved : (x : ℕ) → Contains nodes x → IsFound E sought found start before now x
  pub closed : (x y : ℕ) → (x ≡ start) ⊎ Contains nodes x → E x y → place_of now y ≡ sought → Contains ahead y
  pub reached : (x : ℕ) → Contains ahead x → IsReachedOver E start x

-- the node that is taken from the end of nodes of a graph is one, and so is each of the rest
pub taken_within : (size : ℕ) (ahead rest : List ℕ) (node : ℕ) → ahead ≡ rest ++ node ∷ [] → All (λ x. x < size) ahead
    → (node < size) × All (λ x. x < size) rest
taken_within size ahead rest node is within = let popped = All-pop (λ x. x < size) ahead rest (Some node) is within in (popped.1, popped.0)

none_listed : (x : ℕ) → ¬ Contains [] x
none_listed x here = let within : here.0 < length {A = ℕ} [] = here.1 in omega (arith, within)

module _ (E : ℕ → ℕ → Type 0) (sought found : Place) (start : ℕ) (before : List Place) where
  pub spreading_starts : (ahead : List ℕ) → ((y : ℕ) → Contains ahead y ↔ E start y)
      → IsSpreading E sought found start before before [] ahead
  spreading_starts ahead steps = record {
    size = refl;
    each = λ x. inl refl;
    moved = λ x here. absurd (none_listed x here);
    closed = λ x y from step is. elim from [
      | inl same ↦ (steps y).1 (subst (λ z. E z y) same step)
      | inr here ↦ absurd (none_listed x here)
    ];
    reached = λ x here. (0, (x, (steps x).0 here, refl));
  }

  module _ (now : List Place) (nodes rest : List ℕ) (node : ℕ)
      (spreading : IsSpreading E sought found start before now nodes (rest ++ node ∷ [])) where
    -- a node that isn't sought is passed over
    pub spreading_passes : place_of now node ≢ sought → IsSpreading E sought found start before now nodes rest
    spreading_passes other = record {
      size = spreading.size;
      each = spreading.each;
      moved = spreading.moved;
      closed = λ x y from step is. elim (Contains-push_cases rest node y (spreading.closed x y from step is)) [
        | inl later ↦ later
        | inr same ↦ absurd (other (subst (λ z. place_of now z ≡ sought) (sym same) is))
      ];
      reached = λ x here. spreading.reached x (Contains-append_left rest (node ∷ []) x here);
    }

    -- one that is sought is found, and the nodes a step from it are ahead
    module _ (differ : sought ≢ found) (within : node < length now) (open_yet : place_of now node ≡ sought)
        (steps : List ℕ) (are : (y : ℕ) → Contains steps y ↔ E node y) where
      was_sought : place_of before node ≡ sought
      was_sought = elim (spreading.each node) [
        | inl same ↦ sym same ∙ open_yet
        | inr here ↦ (spreading.moved node here).was
      ]

      reached_node : IsReachedOver E start node
      reached_node = spreading.reached node (Contains-push rest node)

      moved_other : (x : ℕ) → Contains nodes x → IsFound E sought found start before (set now node found) x
      moved_other x here =
          let old = spreading.moved x here in
          elim (place_set now node found within x) [
            | inl at ↦ record { reached = old.reached; was = old.was; is = at.1 }
            | inr other ↦ record { reached = old.reached; was = old.was; is = other.1 ∙ old.is }
          ]

      moved_here : IsFound E sought found start before (set now node found) node
      moved_here = elim (place_set now node found within node) [
        | inl at ↦ record { reached = reached_node; was = was_sought; is = at.1 }
        | inr other ↦ absurd (other.0 refl)
      ]

      taken_each : (x : ℕ) → (place_of (set now node found) x ≡ place_of before x) ⊎ Contains (nodes ++ node ∷ []) x
      taken_each x = elim (place_set now node found within x) [
        | inl at ↦ inr (subst (λ y. Contains (nodes ++ node ∷ []) y) (sym at.0) (Contains-push nodes node))
        | inr other ↦ elim (spreading.each x) [
          | inl same ↦ inl (other.1 ∙ same)
          | inr here ↦ inr (Contains-append_left nodes (node ∷ []) x here)
        ]
      ]

      taken_moved : (x : ℕ) → Contains (nodes ++ node ∷ []) x
          → IsFound E sought found start before (set now node found) x
      taken_moved x listed = elim (Contains-push_cases nodes node x listed) [
        | inl here ↦ moved_other x here
        | inr same ↦ subst (λ y. IsFound E sought found start before (set now node found) y) same moved_here
      ]

      -- what is sought after it was sought before it, and is another node
      sought_yet : (y : ℕ) → place_of (set now node found) y ≡ sought → (y ≢ node) × (place_of now y ≡ sought)
      sought_yet y is = elim (place_set now node found within y) [
        | inl at ↦ absurd (differ (sym is ∙ at.1))
        | inr other ↦ (other.0, sym other.1 ∙ is)
      ]

      old_ahead : (x y : ℕ) → (x ≡ start) ⊎ Contains nodes x → E x y → place_of (set now node found) y ≡ sought
          → Contains (rest ++ steps) y
      old_ahead x y from step is =
          let yet = sought_yet y is in
          elim (Contains-push_cases rest node y (spreading.closed x y from step yet.1)) [
            | inl later ↦ Contains-append_left rest steps y later
            | inr same ↦ absurd (yet.0 (sym same))
          ]

      new_ahead : (x y : ℕ) → node ≡ x → E x y → Contains (rest ++ steps) y
      new_ahead x y same step = Contains-append_right rest steps y ((are y).1 (subst (λ z. E z y) (sym same) step))

      taken_closed : (x y : ℕ) → (x ≡ start) ⊎ Contains (nodes ++ node ∷ []) x → E x y
          → place_of (set now node found) y ≡ sought → Contains (rest ++ steps) y
      taken_closed x y from step is = elim from [
        | inl same ↦ old_ahead x y (inl same) step is
        | inr listed ↦ elim (Contains-push_cases nodes node x listed) [
          | inl here ↦ old_ahead x y (inr here) step is
          | inr same ↦ new_ahead x y same step
        ]
      ]

      taken_reached : (x : ℕ) → Contains (rest ++ steps) x → IsReachedOver E start x
      taken_reached x listed = elim (Contains-append_cases rest steps x listed) [
        | inl later ↦ spreading.reached x (Contains-append_left rest (node ∷ []) x later)
        | inr step ↦ Reaches-trans E start node x reached_node (0, (x, (are x).0 step, refl))
      ]

      pub spreading_takes : IsSpreading E sought found start before (set now node found) (nodes ++ node ∷ [])
          (rest ++ steps)
      spreading_takes = record {
        size = length-set now node found ∙ spreading.size;
        each = taken_each;
        moved = taken_moved;
        closed = taken_closed;
        reached = taken_reached;
      }
