-- What is known of nodes at first, and what the marks say at last.
use Rattle.std.proofs.Common.{◌≡◌, ◌≢◌, ◌⊎◌, inl, inr, ◌<◌, ◌++◌, ◌∷◌, [], ℕ, List, true, false, Some, refl, sym, ◌∙◌}
use Rattle.std.proofs.Common.{ap, subst, length, map, replicate, arith}
use Rattle.std.specs.List.{Contains}
use Rattle.std.proofs.lemmas.List.{length-map, get_or-map, length-replicate, get_or-replicate}
use Rattle.std.proofs.lemmas.List.Elements.{Contains-push, Contains-append_left, Contains-push_cases}
use Rattle.std.proofs.lemmas.Option.{slice_get_within, slice_get-get_or, get_or_from_slice_get}
use Rattle.walk_core.specs.Walks.{IsOnCycle}
use Rattle.walk_core.specs.Digraphs.{HasEdge, IsMarked, AreOnCycles}
use Rattle.walk_core.specs.Edges.{HasEdge-starts}
use Rattle.walk_core.specs.Components.{place_of, is_on_cycle, AreSettled, WaitsNoLonger}
use Rattle.walk_core.specs.declared.component.Place.{Place}
use Rattle.walk_core.specs.declared.component.Place.TheVariants.{Waiting, Behind, OnCycle, OffCycle}
use Rattle.walk_core.proofs.Places.{place_within}

-- ---- at first all nodes wait

module _ (graph : List (List ℕ)) (places : List Place) (size : length places ≡ length graph)
    (wait : (x : ℕ) → x < length places → place_of places x ≡ Waiting) where
  only_waiting : (x : ℕ) (place : Place) → place ≢ OffCycle → place_of places x ≡ place → Waiting ≡ place
  only_waiting x place other is = sym (wait x (place_within places x place other is)) ∙ is

  none_off : (x : ℕ) → place_of places x ≡ OffCycle → ¬ IsOnCycle (HasEdge graph) x
  none_off x is cycle =
      let starts = HasEdge-starts graph x cycle.1.0 cycle.1.1 in
      let no_place : Waiting ≡ OffCycle = sym (wait x (omega (arith, starts, size))) ∙ is in
      cc

  none_on : (x : ℕ) → place_of places x ≢ OnCycle
  none_on x is = let no_place : Waiting ≡ OnCycle = only_waiting x OnCycle (λ same. cc (same)) is in cc

  settled_first : AreSettled graph places
  settled_first = record {
    size = size;
    sure = λ x is. let no_place : Waiting ≡ Behind = only_waiting x Behind (λ same. cc (same)) is in cc;
    on = λ x is. absurd (none_on x is);
    off = none_off;
    whole = λ x y is connected. absurd (none_on x is);
  }

pub settled_waiting : (graph : List (List ℕ)) (size : ℕ) → size ≡ length graph
    → AreSettled graph (replicate size Waiting)
settled_waiting graph size same =
    settled_first graph (replicate size Waiting) (length-replicate size Waiting ∙ same)
    (λ x within. get_or-replicate size x Waiting OffCycle (omega (arith, within, length-replicate size Waiting)))

-- ---- the nodes that wait come yet

module _ (size : ℕ) (order rest : List ℕ) (node : ℕ) (taken : order ≡ rest ++ node ∷ [])
    (within : (x : ℕ) → Contains order x → x < size) where
  pub node_taken : node < size
  node_taken = within node (subst (λ xs. Contains xs node) (sym taken) (Contains-push rest node))

  pub rest_within : (x : ℕ) → Contains rest x → x < size
  rest_within x here = within x (subst (λ xs. Contains xs x) (sym taken) (Contains-append_left rest (node ∷ []) x here))

module _ (order rest : List ℕ) (node : ℕ) (taken : order ≡ rest ++ node ∷ []) (before after : List Place)
    (ahead : (x : ℕ) → place_of before x ≡ Waiting → Contains order x) where
  ahead_cases : (x : ℕ) → place_of before x ≡ Waiting → Contains rest x ⊎ (node ≡ x)
  ahead_cases x is = Contains-push_cases rest node x (subst (λ xs. Contains xs x) taken (ahead x is))

  pub ahead_settled : WaitsNoLonger node before after → (x : ℕ) → place_of after x ≡ Waiting → Contains rest x
  ahead_settled now x is = elim (ahead_cases x (now x is).0) [
    | inl later ↦ later
    | inr same ↦ absurd ((now x is).1 (sym same))
  ]

-- ---- at last none waits

known_on : (place : Place) → is_on_cycle place ≡ true → place ≡ OnCycle
known_on OnCycle is = refl
known_on Waiting is = cc
known_on Behind is = cc
known_on OffCycle is = cc

module _ (graph : List (List ℕ)) (places : List Place) (settled : AreSettled graph places)
    (none_waits : (x : ℕ) → place_of places x ≢ Waiting) where
  marked_on : (x : ℕ) → IsMarked (map is_on_cycle places) x → place_of places x ≡ OnCycle
  marked_on x marked =
      let within : x < length places = omega (arith, slice_get_within (map is_on_cycle places) x true marked, length-map places is_on_cycle) in
      known_on (place_of places x) (sym (get_or-map is_on_cycle places x OffCycle false within) ∙ get_or_from_slice_get (map is_on_cycle places) x true false marked)

  on_marked : (x : ℕ) → place_of places x ≡ OnCycle → IsMarked (map is_on_cycle places) x
  on_marked x is =
      let within = place_within places x OnCycle (λ same. cc (same)) is in
      let inside : x < length (map is_on_cycle places) = omega (arith, within, length-map places is_on_cycle) in
      slice_get-get_or (map is_on_cycle places) x false inside
      ∙ ap Some (get_or-map is_on_cycle places x OffCycle false within ∙ ap is_on_cycle is)

  cycle_at : (x : ℕ) (place : Place) → place_of places x ≡ place → IsOnCycle (HasEdge graph) x
      → place_of places x ≡ OnCycle
  cycle_at x Waiting is cycle = absurd (none_waits x is)
  cycle_at x Behind is cycle = absurd (settled.sure x is)
  cycle_at x OnCycle is cycle = is
  cycle_at x OffCycle is cycle = absurd (settled.off x is cycle)

  pub are_on_cycles : AreOnCycles graph (map is_on_cycle places)
  are_on_cycles = record {
    nodes = length-map places is_on_cycle ∙ settled.size;
    each = λ x. (
      λ marked. settled.on x (marked_on x marked),
      λ cycle. on_marked x (cycle_at x (place_of places x) refl cycle),
    );
  }
