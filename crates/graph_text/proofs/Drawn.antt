-- What is drawn place by place is what the definitions over items say.
use Rattle.std.proofs.Common.{◌≡◌, ◌↔◌, ◌⊎◌, ◌<◌, ◌==◌, ◌&&◌, ◌∙◌, ℕ, zero, suc, Bool, true, false, List, [], ◌∷◌, ◌++◌}
use Rattle.std.proofs.Common.{Option, None, Some, Contains, length, map, cond, refl, sym, ap, subst, arith, inl, inr}
use Rattle.std.proofs.Common.{eq-eqb}
use Rattle.std.specs.Prelude.{slice_get, slice_index, slice_index_or, IsTrue}
use Rattle.std.specs.List.{AllZip, AllByRecursion}
use Rattle.std.specs.List.Sorted.{IsStrictlyIncreasing, IsStrictlySortedBy}
use Rattle.std.specs.declared.cmp.Ordering.{Ordering}
use Rattle.std.specs.declared.cmp.Ordering.TheVariants.{Less, Equal, Greater}
use Rattle.std.specs.Ordering.{nat_cmp, MatchOrdering}
use Rattle.std.proofs.lemmas.Bool.{eqb-true, false≢true}
use Rattle.std.proofs.lemmas.Cmp.{ranked}
use Rattle.std.proofs.lemmas.List.{length-replicate}
use Rattle.std.proofs.lemmas.Map.Keys.{IsStrictlyIncreasing-from_sorted, sorted_from_strictly_increasing}
use Rattle.std.proofs.lemmas.Option.{slice_get-get_or, slice_get_within, get_or_from_slice_get}
use Rattle.walk_core.specs.Components.{AreFirsts}
use Rattle.walk_core.specs.Digraphs.{IsMarked, ends_of, row}
use Rattle.walk_core.specs.Walks.{IsOnCycle}
use Rattle.walk_core.specs.FirstLaws.{first_within}
use Rattle.lattice_core.specs.MemberLaws.{Contains-none, Contains-cons_cases, Contains-first, Contains-later}
use Rattle.lattice_core.specs.MemberLaws.{Contains-to_map, Contains-of_map}
use Rattle.lattice_core.specs.PlaceLaws.{Contains-at, at_Contains, at_below, one_item, one_place, sorted_at}
use Rattle.lattice_core.specs.ZipLaws.{AllZip-at, AllZip-beside, AllZip-map, length-AllZip}
use Rattle.gate_rules.specs.Rules.{GateRules}
use Rattle.state_core.specs.State.{State}
use Rattle.state_core.specs.Items.{IsItem, item_cmp}
use Rattle.state_core.specs.Known.{IsKnown, IsMerged}
use Rattle.state_core.specs.ItemLaws.{items_total}
use Rattle.state_core.specs.declared.item.Item.{Item}
use Rattle.graph_core.specs.Dependencies.{IsDependency, IsTarget}
use Rattle.graph_core.specs.ItemGraph.{AreItems, ItemGraph, IsAt, IsGraphOf, AreTargets, AreEnds}
use Rattle.graph_core.specs.WalkLaws.{ends_within}
use Rattle.ready_core.specs.Causes.{item_at}
use Rattle.ready_core.specs.Verdicts.{AreVerdicts, Judged, items_out}
use Rattle.ready_core.specs.declared.verdicts.Refusal.{Refusal}
use Rattle.graph_text.specs.declared.node.Node.{Node}
use Rattle.graph_text.specs.Drawing.{AreNeeds, AreNodes, AreUnknown, IsAhead, IsCycleOf, IsDrawn, IsNode, IsVerdictOn}
use Rattle.graph_text.specs.Drawing.{items_of}
use Rattle.graph_text.specs.Near.{AreAhead, AreBehind}
use Rattle.graph_text.specs.Places.{AreKept, AreNeedsAt, AreNodesAt, AreSides, AreUnknownAt, IsNodeAt, IsOutFor}
use Rattle.graph_text.specs.Places.{IsShown, first_at, flag_at}
use Rattle.graph_text.proofs.Around.{ahead_at, behind_at, held}
use Rattle.graph_text.proofs.Firsts.{first_item}

-- ---- an item is among some or isn't
either_true : (b : Bool) → (b ≡ true) ⊎ (b ≡ false)
either_true true = inl refl
either_true false = inr refl

both_same : (a b : Item) → a.change ≡ b.change → a.set ≡ b.set → a ≡ b
both_same a b change set =
    ap (λ n. record { change = n; set = a.set }) change ∙ ap (λ n. record { change = b.change; set = n }) set

differ_by : (b : Bool) (m n : ℕ) → (m == n) ≡ b → b ≡ false → ¬ (m ≡ n)
differ_by b m n is no_test same = false≢true (sym (is ∙ no_test) ∙ eq-eqb m n same)

same_or_not : (a b : Item) → (a ≡ b) ⊎ ¬ (a ≡ b)
same_or_not a b = elim (either_true (a.change == b.change)) [
  | inl change ↦ elim (either_true (a.set == b.set)) [
    | inl set ↦ inl (both_same a b (eqb-true a.change b.change change) (eqb-true a.set b.set set))
    | inr not ↦ inr (λ same. differ_by (a.set == b.set) a.set b.set refl not (ap (λ (i : Item). i.set) same))
  ]
  | inr not ↦ inr
      (λ same. differ_by (a.change == b.change) a.change b.change refl not (ap (λ (i : Item). i.change) same))
]

among_or_not : (xs : List Item) (x : Item) → Contains xs x ⊎ ¬ Contains xs x
among_or_not [] x = inr (λ c. Contains-none x c)
among_or_not (y ∷ ys) x = elim (same_or_not y x) [
  | inl same ↦ inl (subst (Contains (y ∷ ys)) same (Contains-first y ys))
  | inr differs ↦ elim (among_or_not ys x) [
    | inl later ↦ inl (Contains-later y ys x later)
    | inr not ↦ inr (λ c. elim (Contains-cons_cases y ys x c) [ inl same ↦ differs same | inr later ↦ not later ])
  ]
]

none_at : (flags : List Bool) (place : ℕ) → slice_get flags place ≡ None → flag_at flags place ≡ false
none_at [] place at = refl
none_at (b ∷ flags) zero at = cc
none_at (b ∷ flags) (suc place) at = none_at flags place at

-- ---- items at rising places rise
none_sorted : IsStrictlySortedBy item_cmp []
unfolding IsStrictlySortedBy
none_sorted = tt

no_numbers : IsStrictlySortedBy nat_cmp []
unfolding IsStrictlySortedBy
no_numbers = tt

below_of : (a b : ℕ) → nat_cmp a b ≡ Less → a < b
below_of a b e = subst (λ o. MatchOrdering o (a < b) (a ≡ b) (b < a)) e (ranked a b (nat_cmp a b) refl)

module _ (items : List Item) (sorted : IsStrictlySortedBy item_cmp items) where
  above_all : (place : ℕ) (item : Item) (places : List ℕ) (others : List Item) → IsAt items place item
      → IsStrictlySortedBy nat_cmp (place ∷ places) → AllZip (IsAt items) places others
      → AllByRecursion (λ other. item_cmp item other ≡ Less) others
  unfolding IsStrictlySortedBy
  above_all place item [] [] here rising all = tt
  above_all place item [] (o ∷ others) here rising all = absurd all
  above_all place item (p ∷ places) [] here rising all = absurd all
  above_all place item (p ∷ places) (o ∷ others) here rising all = (
    sorted_at item_cmp items sorted place p item o (below_of place p rising.0.0) here all.0,
    above_all place item places others here (rising.0.1, rising.1.1) all.1,
  )

  rises : (places : List ℕ) (others : List Item) → IsStrictlySortedBy nat_cmp places → AllZip (IsAt items) places others
      → IsStrictlySortedBy item_cmp others
  unfolding IsStrictlySortedBy
  rises [] [] rising all = tt
  rises [] (o ∷ others) rising all = absurd all
  rises (p ∷ places) [] rising all = absurd all
  rises (p ∷ places) (o ∷ others) rising all =
      (above_all p o places others all.0 rising all.1, rises places others rising.1 all.1)

  -- the items at some places
  found_at : (places : List ℕ) (others : List Item) → AllZip (IsAt items) places others → (other : Item)
      → Contains others other ↔ ((place : ℕ) × Contains places place × IsAt items place other)
  found_at places others all other = (
    λ c.
        let at = at_Contains others other c in
        let beside = AllZip-beside (IsAt items) places others all at.0 other at.1 in
        (beside.0, Contains-at places at.0 beside.0 beside.1, beside.2),
    λ found.
        let at = at_Contains places found.0 found.1 in
        let beside = AllZip-at (IsAt items) places others all at.0 found.0 at.1 in
        subst (Contains others) (one_item items found.0 beside.0 other beside.2 found.2)
        (Contains-at others at.0 beside.0 beside.1),
  )

  mapped_at : (places : List ℕ) → ((place : ℕ) → Contains places place → place < length items)
      → AllZip (IsAt items) places (map (item_at items) places)
  mapped_at [] within = tt
  mapped_at (p ∷ places) within =
      (slice_get-get_or items p _ (within p (Contains-first p places)), mapped_at places (λ q c. within q (Contains-later p places q c)))

one_flag : (b : Bool) → Some b ≡ Some true → b ≡ true
one_flag b e = cc

row_at : (found : Option (List ℕ)) (r : List ℕ) → found ≡ Some r → row found ≡ r
row_at None r is = cc
row_at (Some other) r is = cc

module _ (gate : GateRules) (state : State) (graph : ItemGraph) (is : IsGraphOf gate state graph)
    (whole : AreItems state graph.items) (around : Option ℕ) (ahead behind : List Bool)
    (are_ahead : AreAhead graph around ahead) (are_behind : AreBehind graph around behind) where
  -- ---- which items are drawn
  shown_drawn : (place : ℕ) (item : Item) → IsAt graph.items place item
      → IsShown state graph.items ahead behind place ↔ IsDrawn gate state around item
  shown_drawn place item here = (
    λ shown.
        let same = one_item graph.items place shown.item item shown.here here in
        record {
          there = (whole.each item).0 (Contains-at graph.items place item here);
          open_still = λ merged. shown.open_still (subst (λ (i : Item). IsMerged state i.change) (sym same) merged);
          near = elim shown.near [
            | inl marked ↦ inl ((ahead_at gate state graph is whole around ahead are_ahead place item here).0 marked)
            | inr marked ↦ inr ((behind_at gate state graph is whole around behind are_behind place item here).0 marked)
          ];
        },
    λ drawn. record {
      item = item;
      here = here;
      open_still = drawn.open_still;
      near = elim drawn.near [
        | inl leads ↦ inl ((ahead_at gate state graph is whole around ahead are_ahead place item here).1 leads)
        | inr leads ↦ inr ((behind_at gate state graph is whole around behind are_behind place item here).1 leads)
      ];
    },
  )

  -- ---- what an item waits for
  needs_drawn : (place : ℕ) (item : Item) → IsAt graph.items place item → (needs : List Item)
      → AreNeedsAt state graph.items ahead behind (ends_of graph.ends place) needs
      → AreNeeds gate state around item needs
  needs_drawn place item here needs are = record {
    in_order = rises graph.items is.items.in_order are.places needs
        (sorted_from_strictly_increasing are.places are.kept.increasing) all;
    each = λ other. (
      λ c.
          let found = (found_at graph.items is.items.in_order are.places needs all other).0 c in
          let kept = (are.kept.each found.0).0 found.1 in
          let end = (beside.2.each found.0).0 (subst (λ l. Contains l found.0) (row_at _ beside.0 beside.1) kept.0) in
          (subst (IsDependency gate state item) (one_item graph.items found.0 end.other other end.there found.2) end.edge, (shown_drawn found.0 other found.2).0 kept.1),
      λ both.
          let at = at_Contains graph.items other (held gate state graph is whole item other both.0) in
          let end = (beside.2.each at.0).1 (record { other = other; there = at.1; edge = both.0 }) in
          let kept = (are.kept.each at.0).1 (subst (λ l. Contains l at.0) (sym (row_at _ beside.0 beside.1)) end, (shown_drawn at.0 other at.1).1 both.1) in
          (found_at graph.items is.items.in_order are.places needs all other).1 (at.0, kept, at.1),
    );
  } where
    beside : (ends : List ℕ) × (slice_get graph.ends place ≡ Some ends)
        × AreEnds (IsDependency gate state) graph.items item ends
    beside = AllZip-at (AreEnds (IsDependency gate state) graph.items) graph.items graph.ends is.ends place item here

    within : (p : ℕ) → Contains are.places p → p < length graph.items
    within p c = let kept = ((are.kept.each p).0 c).1 in slice_get_within graph.items p kept.item kept.here

    all : AllZip (IsAt graph.items) are.places needs
    all = subst (AllZip (IsAt graph.items) are.places) (sym are.needs_are)
        (mapped_at graph.items is.items.in_order are.places within)

  unknown_drawn : (place : ℕ) (item : Item) → IsAt graph.items place item → (unknown : List ℕ)
      → AreUnknownAt state graph ahead place unknown → AreUnknown gate state around item unknown
  unknown_drawn place item here unknown are = record {
    increasing = are.increasing;
    each = λ number. (
      λ c.
          let kept = (are.each number).0 c in
          let split = in_cond (flag_at ahead place) (ends_of graph.targets place) number kept.0 in (
            (ahead_at gate state graph is whole around ahead are_ahead place item here).0 (marked split.0),
            record { target = (beside.2.each number).0 (subst (λ l. Contains l number) (row_at _ beside.0 beside.1) split.1); unknown = kept.1 },
          ),
      λ both.
          let flag = (ahead_at gate state graph is whole around ahead are_ahead place item here).1 both.0 in
          let on : flag_at ahead place ≡ true = get_or_from_slice_get ahead place true false flag in
          (are.each number).1 (
            subst (λ b. Contains (cond b (ends_of graph.targets place) []) number) (sym on)
                (subst (λ l. Contains l number) (sym (row_at _ beside.0 beside.1)) ((beside.2.each number).1 both.1.target)),
            both.1.unknown,
          ),
    );
  } where
    beside : (targets : List ℕ) × (slice_get graph.targets place ≡ Some targets) × AreTargets gate state item targets
    beside = AllZip-at (AreTargets gate state) graph.items graph.targets is.targets place item here

    in_cond : (b : Bool) (xs : List ℕ) (x : ℕ) → Contains (cond b xs []) x → (b ≡ true) × Contains xs x
    in_cond true xs x c = (refl, c)
    in_cond false xs x c = absurd (Contains-none x c)

    marked : flag_at ahead place ≡ true → IsMarked ahead place
    marked on = by_found (slice_get ahead place) refl where
      by_found : (found : Option Bool) → slice_get ahead place ≡ found → IsMarked ahead place
      by_found None at = absurd (false≢true (sym (none_at ahead place at) ∙ on))
      by_found (Some b) at = at ∙ ap Some (sym (get_or_from_slice_get ahead place b false at) ∙ on)

  -- ---- its cycle
  module _ (firsts : List ℕ) (are_firsts : AreFirsts graph.ends firsts) where
    cycle_drawn : (place : ℕ) (item : Item) → IsAt graph.items place item → (cycle : Option Item)
        → cycle ≡ first_at graph firsts place → IsCycleOf gate state item cycle
    cycle_drawn place item here cycle cycle_is = subst (IsCycleOf gate state item) (sym cycle_is)
        (by_flag beside.0 (get_or_from_slice_get graph.on_cycle place beside.0 false beside.1) beside.2) where
          beside : (flag : Bool) × (slice_get graph.on_cycle place ≡ Some flag)
              × (IsTrue flag ↔ IsOnCycle (IsDependency gate state) item)
          beside = AllZip-at (λ i flag. IsTrue flag ↔ IsOnCycle (IsDependency gate state) i) graph.items graph.on_cycle is.on_cycle place item here

          sized : length graph.ends ≡ length graph.items
          sized = length-AllZip (AreEnds (IsDependency gate state) graph.items) graph.items graph.ends is.ends

          place_in : place < length graph.ends
          place_in = omega (arith, sized, slice_get_within graph.items place item here)

          first_in : slice_index firsts place < length graph.items
          first_in = omega (arith, sized, first_within graph.ends firsts are_firsts place place_in)

          by_flag : (flag : Bool) → flag_at graph.on_cycle place ≡ flag
              → IsTrue flag ↔ IsOnCycle (IsDependency gate state) item
              → IsCycleOf gate state item
              (cond (flag_at graph.on_cycle place) (Some (item_at graph.items (slice_index firsts place))) None)
          by_flag true at cycles =
              subst (λ b. IsCycleOf gate state item (cond b (Some (item_at graph.items (slice_index firsts place))) None))
              (sym at) (
                cycles.0 refl,
                first_item gate state graph is whole place (slice_index firsts place) item
                    (item_at graph.items (slice_index firsts place)) here
                    (slice_get-get_or graph.items (slice_index firsts place) _ first_in) (are_firsts.each place place_in),
              )
          by_flag false at cycles =
              subst (λ b. IsCycleOf gate state item (cond b (Some (item_at graph.items (slice_index firsts place))) None))
              (sym at) (λ on. false≢true (cycles.1 on))

  -- ---- its verdict
  module _ (verdicts : Judged) (judged : AreVerdicts gate state verdicts) where
    verdict_drawn : (item : Item) → IsItem state item → (refusal : Option Refusal) → IsOutFor verdicts.out item refusal
        → IsVerdictOn verdicts item refusal
    verdict_drawn item there None not_out = elim (among_or_not verdicts.ready item) [
      | inl ready ↦ ready
      | inr not ↦ absurd (not_out ((judged.out item).1 (there, λ is_ready. not ((judged.ready item).1 is_ready))))
    ]
    verdict_drawn item there (Some refusal) out = out

    -- ---- all nodes
    pub nodes_drawn : (nodes : List Node) → AreNodesAt state graph verdicts.out ahead behind nodes
        → AreNodes gate state verdicts around nodes
    nodes_drawn nodes are = record {
      in_order = rises graph.items is.items.in_order are.all.places (items_of nodes)
          (sorted_from_strictly_increasing are.all.places are.all.kept.increasing) zipped;
      each = λ item. (
        λ c.
            let found = (found_at graph.items is.items.in_order are.all.places (items_of nodes) zipped item).0 c in
            (shown_drawn found.0 item found.2).0 ((are.all.kept.each found.0).0 found.1).1,
        λ drawn.
            let at = at_Contains graph.items item ((whole.each item).1 drawn.there) in
            let kept = (are.all.kept.each at.0).1 (slice_get_within graph.items at.0 item at.1, (shown_drawn at.0 item at.1).1 drawn) in
            (found_at graph.items is.items.in_order are.all.places (items_of nodes) zipped item).1 (at.0, kept, at.1),
      );
      drawn = λ node c.
          let at = at_Contains nodes node c in
          let beside = AllZip-beside (IsNodeAt state graph verdicts.out ahead behind are.firsts) are.all.places nodes are.all.nodes_at at.0 node at.1 in
          let its = beside.2 in
          record {
            verdict = verdict_drawn node.item ((whole.each node.item).0 (Contains-at graph.items beside.0 node.item its.item)) node.refusal its.refusal;
            cycle = cycle_drawn are.firsts are.are_firsts beside.0 node.item its.item node.cycle its.cycle;
            needs = needs_drawn beside.0 node.item its.item node.needs.items its.needs;
            unknown = unknown_drawn beside.0 node.item its.item node.unknown.items its.unknown;
          };
    } where
      items_zipped : (places : List ℕ) (some : List Node)
          → AllZip (IsNodeAt state graph verdicts.out ahead behind are.firsts) places some
          → AllZip (IsAt graph.items) places (items_of some)
      items_zipped [] [] all = tt
      items_zipped [] (n ∷ ns) all = absurd all
      items_zipped (p ∷ ps) [] all = absurd all
      items_zipped (p ∷ ps) (n ∷ ns) all = (all.0.item, items_zipped ps ns all.1)

      zipped : AllZip (IsAt graph.items) are.all.places (items_of nodes)
      zipped = items_zipped are.all.places nodes are.all.nodes_at

-- ---- what a graph and its flags are
ahead_sized : (graph : ItemGraph) → length graph.ends ≡ length graph.items → (around : Option ℕ) (flags : List Bool)
    → AreAhead graph around flags → length flags ≡ length graph.items
ahead_sized graph sized None flags all = ap length all ∙ length-replicate (length graph.items) true
ahead_sized graph sized (Some number) flags reach = reach.nodes ∙ sized

behind_sized : (graph : ItemGraph) → length graph.ends ≡ length graph.items → (around : Option ℕ) (flags : List Bool)
    → AreBehind graph around flags → length flags ≡ length graph.items
behind_sized graph sized None flags all = ap length all ∙ length-replicate (length graph.items) true
behind_sized graph sized (Some number) flags lead = lead.nodes ∙ sized

module _ (gate : GateRules) (state : State) (graph : ItemGraph) (is : IsGraphOf gate state graph)
    (whole : AreItems state graph.items) (around : Option ℕ) (ahead behind : List Bool)
    (are_ahead : AreAhead graph around ahead) (are_behind : AreBehind graph around behind) where
  all_nodes : length graph.ends ≡ length graph.items
  all_nodes = length-AllZip (AreEnds (IsDependency gate state) graph.items) graph.items graph.ends is.ends

  ends_at : (place : ℕ) (found : Option (List ℕ)) → slice_get graph.ends place ≡ found
      → IsStrictlyIncreasing (row found)
  ends_at place None at = IsStrictlyIncreasing-from_sorted [] no_numbers
  ends_at place (Some ends) at = (AllZip-beside (AreEnds (IsDependency gate state) graph.items) graph.items graph.ends is.ends place ends at).2.increasing

  targets_at : (place : ℕ) (found : Option (List ℕ)) → slice_get graph.targets place ≡ found
      → IsStrictlyIncreasing (row found)
  targets_at place None at = IsStrictlyIncreasing-from_sorted [] no_numbers
  targets_at place (Some targets) at =
      (AllZip-beside (AreTargets gate state) graph.items graph.targets is.targets place targets at).2.increasing

  pub graph_sides : AreSides graph ahead behind
  graph_sides = record {
    in_order = is.items.in_order;
    ahead_all = ahead_sized graph all_nodes around ahead are_ahead;
    behind_all = behind_sized graph all_nodes around behind are_behind;
    nodes = all_nodes;
    cycles = length-AllZip
        (λ i flag. IsTrue flag ↔ IsOnCycle (IsDependency gate state) i) graph.items graph.on_cycle is.on_cycle;
    within = ends_within (IsDependency gate state) graph.items graph.ends is.ends;
    ends_rise = λ place. ends_at place (slice_get graph.ends place) refl;
    targets_rise = λ place. targets_at place (slice_get graph.targets place) refl;
  }
