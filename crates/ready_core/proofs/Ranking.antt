-- What the searched ranks say of the items.
use Rattle.std.proofs.Common.{◌≡◌, ◌<◌, ◌≤◌, ◌-◌, ℕ, Bool, true, false, List, length, get_or, Contains, Option, Some}
use Rattle.std.proofs.Common.{None, is_some, zero, suc, refl, sym, ap, ◌∙◌, subst, arith, inl, inr}
use Rattle.std.specs.Prelude.{slice_get, option_map, All, MatchOption, IsSome}
use Rattle.std.specs.List.Sorted.{IsStrictlyIncreasing}
use Rattle.std.proofs.lemmas.List.{length-map}
use Rattle.std.proofs.lemmas.List.Elements.{All-contains}
use Rattle.std.proofs.lemmas.List.Kept.{AllPairs-from_increasing}
use Rattle.std.proofs.lemmas.Option.{slice_get-map, slice_get_within, slice_get-get_or, get_or_from_slice_get}
use Rattle.walk_core.specs.Walks.{Leads, IsDistance-once}
use Rattle.walk_core.specs.Digraphs.{HasEdge, IsMarked, ends_of, row}
use Rattle.walk_core.specs.Edges.{AreDistances-zero, AreDistances-next}
use Rattle.gate_rules.specs.Rules.{GateRules}
use Rattle.state_core.specs.declared.item.Item.{Item}
use Rattle.state_core.specs.State.{State}
use Rattle.graph_core.specs.Dependencies.{IsDependency}
use Rattle.graph_core.specs.ItemGraph.{ItemGraph, IsAt, IsGraphOf, AreEnds}
use Rattle.lattice_core.specs.PlaceLaws.{Contains-at, at_Contains, at_below, one_item, earlier_or_same}
use Rattle.state_core.specs.ItemLaws.{changes_rise}
use Rattle.graph_core.specs.WalkLaws.{edge_between, edge_at, Leads-items, Leads-places}
use Rattle.lattice_core.specs.ZipLaws.{AllZip-at}
use Rattle.ready_core.specs.declared.verdicts.Refusal.{Refusal}
use Rattle.ready_core.specs.declared.verdicts.Refusal.TheVariants.{Dependency}
use Rattle.ready_core.specs.Refusals.{IsEligible, IsIneligible, IsRefused, IsRefusalRank}
use Rattle.walk_core.specs.Levels.{HasDistance}
use Rattle.ready_core.specs.Causes.{IsCauseOf, AreCauses, AreSearched, IsNearest, IsSafeItem, flags_of}
use Rattle.ready_core.proofs.Refusing.{refused_ineligible}

-- what was read of a list at a place
pub read_at : (ranks : List (Option ℕ)) (place : ℕ) (found : Option ℕ) → place < length ranks
    → get_or ranks place None ≡ found → slice_get ranks place ≡ Some found
read_at ranks place found within e = slice_get-get_or ranks place None within ∙ ap Some e

pub here_at : (items lent : List Item) (place : ℕ) (d : Item) → lent ≡ items → place < length lent
    → IsAt items place (get_or lent place d)
here_at items lent place d same within =
    subst (λ l. slice_get l place ≡ Some (get_or lent place d)) same (slice_get-get_or lent place d within)

-- ---- flags of causes
flag_at : (causes : List (Option Refusal)) (place : ℕ) (cause : Option Refusal) → slice_get causes place ≡ Some cause
    → slice_get (flags_of causes) place ≡ Some (is_some cause)
flag_at causes place cause here = slice_get-map is_some causes place ∙ ap (option_map is_some) here

one_flag : (a b : Bool) → Some a ≡ Some b → a ≡ b
one_flag a b e = cc

-- a place without a cause isn't marked, so a rank there is above 0
pub rank_above : (graph : ItemGraph) (causes : List (Option Refusal)) (ranks : List (Option ℕ))
    → AreSearched graph causes ranks
    → (place rank : ℕ) → HasDistance ranks place rank → slice_get causes place ≡ Some None
    → (rest : ℕ) × (rank ≡ suc rest)
rank_above graph causes ranks searched place zero at none =
    let marked = (searched.distances.each place (Some 0) at).leads in
    let e : false ≡ true = one_flag false true (sym (flag_at causes place None none) ∙ marked) in cc
rank_above graph causes ranks searched place (suc rest) at none = (rest, refl)

-- and an edge leads on from it to a place with the rank below
pub rank_next : (graph : ItemGraph) (causes : List (Option Refusal)) (ranks : List (Option ℕ))
    → AreSearched graph causes ranks
    → (place rest : ℕ) → HasDistance ranks place (suc rest)
    → (end : ℕ) × Contains (ends_of graph.ends place) end × HasDistance ranks end rest
rank_next graph causes ranks searched place rest at =
    AreDistances-next graph.ends (flags_of causes) ranks searched.distances searched.within place rest at

module _ (gate : GateRules) (state : State) (graph : ItemGraph) (causes : List (Option Refusal))
    (ranks : List (Option ℕ))
    (is : IsGraphOf gate state graph) (of : AreCauses gate state graph.items causes)
    (searched : AreSearched graph causes ranks) where
  cause_here : (place : ℕ) (item : Item) → IsAt graph.items place item
      → (cause : Option Refusal) × (slice_get causes place ≡ Some cause) × IsCauseOf gate state item cause
  cause_here place item here = AllZip-at (IsCauseOf gate state) graph.items causes of place item here

  by_flag : (item : Item) (cause : Option Refusal) → IsCauseOf gate state item cause → is_some cause ≡ true
      → IsIneligible gate state item
  by_flag item None cause e = cc
  by_flag item (Some refusal) cause e = refused_ineligible gate state item refusal cause

  to_flag : (item : Item) (cause : Option Refusal) → IsCauseOf gate state item cause → IsIneligible gate state item
      → is_some cause ≡ true
  to_flag item None cause out = absurd (out cause)
  to_flag item (Some refusal) cause out = refl

  -- just the items that aren't eligible are marked
  marked_out : (place : ℕ) (item : Item) → IsAt graph.items place item → IsMarked (flags_of causes) place
      → IsIneligible gate state item
  marked_out place item here marked =
      let cause = cause_here place item here in
      by_flag item cause.0 cause.2
      (one_flag (is_some cause.0) true (sym (flag_at causes place cause.0 cause.1) ∙ marked))

  out_marked : (place : ℕ) (item : Item) → IsAt graph.items place item → IsIneligible gate state item
      → IsMarked (flags_of causes) place
  out_marked place item here out =
      let cause = cause_here place item here in
      flag_at causes place cause.0 cause.1 ∙ ap Some (to_flag item cause.0 cause.2 out)

  by_items : (n place : ℕ) (item : Item) → IsAt graph.items place item
      → Leads (HasEdge graph.ends) (IsMarked (flags_of causes)) n place
      → Leads (IsDependency gate state) (IsIneligible gate state) n item
  by_items = Leads-items (IsDependency gate state) graph.items graph.ends is.ends (IsMarked (flags_of causes))
      (IsIneligible gate state) marked_out

  by_places : (n place : ℕ) (item : Item) → IsAt graph.items place item
      → Leads (IsDependency gate state) (IsIneligible gate state) n item
      → Leads (HasEdge graph.ends) (IsMarked (flags_of causes)) n place
  by_places = Leads-places (IsDependency gate state) graph.items graph.ends is.ends is.items.held
      (IsMarked (flags_of causes)) (IsIneligible gate state) out_marked

  pub safe_at : (place : ℕ) (item : Item) → IsAt graph.items place item → slice_get ranks place ≡ Some None
      → IsSafeItem gate state item
  safe_at place item here none =
      λ n leads. searched.distances.each place None none n (by_places n place item here leads)

  pub rank_at : (place : ℕ) (item : Item) (rank : ℕ) → IsAt graph.items place item → HasDistance ranks place rank
      → IsRefusalRank gate state item rank
  rank_at place item rank here at =
      let far = searched.distances.each place (Some rank) at in
      record {
        leads = by_items rank place item here far.leads;
        fewest = λ m less leads. far.fewest m less (by_places m place item here leads);
      }

  pub unsafe_at : (place : ℕ) (item : Item) (rank : ℕ) → IsAt graph.items place item → HasDistance ranks place rank
      → ¬ IsSafeItem gate state item
  unsafe_at place item rank here at safe = let far = rank_at place item rank here at in safe rank far.leads

  -- an item at some distance has that rank at its place
  has_rank_at : (place : ℕ) (item : Item) (rank : ℕ) (found : Option ℕ) → IsAt graph.items place item
      → slice_get ranks place ≡ Some found → IsRefusalRank gate state item rank → HasDistance ranks place rank
  has_rank_at place item rank None here at far = absurd (safe_at place item here at rank far.leads)
  has_rank_at place item rank (Some other) here at far =
      let same : other ≡ rank = IsDistance-once {E = IsDependency gate state} {P = IsIneligible gate state} other rank item (rank_at place item other here at) far in
      at ∙ ap (λ r. Some (Some r)) same

  ranked_here : (place : ℕ) (item : Item) (rank : ℕ) → IsAt graph.items place item → IsRefusalRank gate state item rank
      → HasDistance ranks place rank
  ranked_here place item rank here far =
      let within : place < length ranks = omega (arith, slice_get_within graph.items place item here, searched.nodes, searched.distances.nodes) in
      has_rank_at place item rank (get_or ranks place None) here (slice_get-get_or ranks place None within) far

  -- ---- the refusals
  pub refused_by_cause : (place : ℕ) (item : Item) (rank : ℕ) (refusal : Refusal) → IsAt graph.items place item
      → HasDistance ranks place rank → slice_get causes place ≡ Some (Some refusal)
      → IsRefused gate state item refusal rank
  refused_by_cause place item rank refusal here at cause =
      let marked : IsMarked (flags_of causes) place = flag_at causes place (Some refusal) cause in
      let its = cause_here place item here in
      let same : its.0 ≡ Some refusal = one_cause its.0 (Some refusal) (sym its.1 ∙ cause) in
      let at_zero = (AreDistances-zero graph.ends (flags_of causes) ranks searched.distances (length-map causes is_some ∙ searched.causes_of_all ∙ sym searched.nodes) place).1 marked in
      let none : 0 ≡ rank = one_rank 0 rank (sym at_zero ∙ at) in
      subst (IsRefused gate state item refusal) none (subst (IsCauseOf gate state item) same its.2) where
        one_cause : (a b : Option Refusal) → Some a ≡ Some b → a ≡ b
        one_cause a b e = cc

        one_rank : (a b : ℕ) → Some (Some a) ≡ Some (Some b) → a ≡ b
        one_rank a b e = cc

  eligible_by : (item : Item) (cause : Option Refusal) → cause ≡ None → IsCauseOf gate state item cause
      → IsEligible gate state item
  eligible_by item None e cause = cause
  eligible_by item (Some refusal) e cause = cc

  pub eligible_at : (place : ℕ) (item : Item) → IsAt graph.items place item → slice_get causes place ≡ Some None
      → IsEligible gate state item
  eligible_at place item here none =
      let its = cause_here place item here in
      eligible_by item its.0 (no_cause its.0 (sym its.1 ∙ none)) its.2 where
        no_cause : (a : Option Refusal) → Some a ≡ Some None → a ≡ None
        no_cause a e = cc

  -- the first place of a rising row with the wanted rank is the least
  not_before : (k index : ℕ) → ¬ (k < index) → index ≤ k
  not_before k index h = omega (arith, h)

  least_place : (places : List ℕ) (wanted place other : ℕ) → IsStrictlyIncreasing places
      → IsNearest ranks places wanted place → Contains places other → HasDistance ranks other wanted → place ≤ other
  least_place places wanted place other rising nearest c at =
      let there = at_Contains places other c in
      let behind = not_before there.0 nearest.index (λ less. nearest.first there.0 other less there.1 at) in
      elim (earlier_or_same nearest.index there.0 behind) [
        | inl earlier ↦
            let less = AllPairs-from_increasing places rising nearest.index there.0 0 earlier (slice_get_within places there.0 other there.1) in
            omega (arith, less, get_or_from_slice_get places nearest.index place 0 nearest.here, get_or_from_slice_get places there.0 other 0 there.1)
        | inr same ↦ let e = one_item places there.0 place other (subst (λ k. slice_get places k ≡ Some place) same nearest.here) there.1 in omega (arith, e)
      ]

  pub refused_by_dependency : (place : ℕ) (item : Item) (rest end : ℕ) (next : Item) → IsAt graph.items place item
      → HasDistance ranks place (suc rest) → slice_get causes place ≡ Some None
      → IsNearest ranks (ends_of graph.ends place) rest end → IsAt graph.items end next
      → IsRefused gate state item (Dependency next.change) (suc rest)
  refused_by_dependency place item rest end next here at none nearest there =
      let beside = AllZip-at (AreEnds (IsDependency gate state) graph.items) graph.items graph.ends is.ends place item here in
      let rising : IsStrictlyIncreasing (ends_of graph.ends place) = subst IsStrictlyIncreasing (sym (ap row beside.1)) beside.2.increasing in
      let edge : HasEdge graph.ends place end = Contains-at (ends_of graph.ends place) nearest.index end nearest.here in
      let between = edge_between (IsDependency gate state) graph.items graph.ends is.ends place end edge in
      let from = one_item graph.items place between.0 item between.1 here in
      let to = one_item graph.items end between.2.other next between.2.there there in
      let dependency : IsDependency gate state item next = subst (λ x. IsDependency gate state x next) from (subst (IsDependency gate state between.0) to between.2.edge) in (
        eligible_at place item here none,
        record {
          shortest = rank_at place item (suc rest) here at;
          rest = rest;
          one_more = refl;
          begins = (next, refl, record { edge = dependency; rest = rank_at end next rest there nearest.rank });
          least = λ number begins.
              let its = at_Contains graph.items begins.0 (is.items.held item begins.0 (Contains-at graph.items place item here) begins.2.edge) in
              let its_edge = edge_at (IsDependency gate state) graph.items graph.ends is.ends place its.0 item begins.0 here its.1 begins.2.edge in
              let lower = least_place (ends_of graph.ends place) rest end its.0 rising nearest its_edge (ranked_here its.0 begins.0 rest its.1 begins.2.rest) in
              subst (λ n. next.change ≤ n) begins.1
              (changes_rise graph.items is.items.in_order end its.0 next begins.0 lower there its.1);
        },
      )

  -- the same, of what was found
  pub refused_by_nearest : (place : ℕ) (item : Item) (rank end number : ℕ) (places : List ℕ)
      → IsAt graph.items place item → HasDistance ranks place rank → slice_get causes place ≡ Some None
      → places ≡ ends_of graph.ends place → IsNearest ranks places (rank - 1) end → end < length graph.items
      → ((next : Item) → IsAt graph.items end next → number ≡ next.change)
      → IsRefused gate state item (Dependency number) rank
  refused_by_nearest place item rank end number places here at none row_is nearest within answers =
      let rest = rank_above graph causes ranks searched place rank at none in
      let one_less : rank - 1 ≡ rest.0 = omega (arith, rest.1) in
      let next = at_below graph.items end within in
      let found : IsNearest ranks (ends_of graph.ends place) rest.0 end = subst (λ l. IsNearest ranks l rest.0 end) row_is (subst (λ r. IsNearest ranks places r end) one_less nearest) in
      subst (λ r. IsRefused gate state item (Dependency number) r) (sym rest.1)
      (subst (λ n. IsRefused gate state item (Dependency n) (suc rest.0)) (sym (answers next.0 next.1))
      (refused_by_dependency place item rest.0 end next.0 here (subst (HasDistance ranks place) rest.1 at) none found next.1))

-- some place of the row has the rank below, so one is found
found_by : (ranks : List (Option ℕ)) (places : List ℕ) (wanted : ℕ) (found : Option ℕ)
    → MatchOption found ((place : ℕ) → Contains places place → ¬ HasDistance ranks place wanted)
    (IsNearest ranks places wanted)
    → (end : ℕ) × Contains places end × HasDistance ranks end wanted → IsSome found
found_by ranks places wanted None none some = absurd (none some.0 some.1 some.2)
found_by ranks places wanted (Some place) is some = refl

pub is_found : (graph : ItemGraph) (causes : List (Option Refusal)) (ranks : List (Option ℕ))
    → AreSearched graph causes ranks
    → (place rank : ℕ) (places : List ℕ) (found : Option ℕ) → HasDistance ranks place rank
    → slice_get causes place ≡ Some None → places ≡ ends_of graph.ends place
    → MatchOption found ((end : ℕ) → Contains places end → ¬ HasDistance ranks end (rank - 1))
    (IsNearest ranks places (rank - 1)) → IsSome found
is_found graph causes ranks searched place rank places found at none row_is matches =
    let rest = rank_above graph causes ranks searched place rank at none in
    let one_less : rest.0 ≡ rank - 1 = omega (arith, rest.1) in
    let next = rank_next graph causes ranks searched place rest.0 (subst (HasDistance ranks place) rest.1 at) in
    found_by ranks places (rank - 1) found matches
    (next.0, subst (λ l. Contains l next.0) (sym row_is) next.1, subst (HasDistance ranks next.0) one_less next.2)

pub nearest_of : (ranks : List (Option ℕ)) (places : List ℕ) (wanted : ℕ) (found : Option ℕ) (end : ℕ)
    → found ≡ Some end
    → MatchOption found ((place : ℕ) → Contains places place → ¬ HasDistance ranks place wanted)
    (IsNearest ranks places wanted) → IsNearest ranks places wanted end
nearest_of ranks places wanted None end e is = cc
nearest_of ranks places wanted (Some place) end e is = let same : place ≡ end = cc in subst
    (IsNearest ranks places wanted) same is

pub nearest_within : (ranks : List (Option ℕ)) (places : List ℕ) (wanted end count : ℕ)
    → IsNearest ranks places wanted end → All (λ place. place < count) places → end < count
nearest_within ranks places wanted end count nearest all =
    All-contains (λ place. place < count) places end all (Contains-at places nearest.index end nearest.here)
