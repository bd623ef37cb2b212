-- What an evaluator keeps is brought up from what begins a journal to all of it.
use Rattle.std.proofs.Common.{◌≡◌, ◌⊎◌, ◌||◌, ℕ, Bool, true, false, cond, List, [], ◌∷◌, ◌++◌, Contains, Err, None, Ok}
use Rattle.std.proofs.Common.{Option, Result, Some, filter, length, map, take, drop, refl, sym, ap, ◌∙◌, subst, inl}
use Rattle.std.proofs.Common.{inr}
use Rattle.std.specs.Prelude.{IfOk, IsSome, option_and_then, option_map}
use Rattle.std.specs.Global.{Vec}
use Rattle.std.specs.Map.{lookup}
use Rattle.std.specs.FinMap as finite
use Rattle.std.specs.BTreeSet.{BTreeSet, contains}
use Rattle.std.specs.List.Sorted.{IsStrictlySortedBy}
use Rattle.std.proofs.lemmas.List.{take-append-drop}
use Rattle.std.specs.Ordering.{is_eq, nat_cmp, ord_max}
use Rattle.lattice_core.specs.Join.{option_joined}
use Rattle.lattice_core.specs.JoinMap.{get-map_joined}
use Rattle.lattice_core.specs.Keep.{numbers_exact}
use Rattle.lattice_core.specs.MemberLaws.{Contains-to_map}
use Rattle.lattice_core.specs.PlaceLaws.{at_Contains}
use Rattle.lattice_core.specs.ZipLaws.{AllZip-at}
use Rattle.review_ops.specs.Operation.{Operation}
use Rattle.review_ops.specs.Timestamp.{Timestamp}
use Rattle.change_core.specs.Change.{Change, change_joined, patch_order}
use Rattle.change_core.specs.Slots.{Patch}
use Rattle.change_core.specs.Views.{IsKnownSet}
use Rattle.walk_core.specs.Ranks.{Rank, rank_cmp}
use Rattle.walk_core.specs.RankLaws.{rank_same}
use Rattle.gate_rules.specs.Rules.{GateRules}
use Rattle.state_core.specs.declared.item.Item.{Item}
use Rattle.state_core.specs.State.{State, state_of}
use Rattle.state_core.specs.Items.{IsItem, item_cmp}
use Rattle.graph_core.specs.Dependencies.{IsDependency, IsTarget, Names}
use Rattle.graph_core.specs.ItemGraph.{AreItems, AreTargets, IsGraphOf, ItemGraph, StandsAt}
use Rattle.ready_core.specs.declared.ranked.ItemRank.{ItemRank}
use Rattle.ready_core.specs.ItemRanks.{to_rank}
use Rattle.ready_core.specs.RankedVerdicts.{AreRankedVerdictsOn, AreReadyRanks, RankedVerdicts, judged}
use Rattle.ready_core.specs.Refusals.{IsReady}
use Rattle.ready_core.specs.declared.verdicts.Left.{Left}
use Rattle.ready_core.specs.Verdicts.{AreVerdicts, Judged, items_out}
use Rattle.ready_core.specs.WholeLaws.{on_all_items}
use Rattle.watch_core.specs.BroughtUp.{AreRankedVerdicts, HoldsItems, IsBroughtUp}
use Rattle.watch_core.specs.Namers.{HaveNamers, HaveRows, HoldNamers, IsNamer, KeepsNamers, Namers, Rows, has_item}
use Rattle.watch_core.specs.Namers.{is_again, is_reached, namer_row, namer_rows, items_at}
use Rattle.watch_core.specs.Placed.{AreLists, FindsAgain, IsIn, IsOneEach, StandOnce, left_item, node_of}
use Rattle.watch_core.specs.Touched.{HoldsWhatWaits, touches}
use Rattle.watch_core.specs.Untouched.{IsUntouched, others}
use Rattle.watch_core.specs.Watching.{AreKeptVerdicts}
use Rattle.watch_core.specs.Again.{HasWaiting, IsAgain}
use Rattle.watch_core.specs.declared.again.Again.{Again}
use Rattle.watch_core.specs.Asked.{AreTouchedItems}
use Rattle.watch_core.specs.KeptOwns.{is_of_touched}
use Rattle.watch_core.proofs.Bringing.{brought_up, either}
use Rattle.watch_core.proofs.KeptLemmas.{touched_count}
use Rattle.state_core.specs.ItemLaws.{items_order}
use Rattle.watch_core.proofs.Exchange.{has_or_not, one_each_sorted}
use Rattle.watch_core.proofs.Local.{target_along, turned}
use Rattle.watch_core.proofs.Spread.{all_held, holds_what_waits}
use Rattle.watch_core.proofs.Stays.{after_is, rest_untouched}

-- ---- what waits for a change, as lists
row_kept : (number : ℕ) (entries : List (ℕ × Vec Item)) → namer_row
    (lookup (λ key. is_eq (nat_cmp number key)) (map (λ (entry : ℕ × Vec Item). (entry.0, entry.1.items)) entries))
    ≡ items_at (lookup (λ key. is_eq (nat_cmp number key)) entries)
row_kept number [] = refl
row_kept number (entry ∷ entries) = by_key (is_eq (nat_cmp number entry.0)) (row_kept number entries) where
  by_key : (is : Bool) → namer_row (lookup (λ key. is_eq (nat_cmp number key)) (map (λ (entry : ℕ × Vec Item). (entry.0, entry.1.items)) entries)) ≡ items_at (lookup (λ key. is_eq (nat_cmp number key)) entries)
      → namer_row (cond is (Some entry.1.items) (lookup (λ key. is_eq (nat_cmp number key)) (map (λ (entry : ℕ × Vec Item). (entry.0, entry.1.items)) entries)))
      ≡ items_at (cond is (Some entry.1) (lookup (λ key. is_eq (nat_cmp number key)) entries))
  by_key true rest = refl
  by_key false rest = rest

pub rows_have : (gate : GateRules) (state : State) (namers : Namers) → HaveNamers gate state namers
    → HaveRows gate state (namer_rows namers)
rows_have gate state namers have =
    λ item number target. subst (λ l. Contains l item) (sym (row_kept number namers.entries)) (have item number target)

namers_have : (gate : GateRules) (state : State) (namers : Namers) → HaveRows gate state (namer_rows namers)
    → HaveNamers gate state namers
namers_have gate state namers have =
    λ item number target. subst (λ l. Contains l item) (row_kept number namers.entries) (have item number target)

-- ---- what is judged again
pub again_reached : (touched : BTreeSet ℕ) (later : List Operation) (all : Bool) (items : BTreeSet (ℕ × ℕ))
    → ((number : ℕ) → contains nat_cmp touched number ≡ touches later number)
    → is_again touched all items ≡ is_reached later all items
again_reached touched later all items same = λ i item. same item.change i || (all || has_item items item)

-- ---- an item that is known stays known
known_by : (f : Timestamp × Patch → Timestamp × Patch → Timestamp × Patch) (old found : Option (Timestamp × Patch))
    → IsSome old → IsSome (option_joined f old found)
known_by f (Some old) None is = is
known_by f (Some old) (Some new) is = is
known_by f None found is = cc

known_on : (old : Change) (set : ℕ) (found : Option Change) → IsKnownSet old set
    → (new : Change) × (option_joined change_joined (Some old) found ≡ Some new) × IsKnownSet new set
known_on old set None known = (old, refl, known)
known_on old set (Some change) known =
    (change_joined old change, refl, subst IsSome (sym (get-map_joined numbers_exact (ord_max patch_order) old.sets change.sets set)) (known_by (ord_max patch_order) (finite.get old.sets set) (finite.get change.sets set) known))

pub stays_item : (journal later : List Operation) (item : Item) → IsItem (state_of journal) item
    → IsItem (state_of (journal ++ later)) item
stays_item journal later item is =
    let new = known_on is.0 item.set (finite.get (state_of later) item.change) is.2 in
    (new.0, after_is journal later item.change ∙ ap (λ found. option_joined change_joined found (finite.get (state_of later) item.change)) is.1 ∙ new.1, new.2)

-- ---- an item that names a change is known
known_of_message : (found : Option (Timestamp × Patch)) (message : List ℕ)
    → option_map (λ (register : Timestamp × Patch). register.1.message) found ≡ Some message → IsSome found
known_of_message None message is = cc
known_of_message (Some register) message is = refl

known_of_parent : (found : Option (Timestamp × Patch)) (parent : ℕ)
    → option_and_then (λ (register : Timestamp × Patch). register.1.parent) found ≡ Some parent → IsSome found
known_of_parent None parent is = cc
known_of_parent (Some register) parent is = refl

names_is_item : (gate : GateRules) (state : State) (item : Item) (number : ℕ) → Names gate state item number
    → IsItem state item
names_is_item gate state item number names = elim names [
  | inl needed ↦ (needed.change, needed.stands, known_of_message (finite.get needed.change.sets item.set) needed.message needed.said)
  | inr parent ↦ (parent.change, parent.stands, known_of_parent (finite.get parent.change.sets item.set) number parent.parent)
]

-- what an item of a graph waits for is kept
module _ (gate : GateRules) (state : State) (graph : ItemGraph) (is : IsGraphOf gate state graph) (new : Namers)
    (names : (item : Item) (row : List ℕ) (number : ℕ) → StandsAt graph.items graph.targets item row → Contains row number → IsNamer new number item) where
  named_here : (item : Item) (number : ℕ) → Contains graph.items item → IsTarget gate state item number
      → IsNamer new number item
  named_here item number here target =
      let at = at_Contains graph.items item here in
      let row = AllZip-at (AreTargets gate state) graph.items graph.targets is.targets at.0 item at.1 in
      names item row.0 number (record { place = at.0; here = at.1; there = row.1 }) ((row.2.each number).1 target)

  pub names_all : AreItems state graph.items → HaveNamers gate state new
  names_all whole = λ item number target. named_here item number
      ((whole.each item).1 (names_is_item gate state item number target.0)) target

  pub names_on : (before : State) (reached : Item → Bool) (old : Namers)
      → IsUntouched gate before state (others reached) → HoldsItems state reached graph.items → KeepsNamers old new
      → HaveNamers gate before old → HaveNamers gate state new
  names_on before reached old untouched holds keeps have = λ item number target. elim (either (reached item)) [
    | inl again ↦ named_here item number (holds item (names_is_item gate state item number target.0) again) target
    | inr other ↦
        keeps number item (have item number (target_along gate state before (others reached) (turned gate before state (others reached) untouched) item number other target))
  ]

-- ---- what is kept, and what begins from it
nodes_of : (ranks : List ItemRank) → map (λ (rank : Rank Item). rank.node) (map to_rank ranks) ≡ map node_of ranks
nodes_of [] = refl
nodes_of (rank ∷ ranks) = ap (λ items. rank.node ∷ items) (nodes_of ranks)

same_ranks : (a b : ItemRank) → to_rank a ≡ to_rank b → a ≡ b
same_ranks a b e = ap (λ (rank : Rank Item). record { count = rank.count; first = rank.first; node = rank.node }) e

-- the ranks of ready items are one for each item
one_rank : (gate : GateRules) (state : State) (ranks : List (Rank Item)) → AreReadyRanks gate state ranks
    → IsOneEach (λ (rank : Rank Item). rank.node) ranks
one_rank gate state ranks are = record { one = λ a b has also same. rank_same items_order (IsDependency gate state) (IsReady gate state) a b (are a has) (are b also) same }

module _ (gate : GateRules) (state : State) (kept : Judged) (verdicts : AreVerdicts gate state kept)
    (namers : Rows) where
  -- as the lists into which what is found is put
  pub lists_kept : (ranks : List ItemRank) → AreKeptVerdicts gate state (map to_rank ranks) namers kept
      → AreLists kept.ready ranks kept.out
  lists_kept ranks keeps = record {
    ranked = record {
      nodes = keeps.ready ∙ nodes_of ranks;
      rising = keeps.rising;
      one_each = record {
        one = λ a b has also same. same_ranks a b ((one_rank gate state (map to_rank ranks) keeps.ranks).one (to_rank a) (to_rank b) (Contains-to_map to_rank ranks a has) (Contains-to_map to_rank ranks b also) same);
      };
    };
    out_in_order = verdicts.out_in_order;
    apart = record {
      none = λ rank left has also same.
          let ready = (verdicts.ready rank.node).0 (subst (λ l. Contains l rank.node) (sym (keeps.ready ∙ nodes_of ranks)) (Contains-to_map node_of ranks rank has)) in
          let out = (verdicts.out left.item).0 (Contains-to_map left_item kept.out left also) in
          out.1 (subst (IsReady gate state) same ready);
    };
  }

  pub were : (ranks : List (Rank Item)) → AreKeptVerdicts gate state ranks namers kept
      → AreRankedVerdicts gate state (record { ranks = ranks; out = kept.out })
  were ranks keeps =
      let same : kept ≡ record { ready = map (λ (rank : Rank Item). rank.node) ranks; out = kept.out } =
      λ i. record { ready = keeps.ready i; out = kept.out } in
      record { verdicts = subst (AreVerdicts gate state) same verdicts; ranks = keeps.ranks }

  -- what is in kept verdicts is an item
  pub kept_items : (ranks : List (Rank Item)) → AreKeptVerdicts gate state ranks namers kept → (item : Item)
      → IsIn (record { ranks = ranks; out = kept.out }) item → IsItem state item
  kept_items ranks keeps item is = elim is [
    | inl here ↦
        let ready = (verdicts.ready item).0 (subst (λ l. Contains l item) (sym keeps.ready) here) in
        (ready.closed.members item ready.has).there
    | inr there ↦ ((verdicts.out item).0 there).0
  ]

-- ---- what was found
module _ (gate : GateRules) (state : State) (items : List Item) (found : RankedVerdicts)
    (are : AreRankedVerdictsOn gate state items found) where
  pub found_once : StandOnce found
  found_once = record {
    ranks = one_rank gate state found.ranks are.ranks;
    out = one_each_sorted left_item found.out are.verdicts.out_in_order;
    apart = record {
      none = λ rank left has also same.
          let ready = (are.verdicts.ready rank.node).0 (Contains-to_map (λ (r : Rank Item). r.node) found.ranks rank has) in
          let out = (are.verdicts.out left.item).0 (Contains-to_map left_item found.out left also) in
          out.1 (subst (IsReady gate state) same ready.1);
    };
  }

  -- each of the items is in what was found
  pub found_in : (item : Item) → Contains items item → IsIn found item
  found_in item here = elim (has_or_not (map (λ (rank : Rank Item). rank.node) found.ranks) item) [
    | inl ready ↦ inl ready
    | inr unready ↦ elim (has_or_not (items_out found.out) item) [
      | inl out ↦ inr out
      | inr in_none ↦ absurd
          (in_none ((are.verdicts.out item).1 (here, λ ready. unready ((are.verdicts.ready item).1 (here, ready)))))
    ]
  ]

-- ---- an evaluator that has seen what begins a journal, and what it finds at all of it
module _ (gate : GateRules) (journal : List Operation) (seen : ℕ) (kept : Judged) (ranks : List (Rank Item))
    (namers : Namers)
    (verdicts : AreVerdicts gate (state_of (take seen journal)) kept)
    (keeps : AreKeptVerdicts gate (state_of (take seen journal)) ranks (namer_rows namers) kept) (all : Bool)
    (more : BTreeSet (ℕ × ℕ))
    (holds : HoldNamers (state_of journal) namers (drop seen journal) (is_reached (drop seen journal) all more)) where
  abbrev reached : Item → Bool
  reached = is_reached (drop seen journal) all more

  abbrev old : RankedVerdicts
  old = record { ranks = ranks; out = kept.out }

  waits : HoldsWhatWaits gate (take seen journal) (drop seen journal) reached
  waits = holds_what_waits gate (take seen journal) (drop seen journal) namers all more
      (namers_have gate (state_of (take seen journal)) namers keeps.namers)
      (subst (λ l. HoldNamers (state_of l) namers (drop seen journal) reached) (sym (take-append-drop seen journal)) holds)

  untouched : IsUntouched gate (state_of (take seen journal)) (state_of journal) (others reached)
  untouched = subst (λ l. IsUntouched gate (state_of (take seen journal)) (state_of l) (others reached))
      (take-append-drop seen journal)
      (rest_untouched gate (take seen journal) (drop seen journal) reached waits)

  stays : (item : Item) → IsItem (state_of (take seen journal)) item → IsItem (state_of journal) item
  stays item is = subst (λ l. IsItem (state_of l) item) (take-append-drop seen journal)
      (stays_item (take seen journal) (drop seen journal) item is)

  module _ (graph : ItemGraph) (is : IsGraphOf gate (state_of journal) graph)
      (has : HoldsItems (state_of journal) reached graph.items) where
    pub namers_follow : (new : Namers) → ((item : Item) (row : List ℕ) (number : ℕ) → StandsAt graph.items graph.targets item row → Contains row number → IsNamer new number item) → KeepsNamers namers new
        → HaveNamers gate (state_of journal) new
    namers_follow new names kept_too = names_on gate (state_of journal) graph is new names
        (state_of (take seen journal)) reached namers untouched has kept_too
        (namers_have gate (state_of (take seen journal)) namers keeps.namers)

    module _ (found : RankedVerdicts) (are : AreRankedVerdictsOn gate (state_of journal) graph.items found) where
      pub finds : FindsAgain reached old found
      finds = record {
        finds = λ item again stands. found_in gate (state_of journal) graph.items found are item
            (has item (stays item (kept_items gate (state_of (take seen journal)) kept verdicts (namer_rows namers) ranks keeps item stands)) again);
      }

      pub ranked_follow : (new : RankedVerdicts) → IsBroughtUp reached old found new
          → AreRankedVerdicts gate (state_of journal) new
      ranked_follow new up = brought_up gate (state_of (take seen journal))
          (state_of journal) reached untouched old found new
          (were gate (state_of (take seen journal)) kept verdicts (namer_rows namers) ranks keeps)
          graph.items are has up

-- ---- what holds what waits does so where more is judged again
pub held_wide : (state : State) (namers : Namers) (later : List Operation) (all wide : Bool)
    (items wide_items : BTreeSet (ℕ × ℕ)) → wide_items ≡ items → (wide ≡ all) ⊎ (wide ≡ true)
    → HoldNamers state namers later (is_reached later all items)
    → HoldNamers state namers later (is_reached later wide wide_items)
held_wide state namers later all wide items wide_items same (inl as_it_was) holds =
    subst (λ a. HoldNamers state namers later (is_reached later a wide_items)) (sym as_it_was)
    (subst (λ l. HoldNamers state namers later (is_reached later all l)) (sym same) holds)
held_wide state namers later all wide items wide_items same (inr whole) holds = subst
    (λ a. HoldNamers state namers later (is_reached later a wide_items)) (sym whole)
    (all_held state namers later wide_items)

-- ---- a graph that holds what is reached has as many touched items as the state
pub count_again : (gate : GateRules) (state : State) (graph : ItemGraph) (later : List Operation) (all : Bool)
    (more : BTreeSet (ℕ × ℕ)) → IsGraphOf gate state graph
    → HoldsItems state (is_reached later all more) graph.items → (count : ℕ) → AreTouchedItems state later count
    → length (filter (is_of_touched later) graph.items) ≡ count
count_again gate state graph later all more is has count are =
    touched_count state graph.items later count is.items.in_order is.items.each
    (λ item there touched. has item there (ap (λ test. test || (all || has_item more item)) touched)) are

-- ---- verdicts with what is kept beside them, from their lists
pub kept_on : (gate : GateRules) (state : State) (verdicts : Judged) (ranks : List ItemRank) (namers : Namers)
    → AreRankedVerdicts gate state (record { ranks = map to_rank ranks; out = verdicts.out })
    → verdicts.ready ≡ map node_of ranks → IsStrictlySortedBy (rank_cmp item_cmp) (map to_rank ranks)
    → HaveNamers gate state namers
    → AreVerdicts gate state verdicts × AreKeptVerdicts gate state (map to_rank ranks) (namer_rows namers) verdicts
kept_on gate state verdicts ranks namers are nodes rising have =
    let ready : verdicts.ready ≡ map (λ (rank : Rank Item). rank.node) (map to_rank ranks) = nodes ∙ sym (nodes_of ranks) in
    let same : record { ready = map (λ (rank : Rank Item). rank.node) (map to_rank ranks); out = verdicts.out } ≡ verdicts = λ i. record { ready = sym ready i; out = verdicts.out } in
    (subst (AreVerdicts gate state) same are.verdicts, record { ready = ready; ranks = are.ranks; rising = rising; namers = rows_have gate state namers have })

-- what was found of all items of a state
pub ranked_all : (gate : GateRules) (state : State) (items : List Item) (found : RankedVerdicts) → AreItems state items
    → AreRankedVerdictsOn gate state items found → (ranks : List ItemRank) (out : List Left)
    → map to_rank ranks ≡ found.ranks → found.out ≡ out
    → AreRankedVerdicts gate state (record { ranks = map to_rank ranks; out = out })
ranked_all gate state items found whole are ranks out same_ranks same_out =
    let same : found ≡ record { ranks = map to_rank ranks; out = out } = λ i. record {
      ranks = sym same_ranks i;
      out = same_out i;
    } in
    subst (AreRankedVerdicts gate state) same
    (record { verdicts = on_all_items gate state items (judged found) whole are.verdicts; ranks = are.ranks })

-- ---- what is found of the items that are judged again, in the place of what was kept of them
module _ (gate : GateRules) (journal : List Operation) (seen : ℕ) (kept : Judged) (ranks : List ItemRank)
    (namers : Namers) (verdicts : AreVerdicts gate (state_of (take seen journal)) kept)
    (keeps : AreKeptVerdicts gate (state_of (take seen journal)) (map to_rank ranks) (namer_rows namers) kept) (again : Again)
    (is : IsAgain gate journal seen again) (waiting : HasWaiting journal seen namers again) (found : RankedVerdicts)
    (are : AreRankedVerdictsOn gate (state_of journal) again.graph.items found) where
  abbrev is_judged : Item → Bool
  is_judged = is_again again.touched again.reach.all again.reach.items

  abbrev was : RankedVerdicts
  was = record { ranks = map to_rank ranks; out = kept.out }

  same_items : is_judged ≡ is_reached (drop seen journal) again.reach.all again.reach.items
  same_items = again_reached again.touched (drop seen journal) again.reach.all again.reach.items is.touched

  pub finds_again : FindsAgain is_judged was found
  finds_again = subst (λ f. FindsAgain f was found) (sym same_items)
      (finds gate journal seen kept (map to_rank ranks) namers verdicts keeps again.reach.all again.reach.items
      waiting again.graph is.graph is.holds found are)

  module _ (new : Namers) (keeps_namers : KeepsNamers namers new)
      (names : (item : Item) (row : List ℕ) (number : ℕ) → StandsAt again.graph.items again.graph.targets item row
      → Contains row number → IsNamer new number item) (new_ranks : List ItemRank) where
    followed : (listed : Judged) → AreLists listed.ready new_ranks listed.out
        → IsBroughtUp is_judged was found (record { ranks = map to_rank new_ranks; out = listed.out })
        → AreVerdicts gate (state_of journal) listed
        × AreKeptVerdicts gate (state_of journal) (map to_rank new_ranks) (namer_rows new) listed
    followed listed lists up =
        let brought : RankedVerdicts = record { ranks = map to_rank new_ranks; out = listed.out } in
        kept_on gate (state_of journal) listed new_ranks new
        (ranked_follow gate journal seen kept (map to_rank ranks) namers verdicts keeps again.reach.all
        again.reach.items waiting again.graph is.graph is.holds found are brought
        (subst (λ f. IsBroughtUp f was found brought) same_items up)) lists.ranked.nodes lists.ranked.rising
        (namers_follow gate journal seen kept (map to_rank ranks) namers verdicts keeps again.reach.all
        again.reach.items waiting again.graph is.graph is.holds new names keeps_namers)

    -- where all is in its place, the verdicts are those of the state, and so is what is kept beside them
    pub all_follow : {E : Type 0} (put : Result Judged E)
        → IfOk put (λ listed. AreLists listed.ready new_ranks listed.out)
        → IfOk put (λ listed. IsBroughtUp is_judged was found
        (record { ranks = map to_rank new_ranks; out = listed.out }))
        → IfOk put (AreVerdicts gate (state_of journal))
        × IfOk put (AreKeptVerdicts gate (state_of journal) (map to_rank new_ranks) (namer_rows new))
    all_follow (Ok listed) lists up = followed listed lists up
    all_follow (Err fault) lists up = (lists, lists)
