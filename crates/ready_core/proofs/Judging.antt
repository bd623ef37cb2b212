-- The verdicts, item after item.
use Rattle.std.proofs.Common.{◌≡◌, ◌<◌, ◌≤◌, ◌+◌, ◌⊎◌, ◌↔◌, ℕ, List, [], ◌∷◌, ◌++◌, length, Contains, Option, Some}
use Rattle.std.proofs.Common.{None, sym, ap, ◌∙◌, subst, arith, inl, inr}
use Rattle.std.specs.declared.cmp.Ordering.{Ordering}
use Rattle.std.specs.declared.cmp.Ordering.TheVariants.{Less}
use Rattle.std.specs.List.Sorted.{IsStrictlySortedBy}
use Rattle.std.proofs.lemmas.List.{map_push}
use Rattle.std.proofs.lemmas.List.Elements.{Contains-push, Contains-push_cases, Contains-append_left}
use Rattle.std.proofs.lemmas.Option.{slice_get_within}
use Rattle.gate_rules.specs.Rules.{GateRules}
use Rattle.state_core.specs.declared.item.Item.{Item}
use Rattle.state_core.specs.State.{State}
use Rattle.state_core.specs.Items.{item_cmp}
use Rattle.graph_core.specs.Dependencies.{IsDependency}
use Rattle.graph_core.specs.ItemGraph.{ItemGraph, IsAt, IsGraphOf}
use Rattle.lattice_core.specs.MemberLaws.{Contains-none, sorted_push}
use Rattle.lattice_core.specs.PlaceLaws.{Contains-at, at_Contains, one_item, sorted_at, earlier_or_same}
use Rattle.lattice_core.specs.ZipLaws.{AllZip-at}
use Rattle.ready_core.specs.declared.verdicts.Refusal.{Refusal}
use Rattle.ready_core.specs.declared.verdicts.Left.{Left}
use Rattle.ready_core.specs.Closed.{IsClosed-safe, IsInClosedSet-AreSafe, AreSafe}
use Rattle.ready_core.specs.Refusals.{IsEligible, IsReady, IsRefused}
use Rattle.ready_core.specs.Verdicts.{Judged, items_out}
use Rattle.ready_core.specs.Causes.{AreCauses, IsCauseOf, AreJudged, StandsAmongFirst, IsSafeItem}
use Rattle.ready_core.proofs.Refusing.{refused_ineligible}

sorted_none : {X : Type 0} (cmp : X → X → Ordering) → IsStrictlySortedBy cmp []
unfolding IsStrictlySortedBy
sorted_none cmp = tt

not_zero : (place : ℕ) → place < 0 → ⊥
not_zero place less = omega (arith, less)

-- nothing is judged yet
pub judged_nothing : (gate : GateRules) (state : State) (items : List Item) → AreJudged gate state items 0 [] []
judged_nothing gate state items = record {
  ready = λ item. (λ c. absurd (Contains-none item c), λ is. absurd (not_zero is.0.place is.0.before));
  out = λ item. (λ c. absurd (Contains-none item c), λ is. absurd (not_zero is.0.place is.0.before));
  refused = λ left c. absurd (Contains-none left c);
  ready_in_order = sorted_none item_cmp;
  out_in_order = sorted_none item_cmp;
}

module _ (gate : GateRules) (state : State) (items : List Item) (sorted : IsStrictlySortedBy item_cmp items) (count : ℕ)
    (ready : List Item) (out : List Left)
    (are : AreJudged gate state items count ready out) (next : Item) (here : IsAt items count next) where
  one_more : (item : Item) → StandsAmongFirst items count item → StandsAmongFirst items (count + 1) item
  one_more item stands = record { place = stands.place; before = omega (arith, stands.before); here = stands.here }

  itself : StandsAmongFirst items (count + 1) next
  itself = record { place = count; before = omega arith; here = here }

  at_last : (place : ℕ) → place < count + 1 → place ≤ count
  at_last place h = omega (arith, h)

  before_or_last : (item : Item) → StandsAmongFirst items (count + 1) item → StandsAmongFirst items count item ⊎ (next ≡ item)
  before_or_last item stands = elim (earlier_or_same stands.place count (at_last stands.place stands.before)) [
    | inl earlier ↦ inl (record { place = stands.place; before = earlier; here = stands.here })
    | inr same ↦ inr (one_item items count next item here (subst (λ p. IsAt items p item) same stands.here))
  ]

  before_next : (item : Item) → StandsAmongFirst items count item → item_cmp item next ≡ Less
  before_next item stands = sorted_at item_cmp items sorted stands.place count item next stands.before stands.here here

  pub judged_ready : IsSafeItem gate state next → AreJudged gate state items (count + 1) (ready ++ next ∷ []) out
  judged_ready safe = record {
    ready = λ item. (
      λ c. elim (Contains-push_cases ready next item c) [
        | inl before ↦ let found = (are.ready item).0 before in (one_more item found.0, found.1)
        | inr same ↦ (subst (StandsAmongFirst items (count + 1)) same itself, subst (IsSafeItem gate state) same safe)
      ],
      λ is. elim (before_or_last item is.0) [
        | inl before ↦ Contains-append_left ready (next ∷ []) item ((are.ready item).1 (before, is.1))
        | inr same ↦ subst (Contains (ready ++ next ∷ [])) same (Contains-push ready next)
      ],
    );
    out = λ item. (
      λ c. let found = (are.out item).0 c in (one_more item found.0, found.1),
      λ is. elim (before_or_last item is.0) [
        | inl before ↦ (are.out item).1 (before, is.1)
        | inr same ↦ absurd (is.1 (subst (IsSafeItem gate state) same safe))
      ],
    );
    refused = are.refused;
    ready_in_order =
        sorted_push item_cmp ready next are.ready_in_order (λ item c. before_next item ((are.ready item).0 c).0);
    out_in_order = are.out_in_order;
  }

  pub judged_out : (left : Left) → left.item ≡ next → ¬ IsSafeItem gate state next
      → IsRefused gate state next left.refusal left.rank
      → AreJudged gate state items (count + 1) ready (out ++ left ∷ [])
  judged_out left is_next unsafe refused =
      let shown : items_out (out ++ left ∷ []) ≡ items_out out ++ next ∷ [] = map_push (λ (l : Left). l.item) out left ∙ ap (λ i. items_out out ++ i ∷ []) is_next in
      record {
        ready = λ item. (
          λ c. let found = (are.ready item).0 c in (one_more item found.0, found.1),
          λ is. elim (before_or_last item is.0) [
            | inl before ↦ (are.ready item).1 (before, is.1)
            | inr same ↦ absurd (unsafe (subst (IsSafeItem gate state) (sym same) is.1))
          ],
        );
        out = λ item. (
          λ c. elim (Contains-push_cases (items_out out) next item (subst (λ l. Contains l item) shown c)) [
            | inl before ↦ let found = (are.out item).0 before in (one_more item found.0, found.1)
            | inr same ↦ (subst (StandsAmongFirst items (count + 1)) same itself, λ safe. unsafe (subst (IsSafeItem gate state) (sym same) safe))
          ],
          λ is. subst (λ l. Contains l item) (sym shown) (elim (before_or_last item is.0) [
            | inl before ↦ Contains-append_left (items_out out) (next ∷ []) item ((are.out item).1 (before, is.1))
            | inr same ↦ subst (Contains (items_out out ++ next ∷ [])) same (Contains-push (items_out out) next)
          ]),
        );
        refused = λ other c. elim (Contains-push_cases out left other c) [
          | inl before ↦ are.refused other before
          | inr same ↦ subst (λ (l : Left). IsRefused gate state l.item l.refusal l.rank) same
              (subst (λ i. IsRefused gate state i left.refusal left.rank) (sym is_next) refused)
        ];
        ready_in_order = are.ready_in_order;
        out_in_order = subst (IsStrictlySortedBy item_cmp) (sym shown)
            (sorted_push item_cmp (items_out out) next are.out_in_order (λ item c. before_next item ((are.out item).0 c).0));
      }

-- ---- all items judged

-- the verdicts on some items but for the order of the ready ones
pub record AreSplit (gate : GateRules) (state : State) (items : List Item) (verdicts : Judged) : Type 0 where
  pub ready : (item : Item) → Contains verdicts.ready item ↔ (Contains items item × IsReady gate state item)
  pub out : (item : Item) → Contains (items_out verdicts.out) item ↔ (Contains items item × ¬ IsReady gate state item)
  pub refused : (left : Left) → Contains verdicts.out left → IsRefused gate state left.item left.refusal left.rank
  pub out_in_order : IsStrictlySortedBy item_cmp (items_out verdicts.out)

module _ (gate : GateRules) (state : State) (graph : ItemGraph) (verdicts : Judged) (is : IsGraphOf gate state graph)
    (are : AreJudged gate state graph.items (length graph.items) verdicts.ready verdicts.out) where
  stands : (item : Item) → Contains graph.items item → StandsAmongFirst graph.items (length graph.items) item
  stands item c = let at = at_Contains graph.items item c in record {
    place = at.0;
    before = slice_get_within graph.items at.0 item at.1;
    here = at.1;
  }

  listed : (item : Item) → StandsAmongFirst graph.items (length graph.items) item → Contains graph.items item
  listed item at = Contains-at graph.items at.place item at.here

  safe_items : AreSafe (IsDependency gate state) (IsEligible gate state) graph.items verdicts.ready
  safe_items = record {
    within = λ item c. listed item ((are.ready item).0 c).0;
    safe = λ item c. ((are.ready item).0 c).1;
    complete = λ item c safe. (are.ready item).1 (stands item c, safe);
  }

  pub ready_is_safe : (item : Item) → IsReady gate state item → IsSafeItem gate state item
  ready_is_safe item ready = λ n. IsClosed-safe {E = IsDependency gate state}
      {IsEligible = IsEligible gate state} ready.closed n item ready.has

  pub all_judged : ((item : Item) → Contains graph.items item → IsEligible gate state item ⊎ ¬ IsEligible gate state item) → AreSplit gate state graph.items verdicts
  all_judged decided =
      let union = IsInClosedSet-AreSafe {E = IsDependency gate state} {IsEligible = IsEligible gate state} is.items.held decided safe_items in
      record {
        ready = λ item. (
          λ c. let there = listed item ((are.ready item).0 c).0 in (there, (union item there).0 c),
          λ ready. (union item ready.0).1 ready.1,
        );
        out = λ item. (
          λ c. let found = (are.out item).0 c in (listed item found.0, λ ready. found.1 (ready_is_safe item ready)),
          λ left. (are.out item).1 (stands item left.0, λ safe. left.1 ((union item left.0).0 ((are.ready item).1 (stands item left.0, safe)))),
        );
        refused = are.refused;
        out_in_order = are.out_in_order;
      }

-- whether an item is eligible is known where the causes are
decided_by : (gate : GateRules) (state : State) (item : Item) (cause : Option Refusal) → IsCauseOf gate state item cause
    → IsEligible gate state item ⊎ ¬ IsEligible gate state item
decided_by gate state item None is = inl is
decided_by gate state item (Some refusal) is = inr (refused_ineligible gate state item refusal is)

pub decided_all : (gate : GateRules) (state : State) (items : List Item) (causes : List (Option Refusal))
    → AreCauses gate state items causes
    → (item : Item) → Contains items item → IsEligible gate state item ⊎ ¬ IsEligible gate state item
decided_all gate state items causes of item c =
    let at = at_Contains items item c in
    let cause = AllZip-at (IsCauseOf gate state) items causes of at.0 item at.1 in
    decided_by gate state item cause.0 cause.2
