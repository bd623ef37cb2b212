-- One state has one list of verdicts under one gate.
use Rattle.std.proofs.Common.{◌≡◌, ◌≤◌, ◌⊎◌, ◌↔◌, ℕ, true, List, [], ◌∷◌, Contains, Some, suc, refl, sym, ap, ◌∙◌}
use Rattle.std.proofs.Common.{subst, arith, inl, inr}
use Rattle.std.specs.Prelude.{nat_lt}
use Rattle.std.proofs.lemmas.Bool.{lt-ltb, cases_lt}
use Rattle.lattice_core.specs.Keep.{IsExactOrder}
use Rattle.walk_core.specs.Walks.{IsDistance-once}
use Rattle.walk_core.specs.RankLaws.{one_rank_order}
use Rattle.walk_core.specs.SortedLists.{sorted_same}
use Rattle.gate_rules.specs.Rules.{GateRules}
use Rattle.state_core.specs.Items.{IsItem, item_cmp}
use Rattle.gate_rules.specs.Own.{IsOwn, IsFirstBroken, ItemStanding, standing_of, clause_before, side_before}
use Rattle.state_core.specs.declared.item.Item.{Item}
use Rattle.gate_rules.specs.declared.condition.Condition.{Condition}
use Rattle.gate_rules.specs.declared.condition.Clause.{Clause}
use Rattle.gate_rules.specs.declared.condition.Clause.TheVariants.{OpenState, CurrentSet, StatusIn, Approval}
use Rattle.gate_rules.specs.declared.condition.Side.{Side}
use Rattle.gate_rules.specs.declared.condition.Side.TheVariants.{Require, Reject}
use Rattle.state_core.specs.State.{State}
use Rattle.graph_core.specs.Dependencies.{IsDependency}
use Rattle.state_core.specs.GreatestKnown.{greatest_known}
use Rattle.lattice_core.specs.MemberLaws.{Contains-first, Contains-later, Contains-to_map}
use Rattle.lattice_core.specs.PlaceLaws.{earlier_or_same}
use Rattle.state_core.specs.ItemLaws.{items_exact, items_total}
use Rattle.ready_core.specs.declared.verdicts.Refusal.{Refusal}
use Rattle.ready_core.specs.declared.verdicts.Refusal.TheVariants.{Own, Cycle, Unknown, Dependency}
use Rattle.ready_core.specs.declared.verdicts.Left.{Left}
use Rattle.ready_core.specs.Refusals.{IsIneligible, IsReady, IsRefused, BeginsShortest}
use Rattle.ready_core.specs.Verdicts.{AreVerdicts, Judged, items_out}
use Rattle.ready_core.proofs.Refusing.{own_excludes, refused_rank}

pub items_exactly : IsExactOrder item_cmp
items_exactly = record { total = items_total; exact = items_exact }

-- lists whose items are the same, where an item has one entry
lefts_same : (xs ys : List Left) → items_out xs ≡ items_out ys
    → ((l m : Left) → Contains xs l → Contains ys m → l.item ≡ m.item → l ≡ m) → xs ≡ ys
lefts_same [] [] same one = refl
lefts_same [] (y ∷ ys) same one = cc
lefts_same (x ∷ xs) [] same one = cc
lefts_same (x ∷ xs) (y ∷ ys) same one =
    let item : x.item ≡ y.item = cc in
    let others : items_out xs ≡ items_out ys = cc in
    let first : x ≡ y = one x y (Contains-first x xs) (Contains-first y ys) item in
    let rest : xs ≡ ys = lefts_same xs ys others (λ l m c d. one l m (Contains-later x xs l c) (Contains-later y ys m d)) in
    λ i. first i ∷ rest i

-- ---- one condition is the first that is broken
numbers_total : (j k : ℕ) → (nat_lt j k ≡ true) ⊎ ((nat_lt k j ≡ true) ⊎ (j ≡ k))
numbers_total j k = elim (cases_lt j k) [
  | inl less ↦ inl (lt-ltb j k less)
  | inr not_less ↦ elim
      (earlier_or_same k j not_less) [ inl more ↦ inr (inl (lt-ltb k j more)) | inr same ↦ inr (inr (sym same)) ]
]

clauses_total : (c d : Clause) → (clause_before c d ≡ true) ⊎ ((clause_before d c ≡ true) ⊎ (c ≡ d))
clauses_total OpenState OpenState = inr (inr refl)
clauses_total OpenState CurrentSet = inl refl
clauses_total OpenState StatusIn = inl refl
clauses_total OpenState (Approval k) = inl refl
clauses_total CurrentSet OpenState = inr (inl refl)
clauses_total CurrentSet CurrentSet = inr (inr refl)
clauses_total CurrentSet StatusIn = inl refl
clauses_total CurrentSet (Approval k) = inl refl
clauses_total StatusIn OpenState = inr (inl refl)
clauses_total StatusIn CurrentSet = inr (inl refl)
clauses_total StatusIn StatusIn = inr (inr refl)
clauses_total StatusIn (Approval k) = inl refl
clauses_total (Approval j) OpenState = inr (inl refl)
clauses_total (Approval j) CurrentSet = inr (inl refl)
clauses_total (Approval j) StatusIn = inr (inl refl)
clauses_total (Approval j) (Approval k) = elim (numbers_total j k) [
  | inl less ↦ inl less
  | inr rest ↦ elim rest [ inl more ↦ inr (inl more) | inr same ↦ inr (inr (ap Approval same)) ]
]

conditions_total : (s t : Side) (c d : Clause) → (side_before s t (clause_before c d) ≡ true)
    ⊎ ((side_before t s (clause_before d c) ≡ true) ⊎ ((s ≡ t) × (c ≡ d)))
conditions_total Require Require c d = elim
    (clauses_total c d) [ inl a ↦ inl a | inr b ↦ elim b [ inl e ↦ inr (inl e) | inr f ↦ inr (inr (refl, f)) ] ]
conditions_total Require Reject c d = inl refl
conditions_total Reject Require c d = inr (inl refl)
conditions_total Reject Reject c d = elim
    (clauses_total c d) [ inl a ↦ inl a | inr b ↦ elim b [ inl e ↦ inr (inl e) | inr f ↦ inr (inr (refl, f)) ] ]

first_same : (gate : GateRules) (standing : ItemStanding) (a b : Condition) → IsFirstBroken gate standing a
    → IsFirstBroken gate standing b → a ≡ b
first_same gate standing a b p q = elim (conditions_total a.side b.side a.clause b.clause) [
  | inl earlier ↦ absurd (q.first a earlier p.here)
  | inr rest ↦ elim rest [
    | inl later ↦ absurd (p.first b later q.here)
    | inr same ↦ λ i. record { side = same.0 i; clause = same.1 i }
  ]
]

own_same : (gate : GateRules) (state : State) (item : Item) (a b : Condition) → IsItem state item
    → IsOwn gate state item (Some a) → IsOwn gate state item (Some b) → a ≡ b
own_same gate state item a b is p q =
    let current = greatest_known is.0 item.set is.2 in
    first_same gate (standing_of is.0 current.0 item.set) a b (p is.0 current.0 is.1 current.1)
    (q is.0 current.0 is.1 current.1)

-- ---- an item has one refusal
least_same : (m n : ℕ) → m ≤ n → n ≤ m → m ≡ n
least_same m n p q = omega (arith, p, q)

rest_same : (a b : ℕ) → suc a ≡ suc b → a ≡ b
rest_same a b e = omega (arith, e)

module _ (gate : GateRules) (state : State) (item : Item) (is : IsItem state item) where
  refusals_same : (r s : Refusal) (rank : ℕ) → IsRefused gate state item r rank → IsRefused gate state item s rank
      → r ≡ s
  refusals_same (Own a) (Own b) rank p q = ap Own (own_same gate state item a b is p.0 q.0)
  refusals_same (Own a) Cycle rank p q = absurd (own_excludes gate state item a is p.0 q.0)
  refusals_same (Own a) (Unknown n) rank p q = absurd (own_excludes gate state item a is p.0 q.0)
  refusals_same (Own a) (Dependency n) rank p q = absurd (own_excludes gate state item a is p.0 q.0.own)
  refusals_same Cycle (Own b) rank p q = absurd (own_excludes gate state item b is q.0 p.0)
  refusals_same Cycle Cycle rank p q = refl
  refusals_same Cycle (Unknown n) rank p q = absurd (q.1 p.1.0 p.1.1)
  refusals_same Cycle (Dependency n) rank p q = absurd (q.0.off p.1.0 p.1.1)
  refusals_same (Unknown m) (Own b) rank p q = absurd (own_excludes gate state item b is q.0 p.0)
  refusals_same (Unknown m) Cycle rank p q = absurd (p.1 q.1.0 q.1.1)
  refusals_same (Unknown m) (Unknown n) rank p q =
      ap Unknown (least_same m n (p.2.least n q.2.here) (q.2.least m p.2.here))
  refusals_same (Unknown m) (Dependency n) rank p q = absurd (q.0.known m p.2.here)
  refusals_same (Dependency m) (Own b) rank p q = absurd (own_excludes gate state item b is q.0 p.0.own)
  refusals_same (Dependency m) Cycle rank p q = absurd (p.0.off q.1.0 q.1.1)
  refusals_same (Dependency m) (Unknown n) rank p q = absurd (p.0.known n q.2.here)
  refusals_same (Dependency m) (Dependency n) rank p q =
      let rest : p.1.rest ≡ q.1.rest = rest_same p.1.rest q.1.rest (sym p.1.one_more ∙ q.1.one_more) in
      ap Dependency (least_same m n
      (p.1.least n (subst (λ r. BeginsShortest gate state item r n) (sym rest) q.1.begins))
      (q.1.least m (subst (λ r. BeginsShortest gate state item r m) rest p.1.begins)))

  ranks_same : (r s : Refusal) (j k : ℕ) → IsRefused gate state item r j → IsRefused gate state item s k → j ≡ k
  ranks_same r s j k p q = IsDistance-once {E = IsDependency gate state} {P = IsIneligible gate state} j k item
      (refused_rank gate state item r j p) (refused_rank gate state item s k q)

left_same : (gate : GateRules) (state : State) (l m : Left) → IsItem state l.item
    → IsRefused gate state l.item l.refusal l.rank → IsRefused gate state m.item m.refusal m.rank → l.item ≡ m.item
    → l ≡ m
left_same gate state l m is p q same =
    let here : IsRefused gate state l.item m.refusal m.rank = subst (λ i. IsRefused gate state i m.refusal m.rank) (sym same) q in
    let rank : l.rank ≡ m.rank = ranks_same gate state l.item is l.refusal m.refusal l.rank m.rank p here in
    let refusal : l.refusal ≡ m.refusal = refusals_same gate state l.item is l.refusal m.refusal l.rank p (subst (IsRefused gate state l.item m.refusal) (sym rank) here) in
    λ i. record { item = same i; refusal = refusal i; rank = rank i }

both_ways : {P Q R : Type 0} → P ↔ Q → R ↔ Q → P ↔ R
both_ways p r = (λ x. r.1 (p.0 x), λ x. p.1 (r.0 x))

pub one_verdicts : (gate : GateRules) (state : State) (a b : Judged) → AreVerdicts gate state a
    → AreVerdicts gate state b → a ≡ b
one_verdicts gate state a b are also =
    let ready = one_rank_order items_exactly (IsDependency gate state) (IsReady gate state) a.ready b.ready are.ready_in_order also.ready_in_order in
    let items = sorted_same items_total (items_out a.out) (items_out b.out) are.out_in_order also.out_in_order (λ item. both_ways (are.out item) (also.out item)) in
    let out = lefts_same a.out b.out items (λ l m c d same.
    let there = (are.out l.item).0 (Contains-to_map (λ (left : Left). left.item) a.out l c) in
    left_same gate state l m there.0 (are.refused l c) (also.refused m d) same) in
    λ i. record { ready = ready i; out = out i }
