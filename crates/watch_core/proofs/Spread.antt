-- What waits for a touched change, or for one that was reached.
use Rattle.std.proofs.Common.{◌≡◌, ◌⊎◌, ◌+◌, ◌<◌, ℕ, Bool, true, false, cond, ◌||◌, None, Some, List, [], ◌∷◌, ◌++◌}
use Rattle.std.proofs.Common.{Contains, map, refl, sym, ap, ◌∙◌, subst, inl, inr, arith}
use Rattle.std.specs.BTreeMap.{get}
use Rattle.std.specs.BTreeSet.{BTreeSet, contains}
use Rattle.std.specs.Global.{Vec}
use Rattle.lattice_core.specs.Keep.{numbers_exact}
use Rattle.std.specs.Ordering.{is_eq, nat_cmp}
use Rattle.std.specs.declared.cmp.Ordering.{Ordering}
use Rattle.std.specs.declared.cmp.Ordering.TheVariants.{Less, Equal, Greater}
use Rattle.std.proofs.lemmas.Bool.{false≢true}
use Rattle.std.proofs.lemmas.Map.Lookups.{exact_pairs, exact_unsigned}
use Rattle.std.proofs.lemmas.List.Elements.{Contains-push_cases}
use Rattle.lattice_core.specs.MemberLaws.{Contains-none, Contains-to_map}
use Rattle.lattice_core.specs.PlaceLaws.{earlier_or_same}
use Rattle.review_ops.specs.Deed.{change_of}
use Rattle.review_ops.specs.Operation.{Operation}
use Rattle.state_core.specs.declared.item.Item.{Item}
use Rattle.state_core.specs.State.{State, state_of}
use Rattle.state_core.specs.Items.{IsCurrentItem}
use Rattle.gate_rules.specs.Rules.{GateRules}
use Rattle.graph_core.specs.Dependencies.{IsDependency}
use Rattle.watch_core.specs.Namers.{AddsWaiting, AreAdded, HaveNamers, HoldNamers, IsNamer, IsSpreading, KeepsNamers, Namers}
use Rattle.watch_core.specs.Namers.{has_item, is_reached, namer_pair_cmp, items_at}
use Rattle.watch_core.specs.Touched.{HoldsWhatWaits, touches}
use Rattle.watch_core.proofs.KeptLemmas.{touched_of, touches_of}
use Rattle.watch_core.proofs.Local.{same_current}
use Rattle.watch_core.proofs.Stays.{stays_same}

-- ---- tests
pub grown : (hit old new : Bool) → new ≡ cond hit true old → old ≡ true → new ≡ true
grown true old new is has = is
grown false old new is has = is ∙ has

pub hit_or_old : (hit old new : Bool) → new ≡ cond hit true old → new ≡ true → (hit ≡ true) ⊎ (old ≡ true)
hit_or_old true old new is has = inl refl
hit_or_old false old new is has = inr (sym is ∙ has)

equal_of : (r : Ordering) → is_eq r ≡ true → r ≡ Equal
equal_of Equal e = refl
equal_of Less e = absurd (false≢true e)
equal_of Greater e = absurd (false≢true e)

pub same_pair : (a b : Item) → is_eq (namer_pair_cmp (a.change, a.set) (b.change, b.set)) ≡ true → a ≡ b
same_pair a b e =
    ap (λ (p : ℕ × ℕ). record { change = p.0; set = p.1 })
    (exact_pairs nat_cmp nat_cmp exact_unsigned exact_unsigned (a.change, a.set) (b.change, b.set) (equal_of (namer_pair_cmp (a.change, a.set) (b.change, b.set)) e))

or_first : (a b : Bool) → a ≡ true → (a || b) ≡ true
or_first true b is = refl
or_first false b is = absurd (false≢true is)

or_second : (a b : Bool) → b ≡ true → (a || b) ≡ true
or_second true b is = refl
or_second false b is = is

or_cases : (a b : Bool) → (a || b) ≡ true → (a ≡ true) ⊎ (b ≡ true)
or_cases true b is = inl refl
or_cases false b is = inr is

pub below_or_at : (i k : ℕ) → i < k + 1 → (i < k) ⊎ (i ≡ k)
below_or_at i k less = earlier_or_same i k (omega (arith, less))

-- ---- the items of one change, exchanged
module _ (old taken new : Namers) (target : ℕ) (row : Vec Item)
    (removed : (q : ℕ) → get nat_cmp taken q ≡ cond (is_eq (nat_cmp target q)) None (get nat_cmp old q))
    (inserted : (q : ℕ) → get nat_cmp new q ≡ cond (is_eq (nat_cmp target q)) (Some row) (get nat_cmp taken q)) where
  there_by : (number : ℕ) (item : Item) → get nat_cmp new number ≡ Some row → Contains row.items item
      → IsNamer new number item
  there_by number item is has = subst (λ found. Contains (items_at found) item) (sym is) has

  kept_by : (carried : (item : Item) → IsNamer old target item → Contains row.items item) (number : ℕ) (item : Item)
      (hit : Bool) → is_eq (nat_cmp target number) ≡ hit → IsNamer old number item → IsNamer new number item
  kept_by carried number item true e has =
      let same : target ≡ number = numbers_exact.exact target number (equal_of (nat_cmp target number) e) in
      there_by number item (inserted number ∙ ap (λ b. cond b (Some row) (get nat_cmp taken number)) e)
      (carried item (subst (λ n. IsNamer old n item) (sym same) has))
  kept_by carried number item false e has =
      let is : get nat_cmp new number ≡ get nat_cmp old number =
      inserted number ∙ ap (λ b. cond b (Some row) (get nat_cmp taken number)) e ∙ removed number
      ∙ ap (λ b. cond b None (get nat_cmp old number)) e in
      subst (λ found. Contains (items_at found) item) (sym is) has

  pub exchanged : ((item : Item) → IsNamer old target item → Contains row.items item) → KeepsNamers old new
  exchanged carried number item has = kept_by carried number item (is_eq (nat_cmp target number)) refl has

-- one item more
pub one_more : (state : State) (item : Item) (old new : BTreeSet (ℕ × ℕ)) (before now : List ℕ)
    → ((q : ℕ × ℕ) → contains namer_pair_cmp new q ≡ cond (is_eq (namer_pair_cmp (item.change, item.set) q)) true (contains namer_pair_cmp old q))
    → contains namer_pair_cmp new (item.change, item.set) ≡ true
    → ((number : ℕ) → Contains before number → Contains now number)
    → (IsCurrentItem state item → (has_item old item ≡ true) ⊎ Contains now item.change)
    → AddsWaiting state (λ other. other ≡ item) old before new now
one_more state item old new before now updates there stays ahead = record {
  keeps = λ other has. grown (is_eq (namer_pair_cmp (item.change, item.set) (other.change, other.set))) (has_item old other)
      (has_item new other) (updates (other.change, other.set)) has;
  adds = λ other same. subst (λ i. has_item new i ≡ true) (sym same) there;
  stays = stays;
  ahead = λ other has current. elim (hit_or_old (is_eq (namer_pair_cmp (item.change, item.set) (other.change, other.set))) (has_item old other) (has_item new other) (updates (other.change, other.set)) has) [
    | inl hit ↦
        let same = same_pair item other hit in
        subst (λ i. (has_item old i ≡ true) ⊎ Contains now i.change) same
        (ahead (subst (IsCurrentItem state) (sym same) current))
    | inr was ↦ inl was
  ];
}

-- and then one item of a list more
pub more : (state : State) (row : List Item) (item : Item) (old between new : BTreeSet (ℕ × ℕ))
    (before middle now : List ℕ)
    → AddsWaiting state (Contains row) old before between middle → AddsWaiting state (λ other. other ≡ item) between middle new now
    → AddsWaiting state (Contains (row ++ item ∷ [])) old before new now
more state row item old between new before middle now first next = record {
  keeps = λ other has. next.keeps other (first.keeps other has);
  adds = λ other here. elim (Contains-push_cases row item other here) [
    | inl earlier ↦ next.keeps other (first.adds other earlier)
    | inr same ↦ next.adds other (sym same)
  ];
  stays = λ number here. next.stays number (first.stays number here);
  ahead = λ other has current. elim (next.ahead other has current) [
    | inl between_has ↦ elim (first.ahead other between_has current) [
      | inl was ↦ inl was
      | inr ahead ↦ inr (next.stays other.change ahead)
    ]
    | inr ahead ↦ inr ahead
  ];
}

pub none_more : (state : State) (old : BTreeSet (ℕ × ℕ)) (before : List ℕ)
    → AddsWaiting state (Contains []) old before old before
none_more state old before = record {
  keeps = λ item has. has;
  adds = λ item none. absurd (Contains-none item none);
  stays = λ number here. here;
  ahead = λ item has current. inl has;
}

-- ---- the search
module _ (state : State) (namers : Namers) (later : List Operation) where
  pub spreading_first : (items : BTreeSet (ℕ × ℕ)) (ahead : List ℕ) → items.keys ≡ []
      → ahead ≡ map (λ (op : Operation). change_of op.deed) later → IsSpreading state namers later items ahead
  spreading_first items ahead none is = record {
    touched = λ number told_so.
        let found = touched_of later number told_so in
        inl (subst (λ l. Contains l number) (sym is) (subst (Contains (map (λ (op : Operation). change_of op.deed) later)) found.on
        (Contains-to_map (λ (op : Operation). change_of op.deed) later found.op found.there)));
    current = λ other has. absurd (false≢true (sym (empty_has items none other) ∙ has));
  } where
    empty_has : (items : BTreeSet (ℕ × ℕ)) → items.keys ≡ [] → (other : Item) → has_item items other ≡ false
    empty_has items none other = ap (λ (keys : List (ℕ × ℕ)). has_item (record { keys = keys }) other) none

  module _ (old new : BTreeSet (ℕ × ℕ)) (before now : List ℕ) (number : ℕ)
      (adds : AddsWaiting state (IsNamer namers number) old before new now) where
    told : (other : ℕ) → Contains (before ++ number ∷ []) other ⊎ AreAdded namers old other
        → Contains now other ⊎ AreAdded namers new other
    told other (inl ahead) = elim (Contains-push_cases before number other ahead) [
      | inl earlier ↦ inl (adds.stays other earlier)
      | inr same ↦ inr (subst (AreAdded namers new) same adds.adds)
    ]
    told other (inr added) = inr (λ item names. adds.keeps item (added item names))

    pub spreading_on : IsSpreading state namers later old (before ++ number ∷ [])
        → IsSpreading state namers later new now
    spreading_on is = record {
      touched = λ other told_so. told other (is.touched other told_so);
      current = λ other has current. elim (adds.ahead other has current) [
        | inl was ↦ told other.change (is.current other was current)
        | inr ahead ↦ inl ahead
      ];
    }

  pub all_held : (items : BTreeSet (ℕ × ℕ)) → HoldNamers state namers later (is_reached later true items)
  all_held items = record {
    waiting = λ item number names told_so. or_second (touches later item.change) true refl;
    leading = λ item other names current reached. or_second (touches later item.change) true refl;
  }

-- what holds those that are kept as waiting holds all that wait
pub holds_what_waits : (gate : GateRules) (journal later : List Operation) (namers : Namers) (all : Bool)
    (items : BTreeSet (ℕ × ℕ)) → HaveNamers gate (state_of journal) namers
    → HoldNamers (state_of (journal ++ later)) namers later (is_reached later all items)
    → HoldsWhatWaits gate journal later (is_reached later all items)
holds_what_waits gate journal later namers all items have holds = record {
  touched = λ item touched. or_first (touches later item.change) (all || has_item items item)
      (touches_of later item.change touched);
  waiting = λ item number target touched. holds.waiting item number (have item number target)
      (touches_of later number touched);
  leading = λ item other edge reached. by_touch item other edge reached (touches later other.change) refl;
} where
  by_touch : (item other : Item) → IsDependency gate (state_of journal) item other
      → is_reached later all items other ≡ true → (test : Bool) → touches later other.change ≡ test
      → is_reached later all items item ≡ true
  by_touch item other edge reached true is = holds.waiting item other.change (have item other.change edge.0) is
  by_touch item other edge reached false is =
      let same = stays_same journal later other.change (λ touched. false≢true (sym is ∙ touches_of later other.change touched)) in
      holds.leading item other (have item other.change edge.0)
      (same_current (state_of journal) (state_of (journal ++ later)) other same edge.1) reached
