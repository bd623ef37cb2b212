-- Changes that are reached one after the other.
use Rattle.std.proofs.Common.{◌≡◌, ◌∙◌, ◌+◌, ◌<◌, ◌≤◌, ℕ, zero, suc, List, [], ◌∷◌, ◌++◌, Contains, Option, None, Some}
use Rattle.std.proofs.Common.{length, take, get_or, slice_get, refl, sym, subst, ap, inl, inr, arith, append-nil}
use Rattle.std.proofs.Common.{append_assoc}
use Rattle.std.proofs.lemmas.List.{take_more}
use Rattle.std.proofs.lemmas.List.Elements.{Contains-push, Contains-push_cases, Contains-append_left}
use Rattle.std.proofs.lemmas.List.Elements.{Contains-append_right, Contains-append_cases, Contains-get_or}
use Rattle.walk_core.specs.Ranks.{LeadsTo}
use Rattle.walk_core.specs.Walks.{Leads-after, Walk}
use Rattle.gate_rules.specs.Rules.{GateRules}
use Rattle.state_core.specs.State.{State}
use Rattle.state_core.specs.Items.{IsCurrentItem}
use Rattle.state_core.specs.declared.item.Item.{Item}
use Rattle.change_core.specs.Views.{IsKnownSet}
use Rattle.graph_core.specs.Dependencies.{Names}
use Rattle.why_text.specs.Asked.{IsItemAsked}
use Rattle.page_text.specs.Reached.{AddsNumbers, AreDistinct, AreNames, AreReachedChanges, HasReached, NamesFrom}
use Rattle.page_text.specs.Reached.{set_seen}

nothing : {X : Type 0} (x : X) → ¬ Contains [] x
nothing x c = let less = c.1 in absurd (omega arith)

head : (x : ℕ) (xs : List ℕ) → Contains (x ∷ xs) x
head x xs = (0, omega arith, refl)

distinct_push : (xs : List ℕ) (y : ℕ) → AreDistinct xs → ¬ Contains xs y → AreDistinct (xs ++ y ∷ [])
distinct_push [] y once new = (nothing y, tt)
distinct_push (x ∷ xs) y once new = (
  λ c. elim (Contains-push_cases xs y x c) [
    | inl within ↦ once.0 within
    | inr same ↦ new (subst (Contains (x ∷ xs)) (sym same) (head x xs))
  ],
  distinct_push xs y once.1 (λ c. new (Contains-append_right (x ∷ []) xs y c)),
)

-- ---- one number is added, or is there

pub one_added : (old : List ℕ) (number : ℕ) → ¬ Contains old number
    → AddsNumbers (λ other. other ≡ number) old (old ++ number ∷ [])
one_added old number new = record {
  added = number ∷ [];
  is = refl;
  from = λ other c. elim
      (Contains-push_cases [] number other c) [ inl no_such ↦ absurd (nothing other no_such) | inr same ↦ sym same ];
  all = λ other same. subst (Contains (old ++ number ∷ [])) (sym same) (Contains-push old number);
  once = λ once. distinct_push old number once new;
}

-- ---- all of a list are added

pub none_added : (old : List ℕ) → AddsNumbers (Contains []) old old
none_added old = record {
  added = [];
  is = sym (append-nil old);
  from = λ other c. c;
  all = λ other c. absurd (nothing other c);
  once = λ once. once;
}

pub more_added : (more old now new : List ℕ) (at d : ℕ) → at < length more
    → AddsNumbers (Contains (take at more)) old now
    → AddsNumbers (λ other. other ≡ get_or more at d) now new → AddsNumbers (Contains (take (at + 1) more)) old new
more_added more old now new at d inside so_far one = record {
  added = so_far.added ++ one.added;
  is = one.is ∙ ap (λ l. l ++ one.added) so_far.is ∙ append_assoc old so_far.added one.added;
  from = λ other c. elim (Contains-append_cases so_far.added one.added other c) [
    | inl before ↦ subst (λ l. Contains l other) (sym longer)
        (Contains-append_left (take at more) (get_or more at d ∷ []) other (so_far.from other before))
    | inr last ↦ subst (λ l. Contains l other) (sym longer) (subst (Contains (take at more ++ get_or more at d ∷ [])) (sym (one.from other last)) (Contains-push (take at more) (get_or more at d)))
  ];
  all = λ other c. elim (Contains-push_cases (take at more) (get_or more at d) other (subst (λ l. Contains l other) longer c)) [
    | inl before ↦ subst (λ l. Contains l other) (sym one.is)
        (Contains-append_left now one.added other (so_far.all other before))
    | inr same ↦ one.all other (sym same)
  ];
  once = λ once. one.once (so_far.once once);
} where
  longer : take (at + 1) more ≡ take at more ++ get_or more at d ∷ []
  longer = take_more more at d inside

-- ---- what a change names

-- one item is looked at
same_item : (a b : Item) → a.change ≡ b.change → a.set ≡ b.set → a ≡ b
same_item a b change set = λ i. record { change = change i; set = set i }

greatest_is : (state : State) (a b : Item) → a.change ≡ b.change → IsCurrentItem state a → IsCurrentItem state b
    → a.set ≡ b.set
greatest_is state a b change is_a is_b =
    let one : is_a.change ≡ is_b.change = same_change in
    let forth : a.set ≤ b.set = is_b.greatest.greatest a.set (subst (λ c. IsKnownSet c a.set) one is_a.greatest.known) in
    let back : b.set ≤ a.set = is_a.greatest.greatest b.set (subst (λ c. IsKnownSet c b.set) (sym one) is_b.greatest.known) in
    omega (arith, forth, back) where
      same_change : is_a.change ≡ is_b.change
      same_change = let p = is_a.stands in let q = is_b.stands in cc

asked_once : (state : State) (number : ℕ) (set : Option ℕ) (a b : Item) → IsItemAsked state number set a
    → IsItemAsked state number set b → a ≡ b
asked_once state number None a b is_a is_b =
    let change = is_a.1 ∙ sym is_b.1 in same_item a b change (greatest_is state a b change is_a.0 is_b.0)
asked_once state number (Some set) a b is_a is_b = same_item a b (is_a.1 ∙ sym is_b.1) (is_a.2 ∙ sym is_b.2)

one_item : (state : State) (item : Item) (number : ℕ) (a b : Item) → IsItemAsked state number (set_seen item number) a
    → IsItemAsked state number (set_seen item number) b → a ≡ b
one_item state item number a b = asked_once state number (set_seen item number) a b

pub names_added : (gate : GateRules) (state : State) (item : Item) (number : ℕ) (from : Item) (needs old new : List ℕ)
    → IsItemAsked state number (set_seen item number) from → AreNames gate state from needs
    → AddsNumbers (Contains needs) old new → AddsNumbers (NamesFrom gate state item number) old new
names_added gate state item number from needs old new asked named adds = record {
  added = adds.added;
  is = adds.is;
  from = λ other c. (from, asked, (named.each other).0 (adds.from other c));
  all = λ other names. adds.all other ((named.each other).1
      (subst (λ i. Names gate state i other) (one_item state item number names.0 from names.1 asked) names.2));
  once = adds.once;
}

-- ---- the search

pub begun : (gate : GateRules) (state : State) (item : Item) → HasReached gate state item 0 (item.change ∷ [])
begun gate state item = record {
  first = refl;
  once = (nothing item.change, tt);
  each = λ number c. elim (Contains-push_cases [] item.change number c) [
    | inl no_such ↦ absurd (nothing number no_such)
    | inr same ↦ (0, same)
  ];
  closed = λ number other c names. absurd (nothing number c);
}

first_kept : (old added : List ℕ) (x : ℕ) → slice_get old 0 ≡ Some x → slice_get (old ++ added) 0 ≡ Some x
first_kept [] added x is = absurd (differs x is) where
  differs : (y : ℕ) → ¬ (None ≡ Some y)
  differs y e = cc
first_kept (y ∷ ys) added x is = is

take_before : (xs ys : List ℕ) (k : ℕ) → k ≤ length xs → take k (xs ++ ys) ≡ take k xs
take_before xs ys zero within = refl
take_before [] ys (suc k) within = absurd (omega (arith, within))
take_before (x ∷ xs) ys (suc k) within = ap (λ l. x ∷ l) (take_before xs ys k (omega (arith, within)))

take_whole : (xs : List ℕ) (k : ℕ) → length xs ≤ k → take k xs ≡ xs
take_whole [] zero within = refl
take_whole [] (suc k) within = refl
take_whole (x ∷ xs) zero within = absurd (omega (arith, within))
take_whole (x ∷ xs) (suc k) within = ap (λ l. x ∷ l) (take_whole xs k (omega (arith, within)))

lead_on : {N : Type 0} (E : N → N → Type 0) (x y z : N) → LeadsTo E x y → E y z → LeadsTo E x z
lead_on E x y z leads edge = (leads.0 + 1, Leads-after E (λ w. w ≡ z) leads.0 1 x y leads.1 (z, edge, refl))

pub step : (gate : GateRules) (state : State) (item : Item) (at d : ℕ) (old new : List ℕ) → at < length old
    → HasReached gate state item at old → AddsNumbers (NamesFrom gate state item (get_or old at d)) old new
    → HasReached gate state item (at + 1) new
step gate state item at d old new inside reached adds = record {
  first =
      subst (λ l. slice_get l 0 ≡ Some item.change) (sym adds.is) (first_kept old adds.added item.change reached.first);
  once = adds.once reached.once;
  each = λ number c. elim (Contains-append_cases old adds.added number (subst (λ l. Contains l number) adds.is c)) [
    | inl before ↦ reached.each number before
    | inr later ↦ lead_on (NamesFrom gate state item) item.change (get_or old at d) number
        (reached.each (get_or old at d) (Contains-get_or old at d inside)) (adds.from number later)
  ];
  closed = λ number other c names. elim (Contains-push_cases (take at old) (get_or old at d) number (subst (λ l. Contains l number) longer c)) [
    | inl before ↦ subst (λ l. Contains l other) (sym adds.is)
        (Contains-append_left old adds.added other (reached.closed number other before names))
    | inr same ↦ adds.all other (subst (λ n. NamesFrom gate state item n other) (sym same) names)
  ];
} where
  longer : take (at + 1) new ≡ take at old ++ get_or old at d ∷ []
  longer = ap (take (at + 1)) adds.is ∙ take_before old adds.added (at + 1) (omega (arith, inside))
      ∙ take_more old at d inside

-- what is reached from a member is a member
closed_walk : {N : Type 0} (E : N → N → Type 0) (xs : List N) → ((x y : N) → Contains xs x → E x y → Contains xs y)
    → (n : ℕ) (x z : N) → Contains xs x → Walk E n x z → Contains xs z
closed_walk E xs closed zero x z there same = subst (Contains xs) same there
closed_walk E xs closed (suc n) x z there walk =
    closed_walk E xs closed n walk.0 z (closed x walk.0 there walk.1) walk.2

first_there : (xs : List ℕ) (x : ℕ) → slice_get xs 0 ≡ Some x → Contains xs x
first_there [] x is = absurd (differs x is) where
  differs : (y : ℕ) → ¬ (None ≡ Some y)
  differs y e = cc
first_there (y ∷ ys) x is = subst (Contains (y ∷ ys)) (same is) (head y ys) where
  same : Some y ≡ Some x → y ≡ x
  same e = cc

pub whole : (gate : GateRules) (state : State) (item : Item) (at : ℕ) (changes : List ℕ)
    → (length changes ≤ 60 → length changes ≤ at) → HasReached gate state item at changes
    → AreReachedChanges gate state item changes
whole gate state item at changes enough reached = record {
  first = reached.first;
  once = reached.once;
  each = reached.each;
  all = λ few number leads. closed_walk (NamesFrom gate state item) changes
      (λ x y there names. reached.closed x y (subst (λ l. Contains l x) (sym (take_whole changes at (enough few))) there) names)
      leads.0 item.change number (first_there changes item.change reached.first) leads.1;
}
