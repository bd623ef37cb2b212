-- What a search in a line finds: the first operation that doesn't pass is what is looked for, or nothing is.
use Rattle.std.proofs.Common.{◌≡◌, ◌≤◌, ◌<◌, ◌+◌, ◌==◌, ◌&&◌, ◌||◌, ◌⊎◌, inl, inr, ℕ, suc, Bool, true, false, not, cond}
use Rattle.std.proofs.Common.{List, [], ◌∷◌, drop, refl, sym, ap, subst, ◌∙◌, arith}
use Rattle.std.specs.Prelude.{slice_get, nat_lt}
use Rattle.std.specs.declared.cmp.Ordering.{Ordering}
use Rattle.std.specs.declared.cmp.Ordering.TheVariants.{Less, Equal, Greater}
use Rattle.std.specs.Ordering.{is_lt, nat_cmp, ordering_then, eq_by_cmp, MatchOrdering}
use Rattle.std.specs.Cmp.{tied_itself, ranks}
use Rattle.std.specs.List.{AllByRecursion, list_any}
use Rattle.std.specs.List.Sorted.{IsStrictlySortedBy}
use Rattle.std.proofs.lemmas.Bool.{false≢true, eqb-true}
use Rattle.std.proofs.lemmas.Bool.Decides.{nat_tests}
use Rattle.lattice_core.specs.Keep.{numbers_exact}
use Rattle.review_ops.specs.Deed.{deed_cmp}
use Rattle.review_ops.specs.Timestamp.{Timestamp, timestamp_cmp, timestamps_exact}
use Rattle.review_ops.specs.Operation.{Operation}
use Rattle.replica_core.specs.Clock.{is_of}
use Rattle.std.proofs.lemmas.Bool.{false_from_ne_true}
use Rattle.lattice_core.specs.Exact.{same_by_test}
use Rattle.replica_core.specs.InOrder.{same_is_equal}
use Rattle.replica_core.specs.Journal.{same_operation, has, has_stamp}
use Rattle.replica_core.specs.Missing.{row_by_row, row_by_row_exact}
use Rattle.chunk_list.specs.Ranks.{rank}
use Rattle.replica_core.proofs.Ranked.{less_than}
use Rattle.replica_core.specs.Searches.{is_below, is_before, is_within, ops_past}
use Rattle.chunk_list.specs.Chunks.{is_some_passing}

-- ---- the first that doesn't pass
module _ (test match : Operation → Bool) (In : Operation → Type 0)
    (no_pass : (x : Operation) → match x ≡ true → test x ≡ false)
    (first_one : (x y : Operation) → In x → In y → row_by_row x y ≡ Less → test x ≡ false → match y ≡ true → match x ≡ true) where
  no_later : (x : Operation) (xs : List Operation) → In x → AllByRecursion In xs
      → AllByRecursion (λ y. row_by_row x y ≡ Less) xs → test x ≡ false → match x ≡ false → list_any match xs ≡ false
  no_later x [] of_x all above fails other = refl
  no_later x (y ∷ xs) of_x all above fails other =
      ap (λ t. t || list_any match xs)
      (false_from_ne_true (match y) (λ e. false≢true (sym other ∙ first_one x y of_x all.0 above.0 fails e)))
      ∙ no_later x xs of_x all.1 above.1 fails other

  pub sought : (xs : List Operation) → IsStrictlySortedBy row_by_row xs → AllByRecursion In xs
      → list_any match xs ≡ is_some_passing match (slice_get xs (rank test xs))
  unfolding IsStrictlySortedBy
  sought [] sorted all = refl
  sought (x ∷ xs) sorted all = elim (test x) as (λ t. test x ≡ t → list_any match (x ∷ xs) ≡ is_some_passing match (slice_get (x ∷ xs) (cond t (suc (rank test xs)) 0))) [
    | true ↦ λ e. ap (λ t. t || list_any match xs)
        (false_from_ne_true (match x) (λ m. false≢true (sym (no_pass x m) ∙ e))) ∙ sought xs sorted.1 all.1
    | false ↦ λ e. elim (match x) as (λ t. match x ≡ t → (t || list_any match xs) ≡ t) [
      | true ↦ λ m. refl
      | false ↦ λ m. no_later x xs all.0 all.1 sorted.0 e m
    ] refl
  ] refl

-- ---- an operation
not_below_itself : (op : Operation) → is_below op op ≡ false
not_below_itself op = ap is_lt (tied_itself row_by_row_exact.total op)

below_less : (x y : Operation) → row_by_row x y ≡ Less → is_below y x ≡ true
below_less x y e = ap is_lt e

pub below_falls : (op x y : Operation) → row_by_row x y ≡ Less → is_below op y ≡ true → is_below op x ≡ true
below_falls op x y less below = ap is_lt (row_by_row_exact.total.trans x y op less (less_than (row_by_row y op) below))

all_any : (xs : List Operation) → AllByRecursion (λ _. Unit {0}) xs
all_any [] = tt
all_any (x ∷ xs) = (tt, all_any xs)

pub sought_op : (op : Operation) (xs : List Operation) → IsStrictlySortedBy row_by_row xs
    → has xs op ≡ is_some_passing (λ other. same_operation other op) (slice_get xs (rank (is_below op) xs))
sought_op op xs sorted = sought (is_below op) (λ other. same_operation other op) (λ _. Unit {0})
    (λ x e. ap (is_below op) (same_is_equal x op e) ∙ not_below_itself op)
    (λ x y of_x of_y less fails e. absurd (false≢true (sym fails ∙ subst (λ o. is_below o x ≡ true) (same_is_equal y op e) (below_less x y less))))
    xs sorted (all_any xs)

-- ---- the order in a row: by number, then by time, then by deed
rises_at : (o p : Ordering) (a b c d : ℕ) (deeds : Ordering) → MatchOrdering o (a < b) (a ≡ b) (b < a)
    → MatchOrdering p (c < d) (c ≡ d) (d < c) → ordering_then o (ordering_then p deeds) ≡ Less
    → (a < b) ⊎ ((a ≡ b) × (c ≤ d))
rises_at Less p a b c d deeds h k less = inl h
rises_at Equal Less a b c d deeds h k less = inr (h, omega (arith, k))
rises_at Equal Equal a b c d deeds h k less = inr (h, omega (arith, k))
rises_at Equal Greater a b c d deeds h k less = cc
rises_at Greater p a b c d deeds h k less = cc

no_less : (a b : ℕ) → a ≤ b → nat_lt b a ≡ false
no_less a b h = grind (arith, nat_tests)

within_low : (n a b : ℕ) → a ≤ b → not (nat_lt n b) ≡ true → not (nat_lt n a) ≡ true
within_low n a b h within = grind (arith, nat_tests)

before_low : (s t a b c d : ℕ) → (a < b) ⊎ ((a ≡ b) × (c ≤ d)) → (nat_lt b s || (b == s && nat_lt d t)) ≡ true
    → (nat_lt a s || (a == s && nat_lt c t)) ≡ true
before_low s t a b c d rises before = grind (arith, nat_tests)

not_before_itself : (s t : ℕ) → (nat_lt s s || (s == s && nat_lt t t)) ≡ false
not_before_itself s t = grind (arith, nat_tests)

pub both : (a b : Bool) → (a && b) ≡ true → (a ≡ true) × (b ≡ true)
both true true e = (refl, refl)
both true false e = cc
both false b e = cc

-- whether an operation has a stamp
abbrev pub has_it : Timestamp → Operation → Bool
has_it stamp op = eq_by_cmp timestamp_cmp op.stamp stamp

module _ (site start : ℕ) where
  abbrev pub IsOf : Operation → Type 0
  IsOf op = is_of site start op ≡ true

  pub site_of : (op : Operation) → IsOf op → op.stamp.site ≡ site
  site_of op e = eqb-true op.stamp.site site (both (op.stamp.site == site) (op.stamp.start == start) e).0

  pub start_of : (op : Operation) → IsOf op → op.stamp.start ≡ start
  start_of op e = eqb-true op.stamp.start start (both (op.stamp.site == site) (op.stamp.start == start) e).1

  module _ (x y : Operation) (of_x : IsOf x) (of_y : IsOf y) where
    abbrev inside : Ordering
    inside = ordering_then (nat_cmp x.stamp.seq y.stamp.seq)
        (ordering_then (nat_cmp x.stamp.time y.stamp.time) (deed_cmp x.deed y.deed))

    in_row : row_by_row x y ≡ inside
    in_row =
        ap (λ o. ordering_then o (ordering_then (nat_cmp x.stamp.start y.stamp.start) inside)) (ap (nat_cmp x.stamp.site) (site_of y of_y ∙ sym (site_of x of_x)) ∙ tied_itself numbers_exact.total x.stamp.site)
        ∙ ap (λ o. ordering_then o inside) (ap (nat_cmp x.stamp.start) (start_of y of_y ∙ sym (start_of x of_x)) ∙ tied_itself numbers_exact.total x.stamp.start)

    pub rises : row_by_row x y ≡ Less
        → (x.stamp.seq < y.stamp.seq) ⊎ ((x.stamp.seq ≡ y.stamp.seq) × (x.stamp.time ≤ y.stamp.time))
    rises less =
        rises_at (nat_cmp x.stamp.seq y.stamp.seq)
        (nat_cmp x.stamp.time y.stamp.time) x.stamp.seq y.stamp.seq x.stamp.time y.stamp.time
        (deed_cmp x.deed y.deed)
        (ranks x.stamp.seq y.stamp.seq) (ranks x.stamp.time y.stamp.time) (sym in_row ∙ less)

    pub no_lower : row_by_row x y ≡ Less → x.stamp.seq ≤ y.stamp.seq
    no_lower less = elim (rises less) [ inl h ↦ omega (arith, h) | inr h ↦ omega (arith, h.0) ]

  pub within_falls : (seq : ℕ) (x y : Operation) → IsOf x → IsOf y → row_by_row x y ≡ Less → is_within seq y ≡ true
      → is_within seq x ≡ true
  within_falls seq x y of_x of_y less = within_low seq x.stamp.seq y.stamp.seq (no_lower x y of_x of_y less)

  pub before_falls : (stamp : Timestamp) (x y : Operation) → IsOf x → IsOf y → row_by_row x y ≡ Less
      → is_before stamp y ≡ true → is_before stamp x ≡ true
  before_falls stamp x y of_x of_y less =
      before_low stamp.seq stamp.time x.stamp.seq y.stamp.seq x.stamp.time y.stamp.time (rises x y of_x of_y less)

  -- the operations with a stamp
  same_place : (s t a c : ℕ) → (a < s) ⊎ ((a ≡ s) × (c ≤ t)) → (nat_lt a s || (a == s && nat_lt c t)) ≡ false
      → (a ≡ s) × (c ≡ t)
  same_place s t a c rises fails = (grind (arith, nat_tests), grind (arith, nat_tests))

  first_stamp : (stamp : Timestamp) (x y : Operation) → IsOf x → IsOf y → row_by_row x y ≡ Less
      → is_before stamp x ≡ false → has_it stamp y ≡ true → has_it stamp x ≡ true
  first_stamp stamp x y of_x of_y less fails is =
      let there : y.stamp ≡ stamp = same_by_test timestamps_exact y.stamp stamp is in
      let equal = same_place stamp.seq stamp.time x.stamp.seq x.stamp.time (subst (λ s. (x.stamp.seq < s.seq) ⊎ ((x.stamp.seq ≡ s.seq) × (x.stamp.time ≤ s.time))) there (rises x y of_x of_y less)) fails in
      let same : x.stamp ≡ y.stamp = λ i. record {
        time = (equal.1 ∙ ap (λ s. s.time) (sym there)) i;
        site = (site_of x of_x ∙ sym (site_of y of_y)) i;
        start = (start_of x of_x ∙ sym (start_of y of_y)) i;
        seq = (equal.0 ∙ ap (λ s. s.seq) (sym there)) i;
      } in
      ap (λ s. eq_by_cmp timestamp_cmp s stamp) same ∙ is

  pub sought_stamp : (stamp : Timestamp) (xs : List Operation) → IsStrictlySortedBy row_by_row xs
      → AllByRecursion IsOf xs
      → has_stamp xs stamp ≡ is_some_passing (has_it stamp) (slice_get xs (rank (is_before stamp) xs))
  sought_stamp stamp = sought (is_before stamp) (has_it stamp) IsOf
      (λ x e. ap (λ s. nat_lt s.seq stamp.seq || (s.seq == stamp.seq && nat_lt s.time stamp.time)) (same_by_test timestamps_exact x.stamp stamp e) ∙ not_before_itself stamp.seq stamp.time)
      (first_stamp stamp)

  -- the operations with the number after one
  abbrev is_next : ℕ → Operation → Bool
  is_next seq op = op.stamp.seq == seq + 1

  next_fails : (n a : ℕ) → (a == n + 1) ≡ true → not (nat_lt n a) ≡ false
  next_fails n a e = grind (arith, nat_tests)

  first_next : (n a b : ℕ) → a ≤ b → not (nat_lt n a) ≡ false → (b == n + 1) ≡ true → (a == n + 1) ≡ true
  first_next n a b low fails is = grind (arith, nat_tests)

  pub sought_next : (seq : ℕ) (xs : List Operation) → IsStrictlySortedBy row_by_row xs → AllByRecursion IsOf xs
      → list_any (is_next seq) xs ≡ is_some_passing (is_next seq) (slice_get xs (rank (is_within seq) xs))
  sought_next seq = sought (is_within seq) (is_next seq) IsOf
      (λ x e. next_fails seq x.stamp.seq e)
      (λ x y of_x of_y less fails is. first_next seq x.stamp.seq y.stamp.seq (no_lower x y of_x of_y less) fails is)

  -- the operations past a number
  past_next : (n a b : ℕ) → a ≤ b → nat_lt n a ≡ true → nat_lt n b ≡ true
  past_next n a b low past = grind (arith, nat_tests)

  all_past : (seq : ℕ) (x : Operation) (xs : List Operation) → IsOf x → AllByRecursion IsOf xs
      → AllByRecursion (λ y. row_by_row x y ≡ Less) xs → nat_lt seq x.stamp.seq ≡ true → ops_past seq xs ≡ xs
  all_past seq x [] of_x all above past = refl
  all_past seq x (y ∷ xs) of_x all above past =
      ap (λ t. cond t (y ∷ ops_past seq xs) (ops_past seq xs))
      (past_next seq x.stamp.seq y.stamp.seq (no_lower x y of_x all.0 above.0) past)
      ∙ ap (λ l. y ∷ l) (all_past seq x xs of_x all.1 above.1 past)

  pub past_rank : (seq : ℕ) (xs : List Operation) → IsStrictlySortedBy row_by_row xs → AllByRecursion IsOf xs
      → drop (rank (is_within seq) xs) xs ≡ ops_past seq xs
  unfolding IsStrictlySortedBy
  past_rank seq [] sorted all = refl
  past_rank seq (x ∷ xs) sorted all = elim (nat_lt seq x.stamp.seq) as (λ t. nat_lt seq x.stamp.seq ≡ t → drop (cond (not t) (suc (rank (is_within seq) xs)) 0) (x ∷ xs) ≡ cond t (x ∷ ops_past seq xs) (ops_past seq xs)) [
    | true ↦ λ e. ap (λ l. x ∷ l) (sym (all_past seq x xs all.0 all.1 sorted.0 e))
    | false ↦ λ e. past_rank seq xs sorted.1 all.1
  ] refl
