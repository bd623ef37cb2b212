-- Journals as sets: two that have the same operations, in whatever order they came, have the same state.
use Rattle.std.specs.Prelude.{◌≡◌, ◌≤◌, ◌+◌, ℕ, Bool, true, false, ◌||◌, ◌&&◌, cond, List, [], ◌∷◌, map, filter, fold}
use Rattle.std.specs.Prelude.{max, Contains}
use Rattle.std.specs.List.{Any, list_any}
use Rattle.std.proofs.Common.{refl, sym, ap, ◌∙◌, subst, arith}
use Rattle.std.proofs.lemmas.Bool.{false≢true}
use Rattle.std.proofs.lemmas.List.Folds.{Any-from_list_any, list_any-from_Any}
use Rattle.std.proofs.Math.Nat.{le-max_left, le-max_right, max-le}
use Rattle.review_ops.specs.Operation.{Operation}
use Rattle.change_core.specs.StateLaws.{any_alike as tested_alike}
use Rattle.replica_core.specs.Journal.{has, same_operation}
use Rattle.replica_core.specs.InOrder.{same_is_equal, same_itself}
use Rattle.replica_core.specs.Clock.{greatest, is_of, next_of}
use Rattle.state_core.specs.State.{state_of}
use Rattle.state_core.specs.StateLaws.{state_of-same as joined-same}

-- the two have the same operations
abbrev pub IsSameSet : List Operation → List Operation → Type 0
IsSameSet xs ys = (op : Operation) → has xs op ≡ has ys op

-- ---- members
pub Contains-from_has : (xs : List Operation) (op : Operation) → has xs op ≡ true → Contains xs op
Contains-from_has xs op h =
    let found : Any (λ other. same_operation other op ≡ true) xs = Any-from_list_any (λ other. same_operation other op) xs h in
    subst (Contains xs) (same_is_equal found.1 op found.4) (found.0, found.2, found.3)

pub has-from_Contains : (xs : List Operation) (op : Operation) → Contains xs op → has xs op ≡ true
has-from_Contains xs op c = list_any-from_Any (λ other. same_operation other op) xs (c.0, op, c.1, c.2, same_itself op)

pub members_alike : (xs ys : List Operation) → IsSameSet xs ys → (op : Operation) → Contains xs op → Contains ys op
members_alike xs ys same op c = Contains-from_has ys op (sym (same op) ∙ has-from_Contains xs op c)

-- ---- tests of a journal's operations
module _ (test : Operation → Bool) where
  pub any_alike : (xs ys : List Operation) → IsSameSet xs ys → list_any test xs ≡ list_any test ys
  any_alike xs ys same = tested_alike test xs ys (members_alike xs ys same) (members_alike ys xs (λ op. sym (same op)))

  kept_true : (b : Bool) (x op : Operation) (rest later : Bool) → same_operation x op ≡ b → test x ≡ true
      → rest ≡ (test op && later) → (b || rest) ≡ (test op && (b || later))
  kept_true true x op rest later e passes is = sym (ap (λ t. t && true) (ap test (sym (same_is_equal x op e)) ∙ passes))
  kept_true false x op rest later e passes is = is

  nothing_kept : (t later : Bool) → t ≡ false → (t && later) ≡ (t && true)
  nothing_kept true later e = absurd (false≢true (sym e))
  nothing_kept false later e = refl

  kept_false : (b : Bool) (x op : Operation) (rest later : Bool) → same_operation x op ≡ b → test x ≡ false
      → rest ≡ (test op && later) → rest ≡ (test op && (b || later))
  kept_false true x op rest later e fails is =
      is ∙ nothing_kept (test op) later (ap test (sym (same_is_equal x op e)) ∙ fails)
  kept_false false x op rest later e fails is = is

  pub has-filter : (xs : List Operation) (op : Operation) → has (filter test xs) op ≡ (test op && has xs op)
  has-filter [] op = elim (test op) as (λ t. false ≡ (t && false)) [ true ↦ refl | false ↦ refl ]
  has-filter (x ∷ xs) op = elim (test x) as (λ t. test x ≡ t → has (cond t (x ∷ filter test xs) (filter test xs)) op ≡ (test op && (same_operation x op || has xs op))) [
    | true ↦ λ e. kept_true (same_operation x op) x op (has (filter test xs) op) (has xs op) refl e (has-filter xs op)
    | false ↦ λ e. kept_false (same_operation x op) x op (has (filter test xs) op) (has xs op) refl e (has-filter xs op)
  ] refl

  pub filtered_alike : (xs ys : List Operation) → IsSameSet xs ys → IsSameSet (filter test xs) (filter test ys)
  filtered_alike xs ys same op = has-filter xs op ∙ ap (λ t. test op && t) (same op) ∙ sym (has-filter ys op)

-- equal sets have one state
pub state_of-same : (xs ys : List Operation) → IsSameSet xs ys → state_of xs ≡ state_of ys
state_of-same xs ys same = joined-same xs ys (members_alike xs ys same) (members_alike ys xs (λ op. sym (same op)))

-- ---- the next stamp
module _ (read : Operation → ℕ) where
  from_start : (xs : List Operation) (a : ℕ) → a ≤ fold max a (map read xs)
  from_start [] a = omega arith
  from_start (x ∷ xs) a = omega (arith, le-max_left a (read x), from_start xs (max a (read x)))

  reached_at : (b : Bool) (x op : Operation) (whole : ℕ) → same_operation x op ≡ b → read x ≤ whole → (later : Bool)
      → (later ≡ true → read op ≤ whole) → (b || later) ≡ true → read op ≤ whole
  reached_at true x op whole e first later rest h = subst (λ o. read o ≤ whole) (same_is_equal x op e) first
  reached_at false x op whole e first later rest h = rest h

  pub reached : (xs : List Operation) (a : ℕ) (op : Operation) → has xs op ≡ true → read op ≤ fold max a (map read xs)
  reached [] a op h = absurd (false≢true h)
  reached (x ∷ xs) a op h =
      reached_at (same_operation x op) x op (fold max (max a (read x)) (map read xs)) refl
      (omega (arith, le-max_right a (read x), from_start xs (max a (read x)))) (has xs op)
      (reached xs (max a (read x)) op) h

  pub bounded : (xs : List Operation) (a b : ℕ) → a ≤ b → ((op : Operation) → has xs op ≡ true → read op ≤ b)
      → fold max a (map read xs) ≤ b
  bounded [] a b start all = start
  bounded (x ∷ xs) a b start all =
      bounded xs (max a (read x)) b (max-le start (all x (ap (λ t. t || has xs x) (same_itself x))))
      (λ op h. all op (elim (same_operation x op) as (λ t. (t || has xs op) ≡ true) [ true ↦ refl | false ↦ h ]))

  at_most : (xs ys : List Operation) → IsSameSet xs ys → greatest (map read xs) ≤ greatest (map read ys)
  at_most xs ys same = bounded xs 0 (greatest (map read ys)) (omega arith) (λ op h. reached ys 0 op (sym (same op) ∙ h))

  pub greatest_alike : (xs ys : List Operation) → IsSameSet xs ys → greatest (map read xs) ≡ greatest (map read ys)
  greatest_alike xs ys same = omega (arith, at_most xs ys same, at_most ys xs (λ op. sym (same op)))

-- equal sets have one next stamp
pub next_of-same : (xs ys : List Operation) (site start : ℕ) → IsSameSet xs ys
    → next_of xs site start ≡ next_of ys site start
next_of-same xs ys site start same =
    let times_alike = greatest_alike (λ op. op.stamp.time) xs ys same in
    let seqs_alike = greatest_alike (λ op. op.stamp.seq) (filter (is_of site start) xs) (filter (is_of site start) ys) (filtered_alike (is_of site start) xs ys same) in
    λ i. record { time = times_alike i + 1; site = site; start = start; seq = seqs_alike i + 1 }
