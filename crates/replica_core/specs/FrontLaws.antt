-- A journal has one front, which depends on the set of its operations alone, and so has what a front lacks of it.
use Rattle.std.specs.Prelude.{◌≡◌, ◌≤◌, ◌<◌, ◌+◌, ◌==◌, ◌&&◌, ℕ, Bool, true, false, cond, max, List, Option, None, Some}
use Rattle.std.specs.Prelude.{IfSome}
use Rattle.std.specs.declared.cmp.Ordering.{Ordering}
use Rattle.std.specs.declared.cmp.Ordering.TheVariants.{Less, Equal, Greater}
use Rattle.std.specs.Ordering.{nat_cmp, ord_max, is_lt, eq_by_cmp, MatchOrdering}
use Rattle.std.specs.Cmp.{ranks}
use Rattle.std.specs.Option.{unwrap_or}
use Rattle.std.specs.FinMap.{empty, get, get-empty}
use Rattle.std.proofs.Common.{refl, sym, ap, ◌∙◌, subst, arith}
use Rattle.std.proofs.lemmas.Bool.{eqb-true, eqb-false, false≢true}
use Rattle.std.proofs.Math.Nat.{max-eq_left, max-eq_right, max-zero, zero-max}
use Rattle.lattice_core.specs.JoinMap.{joined_to, put_joined, get-put_joined, same_at_each_key}
use Rattle.review_ops.specs.Operation.{Operation}
use Rattle.lattice_core.specs.Exact.{same_by_test, test_of_same, test_of_different}
use Rattle.replica_core.specs.Sets.{IsSameSet, any_alike, filtered_alike}
use Rattle.replica_core.specs.InOrder.{IsInOrder-same, IsInOrder-unique}
use Rattle.replica_core.specs.Clock.{is_of}
use Rattle.replica_core.specs.Front.{Reaches, row_order, rows_exact, reach_of, raised, holds, IsGapless, ReachesInto}
use Rattle.replica_core.specs.Front.{IsFront, AreFromOneOn}
use Rattle.replica_core.specs.Missing.{is_past, IsMissing, row_by_row_exact}

-- ---- one front
further : (held : ℕ → Bool) (a b : ℕ) → IsGapless held a → IsGapless held b → ¬ (a + 1 ≤ b)
further held a b is_a is_b high = false≢true (sym is_a.ends ∙ is_b.gapless (a + 1) (omega arith) high)

one_reach : (held : ℕ → Bool) (a b : Option ℕ) → ReachesInto held a → ReachesInto held b → a ≡ b
one_reach held None None is_a is_b = refl
one_reach held None (Some b) is_a is_b = absurd (false≢true (sym is_a ∙ is_b.1.gapless 1 (omega arith) is_b.0))
one_reach held (Some a) None is_a is_b = absurd (false≢true (sym is_b ∙ is_a.1.gapless 1 (omega arith) is_a.0))
one_reach held (Some a) (Some b) is_a is_b =
    ap Some (omega (arith, further held a b is_a.1 is_b.1, further held b a is_b.1 is_a.1))

pub IsFront-unique : (journal : List Operation) (f g : Reaches) → IsFront journal f → IsFront journal g → f ≡ g
IsFront-unique journal f g is_f is_g = same_at_each_key rows_exact f g
    (λ row. one_reach (holds journal row.0 row.1) (get f row) (get g row) (is_f row.0 row.1) (is_g row.0 row.1))

-- equal sets have one front
pub IsFront-same : (xs ys : List Operation) (front : Reaches) → IsSameSet xs ys → IsFront xs front → IsFront ys front
IsFront-same xs ys front same is site start =
    subst (λ held. ReachesInto held (get front (site, start)))
    (λ i seq. any_alike (λ op. is_of site start op && op.stamp.seq == seq) xs ys same i) (is site start)

-- ---- and what a front lacks of them is one list
pub IsMissing-same : (xs ys : List Operation) (front : Reaches) (missing : List Operation) → IsSameSet xs ys
    → IsMissing xs front missing → IsMissing ys front missing
IsMissing-same xs ys front missing same is =
    IsInOrder-same row_by_row_exact _ _ missing (filtered_alike (is_past front) xs ys same) is

pub IsMissing-unique : (journal : List Operation) (front : Reaches) (missing others : List Operation)
    → IsMissing journal front missing → IsMissing journal front others → missing ≡ others
IsMissing-unique journal front missing others is also = IsInOrder-unique row_by_row_exact _ missing others is also

-- ---- raising
-- whether two rows are one, by their parts
pub rows_alike : (site start s t : ℕ) → eq_by_cmp row_order (s, t) (site, start) ≡ ((site == s) && (start == t))
rows_alike site start s t =
    elim (site == s) as (λ b. (site == s) ≡ b → eq_by_cmp row_order (s, t) (site, start) ≡ (b && (start == t))) [
      | true ↦ λ e. elim (start == t) as (λ b. (start == t) ≡ b → eq_by_cmp row_order (s, t) (site, start) ≡ b) [
        | true ↦ λ f. ap (eq_by_cmp row_order (s, t)) (λ i. (eqb-true site s e i, eqb-true start t f i))
            ∙ test_of_same rows_exact (s, t)
        | false ↦ λ f. test_of_different rows_exact (s, t) (site, start)
            (λ same. eqb-false start t f (sym (ap (λ row. row.1) same)))
      ] refl
      | false ↦ λ e. test_of_different rows_exact (s, t) (site, start)
          (λ same. eqb-false site s e (sym (ap (λ row. row.0) same)))
    ] refl

by_order : (a b : ℕ) (o : Ordering) → MatchOrdering o (b < a) (b ≡ a) (a < b) → cond (is_lt o) a b ≡ max a b
by_order a b Less below = sym (max-eq_left (omega (arith, below)))
by_order a b Equal same = sym (max-eq_right (omega (arith, same)))
by_order a b Greater above = sym (max-eq_right (omega (arith, above)))

joined_max : (found : Option ℕ) (seq : ℕ) → joined_to (ord_max nat_cmp) found seq ≡ max (unwrap_or found 0) seq
joined_max None seq = sym (zero-max seq)
joined_max (Some reach) seq = by_order reach seq (nat_cmp seq reach) (ranks seq reach)

at_row : (front : Reaches) (site start seq s t : ℕ) (same : Bool) → eq_by_cmp row_order (s, t) (site, start) ≡ same
    → unwrap_or (cond same (Some (joined_to (ord_max nat_cmp) (get front (site, start)) seq)) (get front (s, t))) 0
    ≡ cond same (max (reach_of front s t) seq) (reach_of front s t)
at_row front site start seq s t true e =
    joined_max (get front (site, start)) seq
    ∙ ap (λ row. max (unwrap_or (get front row) 0) seq) (sym (same_by_test rows_exact (s, t) (site, start) e))
at_row front site start seq s t false e = refl

nothing_raised : (same : Bool) (reach : ℕ) → reach ≡ cond same (max reach 0) reach
nothing_raised true reach = sym (max-zero reach)
nothing_raised false reach = refl

-- how far a raised front reaches
pub reach_of-raised : (front : Reaches) (site start seq s t : ℕ) → reach_of (raised front site start seq) s t ≡ cond
    (site == s && start == t) (max (reach_of front s t) seq) (reach_of front s t)
reach_of-raised front site start seq s t = elim (seq == 0) as (λ b. (seq == 0) ≡ b → reach_of (cond b front (put_joined (ord_max nat_cmp) front (site, start) seq)) s t ≡ cond (site == s && start == t) (max (reach_of front s t) seq) (reach_of front s t)) [
  | true ↦ λ e. nothing_raised (site == s && start == t) (reach_of front s t) ∙ ap
      (λ n. cond (site == s && start == t) (max (reach_of front s t) n) (reach_of front s t)) (sym (eqb-true seq 0 e))
  | false ↦ λ e.
      ap (λ found. unwrap_or found 0) (get-put_joined rows_exact (ord_max nat_cmp) front (site, start) seq (s, t))
      ∙ at_row front site start seq s t (eq_by_cmp row_order (s, t) (site, start)) refl
      ∙ ap (λ b. cond b (max (reach_of front s t) seq) (reach_of front s t)) (rows_alike site start s t)
] refl

-- ---- what a front reaches stays numbered from 1 on
pub AreReached-empty : AreFromOneOn empty
AreReached-empty site start =
    subst (λ found. IfSome found (λ reach. 1 ≤ reach)) (sym (get-empty row_order (site, start))) tt

reached_both : (found : Option ℕ) (seq : ℕ) → IfSome found (λ reach. 1 ≤ reach) → 1 ≤ seq
    → 1 ≤ joined_to (ord_max nat_cmp) found seq
reached_both None seq old new = new
reached_both (Some reach) seq old new = elim (is_lt (nat_cmp seq reach)) as
    (λ t. 1 ≤ cond t reach seq) [ true ↦ old | false ↦ new ]

pub AreReached-put : (front : Reaches) (site start seq : ℕ) → 1 ≤ seq → AreFromOneOn front
    → AreFromOneOn (put_joined (ord_max nat_cmp) front (site, start) seq)
AreReached-put front site start seq from_one reached other_site other_start =
    subst (λ found. IfSome found (λ reach. 1 ≤ reach))
    (sym (get-put_joined rows_exact (ord_max nat_cmp) front (site, start) seq (other_site, other_start)))
    (elim (eq_by_cmp row_order (other_site, other_start) (site, start)) as (λ t. IfSome (cond t (Some (joined_to (ord_max nat_cmp) (get front (site, start)) seq)) (get front (other_site, other_start))) (λ reach. 1 ≤ reach)) [
      | true ↦ reached_both (get front (site, start)) seq (reached site start) from_one
      | false ↦ reached other_site other_start
    ])

pub AreReached-raised : (front : Reaches) (site start seq : ℕ) → AreFromOneOn front
    → AreFromOneOn (raised front site start seq)
AreReached-raised front site start seq reached = elim (seq == 0) as (λ b. (seq == 0) ≡ b → AreFromOneOn (cond b front (put_joined (ord_max nat_cmp) front (site, start) seq))) [
  | true ↦ λ e. reached
  | false ↦ λ e. AreReached-put front site start seq (omega (arith, eqb-false seq 0 e)) reached
] refl

same_reach : (a b : Option ℕ) → IfSome a (λ reach. 1 ≤ reach) → IfSome b (λ reach. 1 ≤ reach)
    → unwrap_or a 0 ≡ unwrap_or b 0 → a ≡ b
same_reach None None some_a some_b same = refl
same_reach None (Some b) some_a some_b same = absurd (omega (arith, some_b, same))
same_reach (Some a) None some_a some_b same = absurd (omega (arith, some_a, same))
same_reach (Some a) (Some b) some_a some_b same = ap Some same

-- fronts that reach as far in each row are one
pub same_reaches : (f g : Reaches) → AreFromOneOn f → AreFromOneOn g
    → ((site start : ℕ) → reach_of f site start ≡ reach_of g site start) → f ≡ g
same_reaches f g reached_f reached_g same = same_at_each_key rows_exact f g
    (λ row. same_reach (get f row) (get g row) (reached_f row.0 row.1) (reached_g row.0 row.1) (same row.0 row.1))
