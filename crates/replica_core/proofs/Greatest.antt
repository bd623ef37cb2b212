-- The greatest number of a line's operations is that of its last.
use Rattle.std.proofs.Common.{◌≡◌, ◌≤◌, ◌<◌, ◌-◌, ◌==◌, ◌&&◌, ◌||◌, cond, inl, inr, ℕ, Bool, true, false, List, [], ◌∷◌}
use Rattle.std.proofs.Common.{Option, None, Some, length, get_or, map, filter, refl, sym, ap, subst, ◌∙◌, arith}
use Rattle.std.specs.Prelude.{slice_get}
use Rattle.std.specs.List.{Any, AllByRecursion, list_any}
use Rattle.std.specs.List.Sorted.{IsStrictlySortedBy}
use Rattle.std.proofs.lemmas.Bool.{eqb-true, eqb-false, cases_lt}
use Rattle.std.proofs.Common.{eq-eqb}
use Rattle.std.proofs.lemmas.List.Elements.{All-from_recursion}
use Rattle.std.proofs.lemmas.List.Folds.{Any-from_list_any, list_any-from_Any}
use Rattle.std.proofs.lemmas.Map.Keys.{Less-from_sorted}
use Rattle.std.proofs.lemmas.Option.{slice_get-get_or, slice_get_within, get_or_from_slice_get}
use Rattle.review_ops.specs.Operation.{Operation}
use Rattle.replica_core.specs.Clock.{is_of, greatest, seqs}
use Rattle.std.proofs.lemmas.Bool.{false_from_ne_true}
use Rattle.replica_core.specs.Front.{holds}
use Rattle.replica_core.specs.Journal.{has}
use Rattle.replica_core.specs.Missing.{row_by_row}
use Rattle.replica_core.specs.Sets.{Contains-from_has, has-from_Contains, reached, bounded, any_alike, greatest_alike}
use Rattle.replica_core.specs.RowLine.{RowLine}
use Rattle.replica_core.specs.Lines.{ops_of, IsFiled}
use Rattle.replica_core.proofs.Sought.{IsOf, no_lower}
use Rattle.replica_core.proofs.Filed.{all_of}

abbrev seqs_of : List Operation → List ℕ
seqs_of ops = map (λ op. op.stamp.seq) ops

module _ (site start : ℕ) (ops : List Operation) (sorted : IsStrictlySortedBy row_by_row ops)
    (all : AllByRecursion (IsOf site start) ops) where
  at_index : (k : ℕ) (d : Operation) → k < length ops → IsOf site start (get_or ops k d)
  at_index = All-from_recursion (IsOf site start) ops all

  no_further : (last op : Operation) → Some last ≡ slice_get ops (length ops - 1) → has ops op ≡ true
      → op.stamp.seq ≤ last.stamp.seq
  no_further last op there h =
      let found = Contains-from_has ops op h in
      let k = found.0 in
      let here : get_or ops (length ops - 1) op ≡ last = get_or_from_slice_get ops (length ops - 1) last op (sym there) in
      elim (cases_lt k (length ops - 1)) [
        | inl before ↦
            let inside : length ops - 1 < length ops = omega (arith, found.1) in
            let less = Less-from_sorted row_by_row ops k (length ops - 1) op sorted before inside in
            let low = no_lower site start (get_or ops k op) (get_or ops (length ops - 1) op) (at_index k op found.1) (at_index (length ops - 1) op inside) less in
            subst (λ o. o.stamp.seq ≤ last.stamp.seq) found.2
            (subst (λ o. (get_or ops k op).stamp.seq ≤ o.stamp.seq) here low)
        | inr after ↦
            let same : k ≡ length ops - 1 = omega (arith, after, found.1) in
            let equal : op ≡ last = sym found.2 ∙ ap (λ n. get_or ops n op) same ∙ here in
            subst (λ o. op.stamp.seq ≤ o.stamp.seq) equal (omega arith)
      ]

  has_last : (last : Operation) → Some last ≡ slice_get ops (length ops - 1) → has ops last ≡ true
  has_last last there = has-from_Contains ops last (length ops - 1, slice_get_within ops (length ops - 1) last (sym there), get_or_from_slice_get ops (length ops - 1) last last (sym there))

  pub greatest_last : (last : Operation) → Some last ≡ slice_get ops (length ops - 1)
      → greatest (seqs_of ops) ≡ last.stamp.seq
  greatest_last last there =
      omega (arith, bounded (λ op. op.stamp.seq) ops 0 last.stamp.seq (omega arith) (λ op h. no_further last op there h), reached (λ op. op.stamp.seq) ops 0 last (has_last last there))

greatest_none : (ops : List Operation) → None ≡ slice_get ops (length ops - 1) → greatest (seqs_of ops) ≡ 0
greatest_none [] none = refl
greatest_none (op ∷ ops) none = let e : Some (get_or (op ∷ ops) (length ops) op) ≡ None = sym (slice_get-get_or (op ∷ ops) (length ops) op (omega arith)) ∙ ap (slice_get (op ∷ ops)) (omega arith) ∙ sym none in cc

module _ (journal : List Operation) (line : RowLine) (filed : IsFiled journal line) where
  seqs_alike : greatest (seqs_of (ops_of journal line)) ≡ greatest (seqs line.site line.start journal)
  seqs_alike = greatest_alike (λ op. op.stamp.seq) (ops_of journal line)
      (filter (is_of line.site line.start) journal) filed.ordered.members

  pub seqs_last : (last : Operation) → Some last ≡ slice_get (ops_of journal line) (length (ops_of journal line) - 1)
      → last.stamp.seq ≡ greatest (seqs line.site line.start journal)
  seqs_last last there = sym (greatest_last line.site line.start (ops_of journal line) filed.ordered.sorted (all_of journal line filed) last there) ∙ seqs_alike

  pub seqs_none : None ≡ slice_get (ops_of journal line) (length (ops_of journal line) - 1)
      → 0 ≡ greatest (seqs line.site line.start journal)
  seqs_none none = sym (greatest_none (ops_of journal line) none) ∙ seqs_alike

  -- ---- numbers that are held
  pub kept_any : (p q : Operation → Bool) (xs : List Operation)
      → list_any p (filter q xs) ≡ list_any (λ x. q x && p x) xs
  kept_any p q [] = refl
  kept_any p q (x ∷ xs) = elim (q x) as (λ t. list_any p (cond t (x ∷ filter q xs) (filter q xs)) ≡ ((t && p x) || list_any (λ x. q x && p x) xs)) [
    | true ↦ ap (λ t. p x || t) (kept_any p q xs)
    | false ↦ kept_any p q xs
  ]

  pub holds_of : (seq : ℕ)
      → list_any (λ op. op.stamp.seq == seq) (ops_of journal line) ≡ holds journal line.site line.start seq
  holds_of seq = any_alike (λ op. op.stamp.seq == seq) (ops_of journal line)
      (filter (is_of line.site line.start) journal) filed.ordered.members ∙ kept_any (λ op. op.stamp.seq == seq)
      (is_of line.site line.start) journal

  -- nothing is held above the greatest
  pub no_higher : (seq : ℕ) → greatest (seqs line.site line.start journal) < seq
      → holds journal line.site line.start seq ≡ false
  no_higher seq high =
      sym (holds_of seq) ∙ false_from_ne_true (list_any (λ op. op.stamp.seq == seq) (ops_of journal line)) (λ h.
      let found : Any (λ op. (op.stamp.seq == seq) ≡ true) (ops_of journal line) = Any-from_list_any (λ op. op.stamp.seq == seq) (ops_of journal line) h in
      let op = found.1 in
      let is : op.stamp.seq ≡ seq = eqb-true op.stamp.seq seq found.4 in
      let low = reached (λ o. o.stamp.seq) (ops_of journal line) 0 op (has-from_Contains (ops_of journal line) op (found.0, found.2, found.3)) in
      absurd (omega (arith, low, is, high, seqs_alike)))

  held_at : (seq : ℕ) → 1 ≤ seq → greatest (seqs line.site line.start journal) ≡ seq → (found : Option Operation)
      → found ≡ slice_get (ops_of journal line) (length (ops_of journal line) - 1)
      → list_any (λ op. op.stamp.seq == seq) (ops_of journal line) ≡ true
  held_at seq some is None there = absurd (omega (arith, some, is, seqs_none there))
  held_at seq some is (Some last) there =
      let at = length (ops_of journal line) - 1 in
      list_any-from_Any (λ op. op.stamp.seq == seq) (ops_of journal line)
      (at, last, slice_get_within (ops_of journal line) at last (sym there), get_or_from_slice_get (ops_of journal line) at last last (sym there), eq-eqb last.stamp.seq seq (seqs_last last there ∙ is))

  -- and the greatest is
  pub held_greatest : (seq : ℕ) → 1 ≤ seq → greatest (seqs line.site line.start journal) ≡ seq
      → holds journal line.site line.start seq ≡ true
  held_greatest seq some is =
      sym (holds_of seq) ∙ held_at seq some is (slice_get (ops_of journal line) (length (ops_of journal line) - 1)) refl

  pub held_last : (last seq : ℕ) → 1 ≤ seq → last ≡ greatest (seqs line.site line.start journal) → last ≤ seq
      → (last == seq) ≡ holds journal line.site line.start seq
  held_last last seq some is low =
      elim (last == seq) as (λ t. (last == seq) ≡ t → t ≡ holds journal line.site line.start seq) [
        | true ↦ λ e. sym (held_greatest seq some (sym is ∙ eqb-true last seq e))
        | false ↦ λ e. sym (no_higher seq (omega (arith, low, sym is, eqb-false last seq e)))
      ] refl
