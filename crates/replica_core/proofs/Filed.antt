-- A line's places and the operations there.
use Rattle.std.proofs.Common.{◌≡◌, ◌<◌, ◌&&◌, ℕ, suc, Bool, true, cond, List, [], ◌∷◌, None, Some, length, get_or, refl}
use Rattle.std.proofs.Common.{sym, ap, subst, ◌∙◌, arith}
use Rattle.std.specs.Prelude.{slice_get}
use Rattle.std.specs.List.{All, AllByRecursion}
use Rattle.std.specs.Option.{option_map}
use Rattle.std.specs.List.Sorted.{IsPartitionedBy}
use Rattle.std.specs.declared.cmp.Ordering.TheVariants.{Less}
use Rattle.std.proofs.lemmas.Option.{slice_get-map, slice_get-get_or, slice_get_within, get_or_from_slice_get}
use Rattle.std.proofs.lemmas.List.{get_or-map}
use Rattle.std.proofs.lemmas.List.{length-map}
use Rattle.std.proofs.lemmas.List.Elements.{recursion_from_All, Contains-get_or, All-same, All-head, All-tail}
use Rattle.review_ops.specs.Operation.{Operation}
use Rattle.replica_core.specs.Clock.{is_of}
use Rattle.replica_core.specs.Journal.{has}
use Rattle.replica_core.specs.Missing.{row_by_row}
use Rattle.replica_core.specs.Sets.{has-filter, has-from_Contains}
use Rattle.chunk_list.specs.Ranks.{rank}
use Rattle.replica_core.specs.RowLine.{RowLine}
use Rattle.replica_core.specs.Lines.{op_at, ops_at, ops_of, IsFiled}
use Rattle.replica_core.specs.Searches.{passes_at}
use Rattle.chunk_list.specs.Chunks.{is_some_passing}
use Rattle.replica_core.proofs.Ranked.{parts}
use Rattle.replica_core.proofs.Sought.{IsOf, both}

-- ---- tests of places
module _ (test : Operation → Bool) (journal : List Operation) where
  at_inside : (place : ℕ) → place < length journal → passes_at test journal place ≡ test (op_at journal place)
  at_inside place inside = ap (is_some_passing test) (slice_get-get_or journal place _ inside)

  rank-places : (places : List ℕ) → All (λ place. place < length journal) places
      → rank (passes_at test journal) places ≡ rank test (ops_at journal places)
  rank-places [] inside = refl
  rank-places (place ∷ places) inside =
      ap (λ t. cond t (suc (rank (passes_at test journal) places)) 0)
      (at_inside place (All-head (λ p. p < length journal) place places inside))
      ∙ ap (λ n. cond (test (op_at journal place)) (suc n) 0)
      (rank-places places (All-tail (λ p. p < length journal) place places inside))

  at_index : (places : List ℕ) → All (λ place. place < length journal) places → (i d : ℕ) → i < length places
      → passes_at test journal (get_or places i d) ≡ test (get_or (ops_at journal places) i (op_at journal d))
  at_index places inside i d low = at_inside (get_or places i d) (inside i d low)
      ∙ ap test (sym (get_or-map (op_at journal) places i d (op_at journal d) low))

  parts-places : (places : List ℕ) → All (λ place. place < length journal) places
      → IsPartitionedBy test (ops_at journal places) → IsPartitionedBy (passes_at test journal) places
  parts-places places inside parted i j d low high passes =
      at_index places inside i d (omega (arith, low, high))
      ∙ parted i j (op_at journal d) low (omega (arith, high, length-map places (op_at journal)))
      (sym (at_index places inside j d high) ∙ passes)

module _ (journal : List Operation) (line : RowLine) (filed : IsFiled journal line) where
  pub has_of : (op : Operation) → has (ops_of journal line) op ≡ (is_of line.site line.start op && has journal op)
  has_of op = filed.ordered.members op ∙ has-filter (is_of line.site line.start) journal op

  -- a line's operations are of its row
  pub all_of : AllByRecursion (IsOf line.site line.start) (ops_of journal line)
  all_of = recursion_from_All (IsOf line.site line.start) (ops_of journal line) (λ k d inside.
      let op = get_or (ops_of journal line) k d in
      (both (is_of line.site line.start op) (has journal op) (sym (has_of op) ∙ has-from_Contains (ops_of journal line) op (Contains-get_or (ops_of journal line) k d inside))).0)

  -- its places part where a test of its operations falls
  module _ (test : Operation → Bool) (falls : (x y : Operation) → IsOf line.site line.start x → IsOf line.site line.start y → row_by_row x y ≡ Less → test y ≡ true → test x ≡ true) (places : List ℕ) (are : places ≡ line.places) where
    inside : All (λ place. place < length journal) places
    inside = All-same (λ place. place < length journal) places line.places are filed.inside

    pub placed_parts : IsPartitionedBy (passes_at test journal) places
    placed_parts = parts-places test journal places inside (subst (λ l. IsPartitionedBy test (ops_at journal l)) (sym are) (parts test row_by_row (IsOf line.site line.start) falls (ops_of journal line) filed.ordered.sorted all_of))

    pub placed_rank : rank (passes_at test journal) places ≡ rank test (ops_of journal line)
    placed_rank = rank-places test journal places inside ∙ ap (λ l. rank test (ops_at journal l)) are

  -- the operation at one of its places
  pub placed_op : (places : List ℕ) → places ≡ line.places → (index place : ℕ) → Some place ≡ slice_get places index
      → slice_get (ops_of journal line) index ≡ slice_get journal place
  placed_op places are index place there =
      let low : index < length places = slice_get_within places index place (sym there) in
      let inside : place < length journal = subst (λ p. p < length journal) (get_or_from_slice_get places index place place (sym there)) (All-same (λ p. p < length journal) places line.places are filed.inside index place low) in
      slice_get-map (op_at journal) line.places index
      ∙ ap (option_map (op_at journal)) (ap (λ l. slice_get l index) (sym are) ∙ sym there)
      ∙ sym (slice_get-get_or journal place _ inside)

  -- where there is no place there is no operation
  pub placed_none : (places : List ℕ) → places ≡ line.places → (index : ℕ) → None ≡ slice_get places index
      → None ≡ slice_get (ops_of journal line) index
  placed_none places are index none = sym (slice_get-map (op_at journal) line.places index ∙ ap (option_map (op_at journal)) (ap (λ l. slice_get l index) (sym are) ∙ sym none))
