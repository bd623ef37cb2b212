-- Where the first item that doesn't pass is, chunk by chunk.
use Rattle.std.proofs.Common.{◌≡◌, ◌≤◌, ◌<◌, ◌+◌, inl, ℕ, zero, suc, Bool, true, false, cond, List, [], ◌∷◌, ◌++◌}
use Rattle.std.proofs.Common.{Some, ◌-◌, length, get_or, take, refl, sym, ap, subst, ◌∙◌, arith}
use Rattle.std.specs.Prelude.{slice_get}
use Rattle.std.specs.List.{All, flat_map}
use Rattle.std.specs.List.Sorted.{IsPartitionPoint, IsPartitionedBy}
use Rattle.std.proofs.lemmas.List.{length-append, take_all}
use Rattle.std.proofs.lemmas.List.Elements.{All-head, All-tail}
use Rattle.std.proofs.lemmas.List.{get_or_default}
use Rattle.std.proofs.Math.ListN.{get_or-append}
use Rattle.std.proofs.lemmas.List.{get_or-append-add}
use Rattle.chunk_list.specs.Ranks.{rank}
use Rattle.chunk_list.specs.Chunks.{place_of, IsInside, last_passes, is_some_passing}
use Rattle.chunk_list.specs.RankLaws.{rank-point, rank-append_all, rank-append_some, parted_left, parted_right}
use Rattle.chunk_list.specs.RankLaws.{rank-last, rank-last_fails, last_passing, first_passes}

module _ {C T : Type 0} (items : C → List T) (test : T → Bool) where
  abbrev pub last : C → Bool
  last chunk = last_passes test (items chunk)

  abbrev Filled : C → Type 0
  Filled chunk = 0 < length (items chunk)

  -- a chunk of a list that parts does
  pub parted_chunk : (chunks : List C) (k : ℕ) (d : C) → k < length chunks
      → IsPartitionedBy test (flat_map items chunks) → IsPartitionedBy test (items (get_or chunks k d))
  parted_chunk [] k d inside parted = absurd (omega (arith, inside))
  parted_chunk (chunk ∷ chunks) zero d inside parted = parted_left test (items chunk) (flat_map items chunks) parted
  parted_chunk (chunk ∷ chunks) (suc k) d inside parted =
      parted_chunk chunks k d (omega (arith, inside)) (parted_right test (items chunk) (flat_map items chunks) parted)

  -- the last item of a chunk is among those of all
  pub last_among : (chunks : List C) (k : ℕ) (d : C) (e : T) → k < length chunks → last (get_or chunks k d) ≡ true
      → (i : ℕ) × (i < length (flat_map items chunks)) × (test (get_or (flat_map items chunks) i e) ≡ true)
  last_among [] k d e inside passes = absurd (omega (arith, inside))
  last_among (chunk ∷ chunks) zero d e inside passes =
      let at = last_passing test (items chunk) e passes in
      (at.0, omega (arith, at.1, length-append (items chunk) (flat_map items chunks)), ap test (get_or-append (items chunk) (flat_map items chunks) e at.0 at.1) ∙ at.2)
  last_among (chunk ∷ chunks) (suc k) d e inside passes =
      let at = last_among chunks k d e (omega (arith, inside)) passes in
      (length (items chunk) + at.0, omega (arith, at.1, length-append (items chunk) (flat_map items chunks)), ap test (get_or-append-add (items chunk) (flat_map items chunks) at.0 e) ∙ at.2)

  -- the chunks part where their last items do
  pub parted_lasts : (chunks : List C) → All Filled chunks → IsPartitionedBy test (flat_map items chunks)
      → IsPartitionedBy last chunks
  parted_lasts [] filled parted i j d low inside passes = absurd (omega (arith, inside))
  parted_lasts (chunk ∷ chunks) filled parted zero zero d low inside passes = passes
  parted_lasts (chunk ∷ chunks) filled parted zero (suc j) d low inside passes =
      first_passes test (items chunk) (flat_map items chunks) (All-head Filled chunk chunks filled) parted
      (λ e. last_among chunks j d e (omega (arith, inside)) passes)
  parted_lasts (chunk ∷ chunks) filled parted (suc i) zero d low inside passes = absurd (omega (arith, low))
  parted_lasts (chunk ∷ chunks) filled parted (suc i) (suc j) d low inside passes =
      parted_lasts chunks (All-tail Filled chunk chunks filled)
      (parted_right test (items chunk) (flat_map items chunks) parted) i j d (omega (arith, low))
      (omega (arith, inside)) passes

  -- ---- the rank of the whole, by the rank of the chunks
  rank_in : (chunks : List C) (d : C) → All Filled chunks → IsPartitionedBy test (flat_map items chunks)
      → rank last chunks < length chunks
      → length (flat_map items (take (rank last chunks) chunks)) + rank test
      (items (get_or chunks (rank last chunks) d)) ≡ rank test (flat_map items chunks)
  rank_in [] d filled parted inside = absurd (omega (arith, inside))
  rank_in (chunk ∷ chunks) d filled parted inside =
      elim (last chunk) as (λ t. last chunk ≡ t → cond t (suc (rank last chunks)) 0 < suc (length chunks)
      → length (flat_map items (take (cond t (suc (rank last chunks)) 0) (chunk ∷ chunks))) + rank test (items (get_or (chunk ∷ chunks) (cond t (suc (rank last chunks)) 0) d)) ≡ rank test (items chunk ++ flat_map items chunks)) [
        | true ↦ λ e low.
            let all = rank-last test (items chunk) (parted_left test (items chunk) (flat_map items chunks) parted) e in
            let rest = rank_in chunks d (All-tail Filled chunk chunks filled) (parted_right test (items chunk) (flat_map items chunks) parted) (omega (arith, low)) in
            omega (arith, rest, rank-append_all test (items chunk) (flat_map items chunks) all, length-append (items chunk) (flat_map items (take (rank last chunks) chunks)))
        | false ↦ λ e low. omega (arith, rank-append_some test (items chunk) (flat_map items chunks) (rank-last_fails test (items chunk) (All-head Filled chunk chunks filled) e))
      ] refl inside

  rank_past : (chunks : List C) → All Filled chunks → IsPartitionedBy test (flat_map items chunks)
      → rank last chunks ≡ length chunks → length (flat_map items chunks) ≡ rank test (flat_map items chunks)
  rank_past [] filled parted all = refl
  rank_past (chunk ∷ chunks) filled parted all = elim (last chunk) as (λ t. last chunk ≡ t → cond t (suc (rank last chunks)) 0 ≡ suc (length chunks) → length (items chunk ++ flat_map items chunks) ≡ rank test (items chunk ++ flat_map items chunks)) [
    | true ↦ λ e same.
        let full = rank-last test (items chunk) (parted_left test (items chunk) (flat_map items chunks) parted) e in
        let rest = rank_past chunks (All-tail Filled chunk chunks filled) (parted_right test (items chunk) (flat_map items chunks) parted) (omega (arith, same)) in
        omega (arith, rest, rank-append_all test (items chunk) (flat_map items chunks) full, length-append (items chunk) (flat_map items chunks))
    | false ↦ λ e same. absurd (omega (arith, same))
  ] refl all

  module _ (chunks : List C) (filled : All Filled chunks) (parted : IsPartitionedBy test (flat_map items chunks))
      (chunk : ℕ) (low : chunk ≤ length chunks)
      (point : IsPartitionPoint (λ c. last c ≡ true) (λ c. last c ≡ false) chunks chunk) where
    at : chunk ≡ rank last chunks
    at = rank-point last chunks chunk low point

    pub past_rank : length chunks ≤ chunk → place_of items chunks chunk 0 ≡ rank test (flat_map items chunks)
    past_rank high =
        let whole : chunk ≡ length chunks = omega (arith, low, high) in
        omega (arith, rank_past chunks filled parted (sym at ∙ whole), ap (λ l. length (flat_map items l)) (take_all chunk chunks high))

    module _ (found : C) (inside : chunk < length chunks) (here : found ≡ get_or chunks chunk found) (list : List T)
        (is : list ≡ items found) (index : ℕ) (low_index : index ≤ length list)
        (point_in : IsPartitionPoint (λ x. test x ≡ true) (λ x. test x ≡ false) list index) where
      index_at : index ≡ rank test (items found)
      index_at = rank-point test list index low_index point_in ∙ ap (rank test) is

      pub in_rank : place_of items chunks chunk index ≡ rank test (flat_map items chunks)
      in_rank =
          ap (λ n. length (flat_map items (take chunk chunks)) + n) (index_at ∙ ap (λ c. rank test (items c)) here)
          ∙ ap (λ n. length (flat_map items (take n chunks)) + rank test (items (get_or chunks n found))) at
          ∙ rank_in chunks found filled parted (subst (λ n. n < length chunks) at inside)

      pub in_inside : IsInside items chunks chunk index
      in_inside =
          let ends = rank-last_fails test (items found) (subst Filled (sym here) (filled chunk found inside)) (subst (λ c. last c ≡ false) (sym here) (point.1 chunk found (omega arith) inside)) in
          inl (inside, λ d. subst (λ c. index < length (items c)) (here ∙ get_or_default chunks chunk found d inside) (omega (arith, index_at, ends)))

  -- where the last item of all passes the rank lies past all of them
  pub last_rank : (chunks : List C) (found : C) → All Filled chunks → IsPartitionedBy test (flat_map items chunks)
      → Some found ≡ slice_get chunks (length chunks - 1) → last found ≡ true → (chunk : ℕ) → chunk ≡ length chunks
      → place_of items chunks chunk 0 ≡ rank test (flat_map items chunks)
  last_rank chunks found filled parted there passes chunk all =
      omega (arith, rank_past chunks filled parted (rank-last last chunks (parted_lasts chunks filled parted) (ap (is_some_passing last) (sym there) ∙ passes)), ap (λ l. length (flat_map items l)) (take_all chunk chunks (omega (arith, all))))
