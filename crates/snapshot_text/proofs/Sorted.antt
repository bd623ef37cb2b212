-- References to operations, sorted, and the text of what they point to.
use Rattle.std.proofs.Common.{get_or, ◌<◌, ◌≡◌, ℕ, ◌+◌, ◌≤◌, List, [], ◌∷◌, ◌++◌, map, take, length, sym, ap, ◌∙◌}
use Rattle.std.proofs.Common.{subst, arith, decimal}
use Rattle.std.specs.Prelude.{codes}
use Rattle.std.specs.List.Sorted.{IsPermutation, IsSorted}
use Rattle.std.specs.Ordering.{on, is_lt}
use Rattle.std.proofs.lemmas.List.{get_or-map, length-map, take_all, take_more}
use Rattle.std.proofs.lemmas.List.Sorted.{IsPermutation-map}
use Rattle.review_ops.specs.Operation.{Operation, operation_cmp}
use Rattle.review_ops.specs.Order.{operations_exact}
use Rattle.review_ops.specs.Timestamp.{IsNumbered}
use Rattle.review_ops.specs.Good.{IsGood}
use Rattle.snapshot_text.specs.Sound.{IsSound, AreSoundOperations}
use Rattle.replica_core.specs.Journal.{AreApart}
use Rattle.replica_core.specs.InOrder.{IsInOrderOf, sorted_in_order}
use Rattle.byte_ends.specs.Lines.{as_line}
use Rattle.snapshot_text.specs.Snapshot.{operation_lines, snapshot_text}

module _ {R : Type 0} (now : R → Operation) where
  sorted-map : (xs : List R) → IsSorted (on now operation_cmp) xs → IsSorted operation_cmp (map now xs)
  sorted-map [] up k d low within = absurd (omega (arith, within))
  sorted-map (x ∷ xs) up k d low within =
      let next : k + 1 < length (x ∷ xs) = omega (arith, within, length-map (x ∷ xs) now) in
      let here : k < length (x ∷ xs) = omega (arith, next) in
      (λ i. is_lt (operation_cmp (get_or-map now (x ∷ xs) (k + 1) x d next i) (get_or-map now (x ∷ xs) k x d here i)))
      ∙ up k x low next

  pub in_order : (ops : List Operation) (all sorted : List R) → map now all ≡ ops → AreApart ops
      → IsPermutation all sorted → IsSorted (on now operation_cmp) sorted → IsInOrderOf ops (map now sorted)
  in_order ops all sorted same apart moved up =
      sorted_in_order operations_exact ops (map now sorted) apart
      (subst (λ l. IsPermutation l (map now sorted)) same (IsPermutation-map now all sorted moved))
      (sorted-map sorted up)

  -- the header and each line are written, and then the end
  pub whole_text : (ops : List R) (i : ℕ) (text end_line whole : List ℕ) → length ops ≤ i
      → text ≡ as_line (codes "reviewgate 2") ++ operation_lines (map now (take i ops))
      → end_line ≡ as_line (codes "end " ++ decimal (length ops)) → whole ≡ text ++ end_line
      → whole ≡ snapshot_text (map now ops)
  whole_text ops i text end_line whole past is_text is_end is_whole =
      is_whole
      ∙ ap (λ t. t ++ end_line)
      (is_text ∙ ap (λ l. as_line (codes "reviewgate 2") ++ operation_lines (map now l)) (take_all i ops past))
      ∙ ap (λ t. as_line (codes "reviewgate 2") ++ operation_lines (map now ops) ++ t)
      (is_end ∙ ap (λ n. as_line (codes "end " ++ decimal n)) (sym (length-map ops now)))

  sound-push : (xs : List R) (x : R) → AreSoundOperations (map now xs) → IsSound (now x) → AreSoundOperations (map now (xs ++ x ∷ []))
  sound-push [] x sound is = (is, tt)
  sound-push (y ∷ xs) x sound is = (sound.0, sound-push xs x sound.1 is)

  -- one more sound operation
  pub sound_more : (ops : List R) (i : ℕ) (op : R) → i < length ops → op ≡ get_or ops i op → IsNumbered (now op).stamp
      → IsGood (now op).deed → AreSoundOperations (map now (take i ops)) → AreSoundOperations (map now (take (i + 1) ops))
  sound_more ops i op within is numbered good sound =
      let here : IsSound (now op) = record { numbered = numbered; good = good } in
      rw (take_more ops i op within)
      (sound-push (take i ops) (get_or ops i op) sound (subst (λ o. IsSound (now o)) is here))

  pub all_sound : (ops : List R) (i : ℕ) → length ops ≤ i → AreSoundOperations (map now (take i ops)) → AreSoundOperations (map now ops)
  all_sound ops i past sound = subst (λ l. AreSoundOperations (map now l)) (take_all i ops past) sound
