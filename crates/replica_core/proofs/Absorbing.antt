-- How a journal comes into another, one operation after the other.
use Rattle.std.proofs.Common.{◌≡◌, ℕ, zero, suc, ◌+◌, ◌<◌, length, arith, Bool, true, false, List, [], ◌∷◌, ◌++◌, take}
use Rattle.std.proofs.Common.{drop, reverse, Result, Ok, Err, sym, ap, subst, ◌∙◌, add-one}
use Rattle.std.specs.Prelude.{is_err, OnOk, OnErr, IfOk}
use Rattle.std.specs.List.Sorted.{IsPermutation, IsSorted}
use Rattle.std.proofs.lemmas.Bool.{false≢true}
use Rattle.std.proofs.lemmas.List.{take-append-drop, append-nil, reverse-append, length-drop}
use Rattle.review_ops.specs.Operation.{Operation, operation_cmp}
use Rattle.review_ops.specs.Order.{operations_exact}
use Rattle.replica_core.specs.Journal.{arrived, all_arrived, AreApart}
use Rattle.replica_core.specs.JournalLaws.{all_arrived-push}
use Rattle.replica_core.specs.InOrder.{IsInOrderOf, sorted_in_order}

pub if_ok : {T E : Type 0} {P Q : T → Type 0} (r : Result T E) → ((x : T) → P x → Q x) → IfOk r P → IfOk r Q
if_ok (Ok x) f h = f x h
if_ok (Err e) f h = tt

pub at_err : {T E P : Type 0} (r : Result T E) (failed : Bool) → failed ≡ is_err r → failed ≡ true → OnErr r P → P
at_err (Ok x) failed is refused h = absurd (false≢true (sym is ∙ refused))
at_err (Err e) failed is refused h = h

pub at_ok : {T E : Type 0} {P : T → Type 0} {Q : Type 0} (r : Result T E) (failed : Bool) → failed ≡ is_err r
    → failed ≡ false → ((x : T) → P x → Q) → IfOk r P → Q
at_ok (Ok x) failed is no_error f h = f x h
at_ok (Err e) failed is no_error f h = absurd (false≢true (sym no_error ∙ is))

pub at_no_err : {T E P : Type 0} (r : Result T E) (failed : Bool) → failed ≡ is_err r → failed ≡ false → OnOk r P → P
at_no_err (Ok x) failed is no_error h = h
at_no_err (Err e) failed is no_error h = absurd (false≢true (sym no_error ∙ is))

pub on_err_always : {T E P : Type 0} (r : Result T E) → P → OnErr r P
on_err_always (Ok x) p = tt
on_err_always (Err e) p = p

pub either_way : {T E P Q R : Type 0} (r : Result T E) → OnOk r P → OnErr r Q → (P → R) → (Q → R) → R
either_way (Ok x) ok err f g = f ok
either_way (Err e) ok err f g = g err

-- what comes next leaves the rest
next_left : (xs : List Operation) (i : ℕ) (x : Operation) (rest : List Operation) → drop i xs ≡ x ∷ rest
    → (drop (suc i) xs ≡ rest) × (take (suc i) xs ≡ take i xs ++ x ∷ [])
next_left xs zero x rest e = (ap (drop 1) e, ap (take 1) e)
next_left [] (suc i) x rest e = cc
next_left (y ∷ xs) (suc i) x rest e = let later = next_left xs i x rest e in (later.0, ap (λ l. y ∷ l) later.1)

module _ (old : List Operation) (whole : List Operation) (taken : ℕ) where
  -- one more of them is in
  pub one_more_in : (left now : List Operation) (op : Operation) (self new : List Operation) → left ≡ now ++ op ∷ []
      → reverse left ≡ drop taken whole → self ≡ all_arrived old (take taken whole) → new ≡ arrived self op
      → (reverse now ≡ drop (taken + 1) whole) × (new ≡ all_arrived old (take (taken + 1) whole))
  one_more_in left now op self new popped left_is done came =
      let next = next_left whole taken op (reverse now) (sym left_is ∙ ap reverse popped ∙ reverse-append now (op ∷ [])) in (
        sym next.0 ∙ ap (λ n. drop n whole) (sym (add-one taken)),
        came ∙ ap (λ j. arrived j op) done ∙ sym (all_arrived-push old (take taken whole) op)
            ∙ ap (all_arrived old) (sym next.1 ∙ ap (λ n. take n whole) (sym (add-one taken))),
      )

  -- so not all were in before
  pub one_was_left : (left now : List Operation) (op : Operation) → left ≡ now ++ op ∷ []
      → reverse left ≡ drop taken whole → taken < length whole
  one_was_left left now op popped left_is =
      let rest = sym left_is ∙ ap reverse popped ∙ reverse-append now (op ∷ []) in
      let count = ap length rest in
      omega (arith, length-drop taken whole, count)

  -- all of them are in
  pub all_in : (left self : List Operation) → left ≡ [] → reverse left ≡ drop taken whole
      → self ≡ all_arrived old (take taken whole) → self ≡ all_arrived old whole
  all_in left self none left_is done =
      done ∙ ap (all_arrived old) (sym (append-nil (take taken whole)) ∙ ap (λ r. take taken whole ++ r) (ap reverse (sym none) ∙ left_is) ∙ take-append-drop taken whole)

-- the operations of the other journal, sorted and turned round twice
pub in_order : (other items ordered turned : List Operation) → items ≡ other → AreApart items
    → IsPermutation items ordered → IsSorted operation_cmp ordered → reverse turned ≡ ordered
    → IsInOrderOf other (reverse turned)
in_order other items ordered turned is apart same sorted back =
    subst (IsInOrderOf other) (sym back) (sorted_in_order operations_exact other ordered (subst AreApart is apart) (subst (λ j. IsPermutation j ordered) is same) sorted)
