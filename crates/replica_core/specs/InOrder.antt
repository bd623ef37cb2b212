-- A set of operations, put in order: each of them once. A set has one such list, whatever order it came in.
use Rattle.std.specs.Prelude.{◌≡◌, ◌⊎◌, Bool, true, false, ◌||◌, cond, List, [], ◌∷◌}
use Rattle.std.specs.declared.cmp.Ordering.{Ordering}
use Rattle.std.specs.declared.cmp.Ordering.TheVariants.{Less, Equal}
use Rattle.std.specs.Ordering.{eq_by_cmp}
use Rattle.std.specs.Cmp.{tied_itself, eq_by_cmp_equiv}
use Rattle.std.specs.List.{AllByRecursion, IsDistinct, dedup, dedup_from}
use Rattle.std.specs.List.Sorted.{IsPermutation, IsSorted, IsStrictlySortedBy}
use Rattle.std.proofs.Common.{inl, inr, refl, sym, ap, ◌∙◌, subst}
use Rattle.std.proofs.lemmas.List.Kept.{IsStrictlySortedBy-dedup}
use Rattle.std.proofs.lemmas.List.Sorted.{list_any-IsPermutation}
use Rattle.std.proofs.lemmas.Map.Keys.{IsDistinct-IsPermutation}
use Rattle.lattice_core.specs.Keep.{IsExactOrder}
use Rattle.review_ops.specs.Operation.{Operation, operation_cmp}
use Rattle.review_ops.specs.Order.{operations_exact}
use Rattle.std.proofs.lemmas.Bool.{false_from_ne_true}
use Rattle.lattice_core.specs.Exact.{same_by_test, test_of_same, test_of_different}
use Rattle.replica_core.specs.Journal.{same_operation, has, AreApart}

-- the list has just these operations, each below the next
pub record IsInOrder (order : Operation → Operation → Ordering) (ops ordered : List Operation) : Type 0 where
  pub sorted : IsStrictlySortedBy order ordered
  pub members : (op : Operation) → has ordered op ≡ has ops op

-- a journal in the order of operations
abbrev pub IsInOrderOf : List Operation → List Operation → Type 0
IsInOrderOf = IsInOrder operation_cmp

pub same_is_equal : (x y : Operation) → same_operation x y ≡ true → x ≡ y
same_is_equal = same_by_test operations_exact

pub same_itself : (x : Operation) → same_operation x x ≡ true
same_itself = test_of_same operations_exact

flips : (x y : Operation) → same_operation x y ≡ same_operation y x
flips = (eq_by_cmp_equiv operations_exact.total).symm

apart_from : (first : Operation) (ops : List Operation) → AreApart (first ∷ ops)
    → dedup_from same_operation first ops ≡ first ∷ ops
unfolding IsDistinct
apart_from first [] apart = refl
apart_from first (op ∷ ops) apart =
    ap (λ t. cond t (dedup_from same_operation first ops) (first ∷ dedup_from same_operation op ops))
    (flips op first ∙ apart.0.0) ∙ ap (λ l. first ∷ l) (apart_from op ops apart.1)

none_twice : (ops : List Operation) → AreApart ops → dedup same_operation ops ≡ ops
unfolding IsDistinct
none_twice [] apart = refl
none_twice (op ∷ ops) apart = apart_from op ops apart

-- ---- two strictly sorted lists with the same members are one
module _ {order : Operation → Operation → Ordering} (exact_order : IsExactOrder order) where
  not_below_itself : (x : Operation) → order x x ≡ Less → ⊥
  not_below_itself x less = let e : Less ≡ Equal = sym less ∙ tied_itself exact_order.total x in cc

  above_at : (b : Bool) (x y z : Operation) (xs : List Operation) → same_operation y z ≡ b → order x y ≡ Less
      → (has xs z ≡ true → order x z ≡ Less) → (b || has xs z) ≡ true → order x z ≡ Less
  above_at true x y z xs e less later h = subst (λ o. order x o ≡ Less) (same_is_equal y z e) less
  above_at false x y z xs e less later h = later h

  has_above : (x z : Operation) (xs : List Operation) → AllByRecursion (λ y. order x y ≡ Less) xs → has xs z ≡ true
      → order x z ≡ Less
  has_above x z [] above h = cc
  has_above x z (y ∷ xs) above h = above_at (same_operation y z) x y z xs refl above.0 (has_above x z xs above.1) h

  has_no_lower : (x : Operation) (xs : List Operation) → AllByRecursion (λ y. order x y ≡ Less) xs → has xs x ≡ false
  has_no_lower x xs above = false_from_ne_true (has xs x) (λ h. not_below_itself x (has_above x x xs above h))

  head_or_above : (b : Bool) (x y : Operation) (ys : List Operation) → same_operation y x ≡ b
      → AllByRecursion (λ z. order y z ≡ Less) ys → (b || has ys x) ≡ true → (x ≡ y) ⊎ (order y x ≡ Less)
  head_or_above true x y ys e above h = inl (sym (same_is_equal y x e))
  head_or_above false x y ys e above h = inr (has_above y x ys above h)

  heads : (x y : Operation) → (x ≡ y) ⊎ (order y x ≡ Less) → (y ≡ x) ⊎ (order x y ≡ Less) → x ≡ y
  heads x y (inl e) q = e
  heads x y (inr p) (inl e) = sym e
  heads x y (inr p) (inr q) = absurd (not_below_itself x (exact_order.total.trans x y x q p))

  rest_at : (b : Bool) (x op : Operation) (xs ys : List Operation) → same_operation x op ≡ b
      → AllByRecursion (λ z. order x z ≡ Less) xs → AllByRecursion (λ z. order x z ≡ Less) ys
      → (b || has xs op) ≡ (b || has ys op) → has xs op ≡ has ys op
  rest_at true x op xs ys e above also h =
      subst (λ o. has xs o ≡ has ys o) (same_is_equal x op e) (has_no_lower x xs above ∙ sym (has_no_lower x ys also))
  rest_at false x op xs ys e above also h = h

  same_members : (xs ys : List Operation) → IsStrictlySortedBy order xs → IsStrictlySortedBy order ys
      → ((op : Operation) → has xs op ≡ has ys op) → xs ≡ ys
  unfolding IsStrictlySortedBy
  same_members [] [] p q same = refl
  same_members [] (y ∷ ys) p q same = let e : false ≡ true = same y ∙ ap (λ t. t || has ys y) (same_itself y) in cc
  same_members (x ∷ xs) [] p q same = let e : false ≡ true = sym (same x) ∙ ap (λ t. t || has xs x) (same_itself x) in cc
  same_members (x ∷ xs) (y ∷ ys) p q same =
      let first : x ≡ y = heads x y
      (head_or_above (same_operation y x) x y ys refl q.0 (sym (same x) ∙ ap (λ t. t || has xs x) (same_itself x)))
      (head_or_above (same_operation x y) y x xs refl p.0 (same y ∙ ap (λ t. t || has ys y) (same_itself y))) in
      let also : AllByRecursion (λ z. order x z ≡ Less) ys = subst (λ o. AllByRecursion (λ z. order o z ≡ Less) ys) (sym first) q.0 in
      let same_first : (op : Operation) → (same_operation x op || has xs op) ≡ (same_operation x op || has ys op) = λ op. same op ∙ ap (λ o. same_operation o op || has ys op) (sym first) in
      ap (λ o. o ∷ xs) first
      ∙ ap (λ l. y ∷ l)
      (same_members xs ys p.1 q.1 (λ op. rest_at (same_operation x op) x op xs ys refl p.0 also (same_first op)))

  -- a set has one list in order
  pub IsInOrder-unique : (ops ordered others : List Operation) → IsInOrder order ops ordered
      → IsInOrder order ops others → ordered ≡ others
  IsInOrder-unique ops ordered others a b =
      same_members ordered others a.sorted b.sorted (λ op. a.members op ∙ sym (b.members op))

  -- and equal sets have the same one
  pub IsInOrder-same : (ops others ordered : List Operation) → ((op : Operation) → has ops op ≡ has others op)
      → IsInOrder order ops ordered → IsInOrder order others ordered
  IsInOrder-same ops others ordered same is = record { sorted = is.sorted; members = λ op. is.members op ∙ same op }

  -- ---- a list in which none is twice, sorted
  one_test : (b : Bool) (x y : Operation) → same_operation x y ≡ b → b ≡ eq_by_cmp order x y
  one_test true x y e = sym (ap (eq_by_cmp order x) (sym (same_is_equal x y e)) ∙ test_of_same exact_order x)
  one_test false x y e = sym (test_of_different exact_order x y (λ same. let known : true ≡ false = sym (same_itself x) ∙ ap (same_operation x) same ∙ e in cc))

  pub sorted_in_order : (ops ordered : List Operation) → AreApart ops → IsPermutation ops ordered
      → IsSorted order ordered → IsInOrder order ops ordered
  sorted_in_order ops ordered apart permuted sorted = record {
    sorted = subst (IsStrictlySortedBy order)
        (none_twice ordered (IsDistinct-IsPermutation same_operation flips ops ordered permuted apart))
        (IsStrictlySortedBy-dedup exact_order.total {E = same_operation} (λ x y. one_test (same_operation x y) x y refl) ordered sorted);
    members = λ op. sym (list_any-IsPermutation (λ arrived. same_operation arrived op) ops ordered permuted);
  }
