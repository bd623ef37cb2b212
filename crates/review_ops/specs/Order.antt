-- The order of deeds and of operations is total, and any two that compare equal are equal.
use Rattle.std.specs.Prelude.{◌≡◌, ℕ, ℤ, pos, List, [], Option, Some, None, refl}
use Rattle.std.specs.declared.cmp.Ordering.{Ordering}
use Rattle.std.specs.declared.cmp.Ordering.TheVariants.{Less, Equal, Greater}
use Rattle.std.specs.Ordering.{nat_cmp, int_cmp, ordering_then}
use Rattle.std.specs.Option.{option_cmp}
use Rattle.std.specs.Cmp.{IsTotalOrder}
use Rattle.std.specs.Cmp.Lexicographic.{slice_cmp, options_total}
use Rattle.std.proofs.Common.{sym, ◌∙◌, ap, subst, arith}
use Rattle.std.proofs.lemmas.Cmp.{nat_cmp_total, int_cmp_total, nat_list_cmp_total, on_total, then_total}
use Rattle.std.proofs.lemmas.Map.Lookups.{CmpEqualImpliesEq, exact_pairs, exact_unsigned, exact_signed, exact_bytes}
use Rattle.lattice_core.specs.Keep.{IsExactOrder}
use Rattle.review_ops.specs.Timestamp.{Timestamp, timestamp_cmp, timestamps_exact}
use Rattle.review_ops.specs.Deed.{Deed, patch_set, vote, withdraw, abandon, restore, merged, deed_cmp}
use Rattle.review_ops.specs.Operation.{Operation, operation_cmp}

exact_option : {T : Type 0} (order : T → T → Ordering) → CmpEqualImpliesEq order → CmpEqualImpliesEq (option_cmp order)
exact_option order exact None None alike = refl
exact_option order exact None (Some y) alike = cc
exact_option order exact (Some x) None alike = cc
exact_option order exact (Some x) (Some y) alike = ap Some (exact x y alike)

ordering_then-Equal : (o : Ordering) → ordering_then o Equal ≡ o
ordering_then-Equal Less = refl
ordering_then-Equal Equal = refl
ordering_then-Equal Greater = refl

-- kind, change, set, label, voter, value, message, parent: what a deed lacks is the least there
abbrev Key : Type 0
Key = ℕ × (ℕ × (ℕ × (List ℕ × (List ℕ × (ℤ × (List ℕ × Option ℕ))))))

abbrev key_of : Deed → Key
key_of (patch_set c s m p) = (0, (c, (s, ([], ([], (pos 0, (m, p)))))))
key_of (vote c s l v x) = (1, (c, (s, (l, (v, (x, ([], None)))))))
key_of (withdraw c s l v) = (2, (c, (s, (l, (v, (pos 0, ([], None)))))))
key_of (abandon c) = (3, (c, (0, ([], ([], (pos 0, ([], None)))))))
key_of (restore c) = (4, (c, (0, ([], ([], (pos 0, ([], None)))))))
key_of (merged c) = (5, (c, (0, ([], ([], (pos 0, ([], None)))))))

abbrev pairs : {A B : Type 0} → (A → A → Ordering) → (B → B → Ordering) → A × B → A × B → Ordering
pairs P Q x y = ordering_then (P x.0 y.0) (Q x.1 y.1)

abbrev key_cmp : Key → Key → Ordering
key_cmp = pairs nat_cmp (pairs nat_cmp (pairs nat_cmp (pairs (slice_cmp nat_cmp) (pairs (slice_cmp nat_cmp) (pairs int_cmp (pairs (slice_cmp nat_cmp) (option_cmp nat_cmp)))))))

deed_cmp-key : (a b : Deed) → deed_cmp a b ≡ key_cmp (key_of a) (key_of b)
deed_cmp-key (patch_set c s m p) (patch_set d t n q) = refl
deed_cmp-key (vote c s l v x) (vote d t k w y) = simp ordering_then-Equal
deed_cmp-key (withdraw c s l v) (withdraw d t k w) = simp ordering_then-Equal
deed_cmp-key (abandon c) (abandon d) = simp ordering_then-Equal
deed_cmp-key (restore c) (restore d) = simp ordering_then-Equal
deed_cmp-key (merged c) (merged d) = simp ordering_then-Equal
deed_cmp-key a b = refl

pairs_total : {A B : Type 0} {P : A → A → Ordering} {Q : B → B → Ordering} → IsTotalOrder P → IsTotalOrder Q
    → IsTotalOrder (pairs P Q)
pairs_total p q = then_total (on_total (λ x. x.0) p) (on_total (λ x. x.1) q)

key_cmp_total : IsTotalOrder key_cmp
key_cmp_total = pairs_total nat_cmp_total (pairs_total nat_cmp_total (pairs_total nat_cmp_total (pairs_total nat_list_cmp_total (pairs_total nat_list_cmp_total (pairs_total int_cmp_total (pairs_total nat_list_cmp_total (options_total nat_cmp_total)))))))

key_cmp_exact : CmpEqualImpliesEq key_cmp
key_cmp_exact = exact_pairs nat_cmp _ exact_unsigned (exact_pairs nat_cmp _ exact_unsigned (exact_pairs nat_cmp _ exact_unsigned (exact_pairs (slice_cmp nat_cmp) _ exact_bytes (exact_pairs (slice_cmp nat_cmp) _ exact_bytes (exact_pairs int_cmp _ exact_signed (exact_pairs (slice_cmp nat_cmp) (option_cmp nat_cmp) exact_bytes (exact_option nat_cmp exact_unsigned)))))))

-- deeds of one key are one
same_key : (a b : Deed) → key_of a ≡ key_of b → a ≡ b
same_key (patch_set c s m p) (patch_set d t n q) h =
    ap (λ (k : Key). patch_set k.1.0 k.1.1.0 k.1.1.1.1.1.1.0 k.1.1.1.1.1.1.1) h
same_key (vote c s l v x) (vote d t k w y) h =
    ap (λ (k : Key). vote k.1.0 k.1.1.0 k.1.1.1.0 k.1.1.1.1.0 k.1.1.1.1.1.0) h
same_key (withdraw c s l v) (withdraw d t k w) h = ap (λ (k : Key). withdraw k.1.0 k.1.1.0 k.1.1.1.0 k.1.1.1.1.0) h
same_key (abandon c) (abandon d) h = ap (λ (k : Key). abandon k.1.0) h
same_key (restore c) (restore d) h = ap (λ (k : Key). restore k.1.0) h
same_key (merged c) (merged d) h = ap (λ (k : Key). merged k.1.0) h
same_key a b h = absurd (omega (arith, ap (λ (k : Key). k.0) h))

deeds_total : IsTotalOrder deed_cmp
deeds_total = subst IsTotalOrder (λ i a b. sym (deed_cmp-key a b) i) (on_total key_of key_cmp_total)

-- deeds that compare alike are one
pub deeds_exact : IsExactOrder deed_cmp
deeds_exact = record {
  total = deeds_total;
  exact = λ a b alike. same_key a b (key_cmp_exact (key_of a) (key_of b) (sym (deed_cmp-key a b) ∙ alike));
}

operation_exact : (x y : Operation) → operation_cmp x y ≡ Equal → x ≡ y
operation_exact x y alike =
    let same = exact_pairs timestamp_cmp deed_cmp timestamps_exact.exact deeds_exact.exact (x.stamp, x.deed) (y.stamp, y.deed) alike in
    ap (λ (k : Timestamp × Deed). record { stamp = k.0; deed = k.1 }) same

-- operations that compare alike are one
pub operations_exact : IsExactOrder operation_cmp
operations_exact = record {
  total = then_total (on_total (λ op. op.stamp) timestamps_exact.total) (on_total (λ op. op.deed) deeds_exact.total);
  exact = operation_exact;
}
