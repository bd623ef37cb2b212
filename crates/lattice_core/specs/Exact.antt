-- What the test of an exact order says.
use Rattle.std.specs.Prelude.{◌≡◌, true, false}
use Rattle.std.specs.declared.cmp.Ordering.{Ordering}
use Rattle.std.specs.Ordering.{is_eq, eq_by_cmp}
use Rattle.std.specs.Cmp.{tied_itself}
use Rattle.std.proofs.Common.{ap}
use Rattle.std.proofs.lemmas.Bool.{false_from_ne_true}
use Rattle.lattice_core.specs.Tests.{equal}
use Rattle.lattice_core.specs.Keep.{IsExactOrder}

module _ {T : Type 0} {order : T → T → Ordering} (exact_order : IsExactOrder order) where
  pub same_by_test : (x y : T) → eq_by_cmp order x y ≡ true → x ≡ y
  same_by_test x y e = exact_order.exact x y (equal (order x y) e)

  pub test_of_same : (x : T) → eq_by_cmp order x x ≡ true
  test_of_same x = ap is_eq (tied_itself exact_order.total x)

  pub test_of_different : (x y : T) → ¬ (x ≡ y) → eq_by_cmp order x y ≡ false
  test_of_different x y h = false_from_ne_true (eq_by_cmp order x y) (λ e. h (same_by_test x y e))
