-- What the order of a kept value's shapes is, and how the order of a type of several parts follows from theirs.
use Rattle.std.specs.Prelude.{◌≡◌, Bool, true, false, Option, None, Some}
use Rattle.std.specs.declared.cmp.Ordering.{Ordering}
use Rattle.std.specs.declared.cmp.Ordering.TheVariants.{Equal}
use Rattle.std.specs.Ordering.{nat_cmp, int_cmp, bool_cmp, ordering_then, on}
use Rattle.std.specs.Option.{option_cmp, option_map}
use Rattle.std.specs.Cmp.{IsTotalOrder, bool_cmp_total, on_total, then_total}
use Rattle.std.specs.Cmp.Lexicographic.{slice_cmp, lists_total, options_total}
use Rattle.std.specs.FinMap.{nat_cmp-IsAntisymmetric, int_cmp-IsAntisymmetric, slice_cmp-IsAntisymmetric}
use Rattle.std.proofs.Common.{refl, sym, ap, ◌∙◌}
use Rattle.std.proofs.lemmas.Cmp.{nat_cmp_total, int_cmp_total}
use Rattle.std.proofs.lemmas.Map.Lookups.{exact_pairs}

-- a total order in which values that compare alike are one value
pub record IsExactOrder {T : Type 0} (order : T → T → Ordering) : Type 0 where
  pub total : IsTotalOrder order
  pub exact : (x y : T) → order x y ≡ Equal → x ≡ y

pub numbers_exact : IsExactOrder nat_cmp
numbers_exact = record { total = nat_cmp_total; exact = nat_cmp-IsAntisymmetric }

pub integers_exact : IsExactOrder int_cmp
integers_exact = record { total = int_cmp_total; exact = int_cmp-IsAntisymmetric }

same_flags : (x y : Bool) → bool_cmp x y ≡ Equal → x ≡ y
same_flags false false e = refl
same_flags false true e = cc
same_flags true false e = cc
same_flags true true e = refl

pub flags_exact : IsExactOrder bool_cmp
flags_exact = record { total = bool_cmp_total; exact = same_flags }

-- lists in the order of dictionaries
pub lists_exact : {T : Type 0} {order : T → T → Ordering} → IsExactOrder order → IsExactOrder (slice_cmp order)
lists_exact o = record { total = lists_total o.total; exact = slice_cmp-IsAntisymmetric o.exact }

pub texts_exact : IsExactOrder (slice_cmp nat_cmp)
texts_exact = lists_exact numbers_exact

-- pairs by the first part, then by the second
abbrev pub pair_order : {A B : Type 0} → (A → A → Ordering) → (B → B → Ordering) → A × B → A × B → Ordering
pair_order by_first by_second x y = ordering_then (by_first x.0 y.0) (by_second x.1 y.1)

pub pairs_exact : {A B : Type 0} {by_first : A → A → Ordering} {by_second : B → B → Ordering} → IsExactOrder by_first
    → IsExactOrder by_second → IsExactOrder (pair_order by_first by_second)
pairs_exact {by_first = P} {by_second = Q} o p = record {
  total = then_total (on_total (λ x. x.0) o.total) (on_total (λ x. x.1) p.total);
  exact = exact_pairs P Q o.exact p.exact;
}

same_options : {T : Type 0} {order : T → T → Ordering} → IsExactOrder order → (x y : Option T)
    → option_cmp order x y ≡ Equal → x ≡ y
same_options o None None e = refl
same_options o None (Some y) e = cc
same_options o (Some x) None e = cc
same_options o (Some x) (Some y) e = ap Some (o.exact x y e)

-- options, where none is the least
pub options_exact : {T : Type 0} {order : T → T → Ordering} → IsExactOrder order → IsExactOrder (option_cmp order)
options_exact o = record { total = options_total o.total; exact = same_options o }

-- values by what `read` reads of them, where `back` gives each value again
pub on_exact : {T S : Type 0} {order : S → S → Ordering} (read : T → S) (back : S → T) → ((x : T) → back (read x) ≡ x)
    → IsExactOrder order → IsExactOrder (on read order)
on_exact read back undone o = record {
  total = on_total read o.total;
  exact = λ x y e. sym (undone x) ∙ ap back (o.exact (read x) (read y) e) ∙ undone y;
}

-- an option's order is the order of what is read of it
pub option_cmp-map : {T S : Type 0} (cmp : T → T → Ordering) (order : S → S → Ordering) (read : T → S)
    → ((a b : T) → cmp a b ≡ order (read a) (read b)) → (a b : Option T)
    → option_cmp cmp a b ≡ option_cmp order (option_map read a) (option_map read b)
option_cmp-map cmp order read same None None = refl
option_cmp-map cmp order read same None (Some b) = refl
option_cmp-map cmp order read same (Some a) None = refl
option_cmp-map cmp order read same (Some a) (Some b) = same a b
