-- Last-writer-wins registers (Shapiro, Preguiça, Baquero and Zawirski, INRIA RR-7506, 2011, section 3.2.1): what a
-- register holds is the greatest of all that was written to it.
use Rattle.std.specs.Prelude.{◌≡◌, true, false, cond, List, [], ◌∷◌, ◌++◌, Option, None, Some, MatchOption, Contains}
use Rattle.std.specs.declared.cmp.Ordering.{Ordering}
use Rattle.std.specs.declared.cmp.Ordering.TheVariants.{Less, Equal, Greater}
use Rattle.std.specs.Ordering.{is_lt, is_gt, ord_max, ordering_reverse}
use Rattle.std.specs.Cmp.{upto, tied_itself}
use Rattle.std.proofs.Common.{refl, sym, ap, ◌∙◌, subst, arith}
use Rattle.std.proofs.lemmas.List.{append-nil}
use Rattle.std.proofs.lemmas.List.Elements.{All-nil, All-cons, All-append, All-weaker, All-contains}
use Rattle.std.proofs.lemmas.List.Elements.{All-contains_itself, Contains-append_left, Contains-append_right}
use Rattle.lattice_core.specs.MemberLaws.{Contains-none}
use Rattle.lattice_core.specs.Keep.{IsExactOrder}
use Rattle.lattice_core.specs.Join.{option_joined}
use Rattle.lattice_core.specs.Greatest.{IsGreatest, IsGreatest-unique}

-- what a register holds after these were written to it, in whatever order and however often: the greatest, or nothing
-- where nothing was
abbrev pub IsRegister : {T : Type 0} → (T → T → Ordering) → List T → Option T → Type 0
IsRegister order written register = MatchOption register (written ≡ []) (IsGreatest order written)

not_above : (r : Ordering) → is_lt r ≡ true → is_gt r ≡ false
not_above Less e = refl
not_above Equal e = refl
not_above Greater e = cc

not_below : (r : Ordering) → is_lt r ≡ false → is_gt (ordering_reverse r) ≡ false
not_below Less e = cc
not_below Equal e = refl
not_below Greater e = refl

module _ {T : Type 0} {order : T → T → Ordering} (exact_order : IsExactOrder order) where
  -- the greater of two registers' values is the greatest of all that was written to either
  IsGreatest-append : (xs ys : List T) (a b : T) → IsGreatest order xs a → IsGreatest order ys b
      → IsGreatest order (xs ++ ys) (ord_max order a b)
  IsGreatest-append xs ys a b is_a is_b =
      elim (is_lt (order b a)) as (λ t. is_lt (order b a) ≡ t → IsGreatest order (xs ++ ys) (cond t a b)) [
        | true ↦ λ e. record {
          among = Contains-append_left xs ys a is_a.among;
          above = All-append (λ value. is_gt (order value a) ≡ false) xs ys is_a.above
              (All-weaker (λ value. is_gt (order value b) ≡ false) (λ value. is_gt (order value a) ≡ false) (λ value h. upto exact_order.total value b a h (not_above (order b a) e)) ys is_b.above);
        }
        | false ↦ λ e. record {
          among = Contains-append_right xs ys b is_b.among;
          above = All-append (λ value. is_gt (order value b) ≡ false) xs ys
              (All-weaker (λ value. is_gt (order value a) ≡ false) (λ value. is_gt (order value b) ≡ false) (λ value h. upto exact_order.total value a b h (ap is_gt (exact_order.total.antisymm a b) ∙ not_below (order b a) e)) xs is_a.above)
              is_b.above;
        }
      ] refl

  pub IsRegister-append : (xs ys : List T) (r s : Option T) → IsRegister order xs r → IsRegister order ys s
      → IsRegister order (xs ++ ys) (option_joined (ord_max order) r s)
  IsRegister-append xs ys None None is_r is_s = ap (λ l. l ++ ys) is_r ∙ is_s
  IsRegister-append xs ys None (Some b) is_r is_s = subst (λ l. IsGreatest order (l ++ ys) b) (sym is_r) is_s
  IsRegister-append xs ys (Some a) None is_r is_s =
      subst (λ l. IsGreatest order l a) (sym (ap (λ l. xs ++ l) is_s ∙ append-nil xs)) is_r
  IsRegister-append xs ys (Some a) (Some b) is_r is_s = IsGreatest-append xs ys a b is_r is_s

  -- a register holds one thing
  pub IsRegister-unique : (xs : List T) (r s : Option T) → IsRegister order xs r → IsRegister order xs s → r ≡ s
  IsRegister-unique xs None None is_r is_s = refl
  IsRegister-unique xs None (Some b) is_r is_s = absurd (Contains-none b (subst (λ l. Contains l b) is_r is_s.among))
  IsRegister-unique xs (Some a) None is_r is_s = absurd (Contains-none a (subst (λ l. Contains l a) is_s is_r.among))
  IsRegister-unique xs (Some a) (Some b) is_r is_s = ap Some (IsGreatest-unique exact_order xs a b is_r is_s)

  -- what was written once
  pub IsRegister-one : (x : T) → IsRegister order (x ∷ []) (Some x)
  IsRegister-one x = record {
    among = (0, omega arith, refl);
    above = All-cons (λ value. is_gt (order value x) ≡ false) x [] (ap is_gt (tied_itself exact_order.total x))
        (All-nil (λ value. is_gt (order value x) ≡ false));
  }

-- what was written counts, and neither in which order nor how often
pub IsRegister-same : {T : Type 0} (order : T → T → Ordering) (xs ys : List T) (r : Option T)
    → ((x : T) → Contains xs x → Contains ys x) → ((x : T) → Contains ys x → Contains xs x) → IsRegister order xs r
    → IsRegister order ys r
IsRegister-same order xs [] None there back is = refl
IsRegister-same order xs (y ∷ ys) None there back is =
    absurd (Contains-none y (subst (λ l. Contains l y) is (back y (0, omega arith, refl))))
IsRegister-same order xs ys (Some a) there back is = record {
  among = there a is.among;
  above = All-weaker (Contains xs) (λ value. is_gt (order value a) ≡ false)
      (λ value h. All-contains (λ v. is_gt (order v a) ≡ false) xs value is.above h) ys
      (All-weaker (Contains ys) (Contains xs) back ys (All-contains_itself ys));
}
