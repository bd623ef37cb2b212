-- The greater of two values in an exact order is a join: the merge of a last-writer-wins register (Shapiro, Preguiça,
-- Baquero and Zawirski, "A comprehensive study of Convergent and Commutative Replicated Data Types", 2011).
use Rattle.std.specs.Prelude.{◌≡◌, Bool, true, false, cond, List, [], ◌∷◌, All, Contains}
use Rattle.std.specs.declared.cmp.Ordering.{Ordering}
use Rattle.std.specs.declared.cmp.Ordering.TheVariants.{Less, Equal, Greater}
use Rattle.std.specs.Ordering.{is_lt, is_gt, ord_max, ordering_reverse}
use Rattle.std.specs.Cmp.{upto, tied_itself}
use Rattle.std.proofs.Common.{refl, sym, ap, ◌∙◌}
use Rattle.std.proofs.lemmas.List.Elements.{All-cons, All-contains, All-contains_itself, All-weaker}
use Rattle.std.proofs.lemmas.List.Elements.{Contains-append_right}
use Rattle.lattice_core.specs.MemberLaws.{Contains-first}
use Rattle.lattice_core.specs.Keep.{IsExactOrder}
use Rattle.lattice_core.specs.Join.{IsJoin, Covers, joined_all, joined_all-IsLeastCover}

-- it is among the values, and none is above it
pub record IsGreatest {T : Type 0} (order : T → T → Ordering) (values : List T) (greatest : T) : Type 0 where
  pub among : Contains values greatest
  pub above : All (λ value. is_gt (order value greatest) ≡ false) values

is_lt-turned : (r : Ordering) → is_lt (ordering_reverse r) ≡ is_gt r
is_lt-turned Less = refl
is_lt-turned Equal = refl
is_lt-turned Greater = refl

Less-from_is_lt : (r : Ordering) → is_lt r ≡ true → r ≡ Less
Less-from_is_lt Less e = refl
Less-from_is_lt Equal e = cc
Less-from_is_lt Greater e = cc

level : (r : Ordering) → is_gt r ≡ false → is_lt r ≡ false → r ≡ Equal
level Less below above = cc
level Equal below above = refl
level Greater below above = cc

one_of_two : {T : Type 0} (b : Bool) (x : T) → cond b x x ≡ x
one_of_two true x = refl
one_of_two false x = refl

module _ {T : Type 0} {order : T → T → Ordering} (exact_order : IsExactOrder order) where
  turned : (a b : T) → is_lt (order b a) ≡ is_gt (order a b)
  turned a b = ap is_lt (exact_order.total.antisymm b a) ∙ is_lt-turned (order a b)

  chained : (a b c : T) → is_lt (order b a) ≡ false → is_lt (order c b) ≡ false → is_lt (order c a) ≡ false
  chained a b c ab bc = turned a c ∙ upto exact_order.total a b c (sym (turned a b) ∙ ab) (sym (turned b c) ∙ bc)

  greater_commutes : (a b : T) → ord_max order a b ≡ ord_max order b a
  greater_commutes a b =
      elim (order b a) as (λ r. order b a ≡ r → cond (is_lt r) a b ≡ ord_max order b a) [
        | Less ↦ λ e. sym (ap (λ r. cond (is_lt r) b a) (exact_order.total.antisymm a b ∙ ap ordering_reverse e))
        | Equal ↦ λ e. exact_order.exact b a e
            ∙ sym (ap (λ r. cond (is_lt r) b a) (exact_order.total.antisymm a b ∙ ap ordering_reverse e))
        | Greater ↦ λ e. sym (ap (λ r. cond (is_lt r) b a) (exact_order.total.antisymm a b ∙ ap ordering_reverse e))
      ] refl

  greater_idempotent : (a : T) → ord_max order a a ≡ a
  greater_idempotent a = one_of_two (is_lt (order a a)) a

  greater_below : (a b c : T) → is_lt (order b a) ≡ true → is_lt (order c b) ≡ true → ord_max order a c ≡ a
  greater_below a b c ba cb = ap (λ t. cond t a c)
      (ap is_lt (exact_order.total.trans c b a (Less-from_is_lt (order c b) cb) (Less-from_is_lt (order b a) ba)))

  greater_associates : (a b c : T) → ord_max order (ord_max order a b) c ≡ ord_max order a (ord_max order b c)
  greater_associates a b c =
      elim (is_lt (order b a)) as (λ t. is_lt (order b a) ≡ t → ord_max order (cond t a b) c ≡ ord_max order a (ord_max order b c)) [
        | true ↦ λ ba. elim (is_lt (order c b)) as (λ s. is_lt (order c b) ≡ s → ord_max order a c ≡ ord_max order a (cond s b c)) [
          | true ↦ λ cb. greater_below a b c ba cb ∙ sym (ap (λ t. cond t a b) ba)
          | false ↦ λ cb. refl
        ] refl
        | false ↦ λ ba. elim (is_lt (order c b)) as (λ s. is_lt (order c b) ≡ s → cond s b c ≡ ord_max order a (cond s b c)) [
          | true ↦ λ cb. sym (ap (λ t. cond t a b) ba)
          | false ↦ λ cb. sym (ap (λ t. cond t a c) (chained a b c ba cb))
        ] refl
      ] refl

  pub greater_join : IsJoin (ord_max order)
  greater_join =
      record { commutes = greater_commutes; associates = greater_associates; idempotent = greater_idempotent }

  pub not_below-Covers : (a b : T) → Covers (ord_max order) a b → is_lt (order a b) ≡ false
  not_below-Covers a b h =
      elim (order a b) as (λ r. order a b ≡ r → is_lt r ≡ false) [
        | Less ↦ λ e. ap is_lt (sym e ∙ ap (order a) (sym (ap (λ r. cond (is_lt r) a b) (exact_order.total.antisymm b a ∙ ap ordering_reverse e)) ∙ h) ∙ tied_itself exact_order.total a)
        | Equal ↦ λ e. refl
        | Greater ↦ λ e. refl
      ] refl

  Contains-greater : (a b : T) (rest : List T) → Contains (a ∷ b ∷ rest) (ord_max order a b)
  Contains-greater a b rest =
      elim (is_lt (order b a)) as (λ t. Contains (a ∷ b ∷ rest) (cond t a b)) [
        | true ↦ Contains-first a (b ∷ rest)
        | false ↦ Contains-append_right (a ∷ []) (b ∷ rest) b (Contains-first b rest)
      ]

  Contains-joined_all : (first : T) (rest : List T) → Contains (first ∷ rest) (joined_all (ord_max order) first rest)
  Contains-joined_all first [] = Contains-first first []
  Contains-joined_all first (x ∷ rest) =
      All-contains (Contains (first ∷ x ∷ rest)) (ord_max order first x ∷ rest)
      (joined_all (ord_max order) (ord_max order first x) rest)
      (All-cons (Contains (first ∷ x ∷ rest)) (ord_max order first x) rest (Contains-greater first x rest)
      (All-weaker (Contains rest) (Contains (first ∷ x ∷ rest)) (λ s h. Contains-append_right (first ∷ x ∷ []) rest s h) rest (All-contains_itself rest)))
      (Contains-joined_all (ord_max order first x) rest)

  -- the join of registers' pairs is the greatest of them
  pub joined_all-IsGreatest : (first : T) (rest : List T)
      → IsGreatest order (first ∷ rest) (joined_all (ord_max order) first rest)
  joined_all-IsGreatest first rest = record {
    among = Contains-joined_all first rest;
    above = All-weaker (Covers (ord_max order) (joined_all (ord_max order) first rest))
        (λ value. is_gt (order value (joined_all (ord_max order) first rest)) ≡ false)
        (λ value covers. sym (turned value (joined_all (ord_max order) first rest)) ∙ not_below-Covers (joined_all (ord_max order) first rest) value covers)
        (first ∷ rest) (joined_all-IsLeastCover greater_join first rest).covers_all;
  }

  pub IsGreatest-unique : (values : List T) (a b : T) → IsGreatest order values a → IsGreatest order values b → a ≡ b
  IsGreatest-unique values a b is_a is_b =
      let below : is_gt (order a b) ≡ false = All-contains (λ value. is_gt (order value b) ≡ false) values a is_b.above is_a.among in
      let above : is_gt (order b a) ≡ false = All-contains (λ value. is_gt (order value a) ≡ false) values b is_a.above is_b.among in
      exact_order.exact a b (level (order a b) below (turned b a ∙ above))
