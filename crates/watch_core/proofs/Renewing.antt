-- Verdicts into whose lists all that was found of the items that are judged again was put are brought up.
use Rattle.std.proofs.Common.{◌≡◌, ◌↔◌, ◌⊎◌, ◌||◌, ℕ, Bool, true, false, List, [], Contains, map, refl, sym, ap, subst}
use Rattle.std.proofs.Common.{inl, inr}
use Rattle.std.specs.Ordering.{nat_cmp}
use Rattle.std.specs.BTreeSet.{BTreeSet, contains}
use Rattle.std.specs.List.Sorted.{IsStrictlySortedBy}
use Rattle.walk_core.specs.Ranks.{rank_cmp}
use Rattle.state_core.specs.Items.{item_cmp}
use Rattle.ready_core.specs.Verdicts.{items_out}
use Rattle.watch_core.specs.Namers.{has_item, is_again}
use Rattle.lattice_core.specs.MemberLaws.{Contains-of_map, Contains-to_map}
use Rattle.walk_core.specs.Ranks.{Rank}
use Rattle.state_core.specs.declared.item.Item.{Item}
use Rattle.ready_core.specs.declared.ranked.ItemRank.{ItemRank}
use Rattle.ready_core.specs.declared.verdicts.Left.{Left}
use Rattle.ready_core.specs.ItemRanks.{to_rank}
use Rattle.ready_core.specs.RankedVerdicts.{RankedVerdicts}
use Rattle.watch_core.specs.BroughtUp.{IsBroughtUp, IsBy}
use Rattle.watch_core.specs.Placed.{AreLists, FindsAgain, HasNew, IsFoundAgain, IsIn, IsOneEach, StandOnce, left_item}
use Rattle.watch_core.specs.Placed.{node_of}
use Rattle.watch_core.proofs.Bringing.{by_false, by_flag, by_true, either}
use Rattle.watch_core.proofs.Exchange.{HasNew-after_none, HasNew-then_none}
use Rattle.watch_core.proofs.Stays.{not_both}

by_same : (flag : Bool) (P Q R S : Type 0) → P ↔ R → Q ↔ S → IsBy flag P Q ↔ IsBy flag R S
by_same true P Q R S first second = first
by_same false P Q R S first second = second

-- ---- ranks as they are kept
abbrev kept_rank : Rank Item → ItemRank
kept_rank rank = record { count = rank.count; first = rank.first; node = rank.node }

rank_there : (ranks : List ItemRank) (rank : Rank Item)
    → Contains ranks (kept_rank rank) ↔ Contains (map to_rank ranks) rank
rank_there ranks rank = (
  λ has. Contains-to_map to_rank ranks (kept_rank rank) has,
  λ has. let found = Contains-of_map to_rank ranks rank has in subst (Contains ranks) (ap kept_rank found.2) found.1,
)

pub one_each_rank : (ranks : List ItemRank) → IsOneEach (λ (rank : Rank Item). rank.node) (map to_rank ranks)
    → IsOneEach node_of ranks
one_each_rank ranks once = record {
  one = λ a b has also same. ap kept_rank (once.one (to_rank a) (to_rank b) (Contains-to_map to_rank ranks a has) (Contains-to_map to_rank ranks b also) same);
}

-- ---- what was found of the items that are judged again, and of the others what was kept
by_judged : {X : Type 0} (judged : Item → Bool) (of : X → Item) (changed : Item → Type 0) (found kept new : List X)
    → HasNew of changed found kept new → ((item : Item) → changed item → judged item ≡ true)
    → ((x : X) → Contains found x → judged (of x) ≡ true → changed (of x))
    → ((x : X) → Contains kept x → judged (of x) ≡ true → changed (of x))
    → (x : X) → Contains new x ↔ IsBy (judged (of x)) (Contains found x) (Contains kept x)
by_judged judged of changed found kept new are means of_found of_kept x = (
  λ has. elim ((are.each x).0 has) [
    | inl is ↦ by_true (judged (of x)) (Contains found x) (Contains kept x) (means (of x) is.0) is.1
    | inr rest ↦ elim (either (judged (of x))) [
      | inl again ↦ absurd (rest.0 (of_kept x rest.1 again))
      | inr other ↦ by_false (judged (of x)) (Contains found x) (Contains kept x) other rest.1
    ]
  ],
  λ by. elim (by_flag (judged (of x)) (Contains found x) (Contains kept x) by) [
    | inl is ↦ (are.each x).1 (inl (of_found x is.1 is.0, is.1))
    | inr rest ↦ (are.each x).1 (inr (λ is. not_both (judged (of x)) (means (of x) is) rest.0, rest.1))
  ],
)

module _ (judged : Item → Bool) (kept_ranks found_ranks mid_ranks new_ranks : List ItemRank)
    (kept_out found_out mid_out new_out : List Left) (found : RankedVerdicts)
    (ranks_are : map to_rank found_ranks ≡ found.ranks) (out_is : found_out ≡ found.out) (once : StandOnce found)
    (finds : FindsAgain judged (record { ranks = map to_rank kept_ranks; out = kept_out }) found) where
  abbrev IsReadyAgain : Item → Type 0
  IsReadyAgain = IsFoundAgain node_of judged found_ranks

  abbrev IsOutAgain : Item → Type 0
  IsOutAgain = IsFoundAgain left_item judged found_out

  abbrev IsFound : Item → Type 0
  IsFound item = IsReadyAgain item ⊎ IsOutAgain item

  ready_apart : (rank : ItemRank) → Contains found_ranks rank → ¬ IsOutAgain rank.node
  ready_apart rank has is =
      once.apart.none (to_rank rank) is.one
      (subst (λ l. Contains l (to_rank rank)) ranks_are (Contains-to_map to_rank found_ranks rank has))
      (subst (λ l. Contains l is.one) out_is is.there) (sym is.is)

  out_apart : (left : Left) → Contains found_out left → ¬ IsReadyAgain left.item
  out_apart left has is =
      once.apart.none (to_rank is.one) left
      (subst (λ l. Contains l (to_rank is.one)) ranks_are (Contains-to_map to_rank found_ranks is.one is.there))
      (subst (λ l. Contains l left) out_is has) is.is

  is_judged : (item : Item) → IsFound item → judged item ≡ true
  is_judged item (inl is) = is.again
  is_judged item (inr is) = is.again

  covers : (item : Item) → judged item ≡ true → IsIn (record { ranks = map to_rank kept_ranks; out = kept_out }) item
      → IsFound item
  covers item again stands = elim (finds.finds item again stands) [
    | inl ready ↦
        let rank = Contains-of_map (λ (r : Rank Item). r.node) found.ranks item ready in
        let there = (rank_there found_ranks rank.0).1 (subst (λ l. Contains l rank.0) (sym ranks_are) rank.1) in
        inl (record { again = again; one = kept_rank rank.0; there = there; is = rank.2 })
    | inr out ↦
        let left = Contains-of_map left_item found.out item out in
        inr (record { again = again; one = left.0; there = subst (λ l. Contains l left.0) (sym out_is) left.1; is = left.2 })
  ]

  pub renewed : (ready : List Item) → HasNew node_of IsReadyAgain found_ranks kept_ranks mid_ranks
      → HasNew node_of IsOutAgain [] mid_ranks new_ranks → HasNew left_item IsReadyAgain [] kept_out mid_out
      → HasNew left_item IsOutAgain found_out mid_out new_out → AreLists ready new_ranks new_out
      → IsBroughtUp judged (record { ranks = map to_rank kept_ranks; out = kept_out }) found
      (record { ranks = map to_rank new_ranks; out = new_out })
  renewed ready ranks_first ranks_then out_first out_then are =
      let ranks = by_judged judged node_of IsFound found_ranks kept_ranks new_ranks (HasNew-then_none node_of IsReadyAgain IsOutAgain found_ranks kept_ranks mid_ranks new_ranks ready_apart ranks_first ranks_then)
      is_judged (λ rank has again. inl (record { again = again; one = rank; there = has; is = refl }))
      (λ rank has again. covers rank.node again (inl (Contains-to_map (λ (r : Rank Item). r.node) (map to_rank kept_ranks) (to_rank rank) (Contains-to_map to_rank kept_ranks rank has)))) in
      let out = by_judged judged left_item IsFound found_out kept_out new_out (HasNew-after_none left_item IsReadyAgain IsOutAgain found_out kept_out mid_out new_out out_apart out_first out_then)
      is_judged (λ left has again. inr (record { again = again; one = left; there = has; is = refl })) (λ left has again. covers left.item again (inr (Contains-to_map left_item kept_out left has))) in
      record {
        ranks = λ rank.
            let same = by_same (judged rank.node) (Contains found_ranks (kept_rank rank))
            (Contains kept_ranks (kept_rank rank)) (Contains found.ranks rank)
            (Contains (map to_rank kept_ranks) rank)
            (subst (λ l. Contains found_ranks (kept_rank rank) ↔ Contains l rank) ranks_are (rank_there found_ranks rank)) (rank_there kept_ranks rank) in
            let there = rank_there new_ranks rank in
            let its = ranks (kept_rank rank) in
            (λ has. same.0 (its.0 (there.1 has)), λ by. there.0 (its.1 (same.1 by)));
        out = λ left. subst
            (λ l. Contains new_out left ↔ IsBy (judged left.item) (Contains l left) (Contains kept_out left)) out_is
            (out left);
        rising = are.ranked.rising;
        out_in_order = are.out_in_order;
      }

-- ---- where all items are judged again
pub again_all : (touched : BTreeSet ℕ) (all : Bool) (items : BTreeSet (ℕ × ℕ)) → all ≡ true → (item : Item)
    → is_again touched all items item ≡ true
again_all touched all items is item = subst
    (λ a. (contains nat_cmp touched item.change || (a || has_item items item)) ≡ true) (sym is)
    (or_true (contains nat_cmp touched item.change)) where
      or_true : (b : Bool) → (b || true) ≡ true
      or_true true = refl
      or_true false = refl

pub renewed_whole : (judged : Item → Bool) (kept found : RankedVerdicts) (ranks : List (Rank Item)) (out : List Left)
    → ((item : Item) → judged item ≡ true) → ranks ≡ found.ranks → out ≡ found.out
    → IsStrictlySortedBy (rank_cmp item_cmp) found.ranks → IsStrictlySortedBy item_cmp (items_out found.out)
    → IsBroughtUp judged kept found (record { ranks = ranks; out = out })
renewed_whole judged kept found ranks out all same_ranks same_out rising in_order =
    let same : found ≡ record { ranks = ranks; out = out } = λ i. record {
      ranks = sym same_ranks i;
      out = sym same_out i;
    } in
    subst (IsBroughtUp judged kept found) same (record {
      ranks = λ rank. (
        λ has. by_true (judged rank.node) (Contains found.ranks rank) (Contains kept.ranks rank) (all rank.node) has,
        λ by. elim (by_flag (judged rank.node) (Contains found.ranks rank) (Contains kept.ranks rank) by) [ inl is ↦ is.1 | inr rest ↦ absurd (not_both (judged rank.node) (all rank.node) rest.0) ],
      );
      out = λ left. (
        λ has. by_true (judged left.item) (Contains found.out left) (Contains kept.out left) (all left.item) has,
        λ by. elim (by_flag (judged left.item) (Contains found.out left) (Contains kept.out left) by) [ inl is ↦ is.1 | inr rest ↦ absurd (not_both (judged left.item) (all left.item) rest.0) ],
      );
      rising = rising;
      out_in_order = in_order;
    })

pub lists_whole : (ready : List Item) (ranks : List ItemRank) (out : List Left) (found : RankedVerdicts)
    → ready ≡ map node_of ranks → map to_rank ranks ≡ found.ranks → out ≡ found.out → StandOnce found
    → IsStrictlySortedBy (rank_cmp item_cmp) found.ranks → IsStrictlySortedBy item_cmp (items_out found.out)
    → AreLists ready ranks out
lists_whole ready ranks out found nodes same_ranks same_out once rising in_order = record {
  ranked = record {
    nodes = nodes;
    rising = subst (IsStrictlySortedBy (rank_cmp item_cmp)) (sym same_ranks) rising;
    one_each = one_each_rank ranks (subst (IsOneEach (λ (rank : Rank Item). rank.node)) (sym same_ranks) once.ranks);
  };
  out_in_order = subst (λ (l : List Left). IsStrictlySortedBy item_cmp (items_out l)) (sym same_out) in_order;
  apart = record {
    none = λ rank left has also same.
        once.apart.none (to_rank rank) left
        (subst (λ l. Contains l (to_rank rank)) same_ranks (Contains-to_map to_rank ranks rank has))
        (subst (λ l. Contains l left) same_out also) same;
  };
}
