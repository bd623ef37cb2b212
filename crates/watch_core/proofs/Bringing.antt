-- Verdicts of which those of the reached items are found anew and the others are kept.
use Rattle.std.proofs.Common.{◌≡◌, ◌↔◌, ◌⊎◌, Bool, true, false, not, List, Contains, map, refl, ap, ◌∙◌, subst, inl}
use Rattle.std.proofs.Common.{inr}
use Rattle.lattice_core.specs.MemberLaws.{Contains-of_map, Contains-to_map}
use Rattle.walk_core.specs.Ranks.{IsRank, Rank}
use Rattle.gate_rules.specs.Rules.{GateRules}
use Rattle.state_core.specs.declared.item.Item.{Item}
use Rattle.state_core.specs.State.{State}
use Rattle.state_core.specs.Items.{IsItem, item_cmp}
use Rattle.graph_core.specs.Dependencies.{IsDependency}
use Rattle.ready_core.specs.declared.verdicts.Left.{Left}
use Rattle.ready_core.specs.Refusals.{IsReady, IsRefused}
use Rattle.ready_core.specs.Verdicts.{items_out}
use Rattle.watch_core.specs.Untouched.{IsUntouched, others}
use Rattle.watch_core.specs.BroughtUp.{AreRankedVerdicts, AreRankedVerdictsOn, HoldsItems, IsBroughtUp, IsBy}
use Rattle.watch_core.specs.BroughtUp.{RankedVerdicts}
use Rattle.watch_core.proofs.Local.{ready_along, rank_same, refused_along, same_item, turned}

-- what is by a flag is by one of both
pub by_flag : (flag : Bool) (P Q : Type 0) → IsBy flag P Q → ((flag ≡ true) × P) ⊎ ((not flag ≡ true) × Q)
by_flag true P Q is = inl (refl, is)
by_flag false P Q is = inr (refl, is)

pub by_true : (flag : Bool) (P Q : Type 0) → flag ≡ true → P → IsBy flag P Q
by_true true P Q is p = p
by_true false P Q is p = cc

pub by_false : (flag : Bool) (P Q : Type 0) → not flag ≡ true → Q → IsBy flag P Q
by_false true P Q is q = cc
by_false false P Q is q = q

pub either : (flag : Bool) → (flag ≡ true) ⊎ (not flag ≡ true)
either true = inl refl
either false = inr refl

module _ (gate : GateRules) (before after : State) (reached : Item → Bool)
    (untouched : IsUntouched gate before after (others reached))
    (old found new : RankedVerdicts) (was : AreRankedVerdicts gate before old) (items : List Item)
    (are : AreRankedVerdictsOn gate after items found)
    (holds : HoldsItems after reached items) (up : IsBroughtUp reached old found new) where
  back : IsUntouched gate after before (others reached)
  back = turned gate before after (others reached) untouched

  is_ready : (rank : Rank Item) → Contains new.ranks rank → IsReady gate after rank.node
  is_ready rank has =
      elim (by_flag (reached rank.node) (Contains found.ranks rank) (Contains old.ranks rank) ((up.ranks rank).0 has)) [
        | inl there ↦
            let ready = (are.verdicts.ready rank.node).0 (Contains-to_map (λ (r : Rank Item). r.node) found.ranks rank there.1) in ready.1
        | inr kept ↦
            ready_along gate before after (others reached) untouched back rank.node kept.0
            ((was.verdicts.ready rank.node).0 (Contains-to_map (λ (r : Rank Item). r.node) old.ranks rank kept.1))
      ]

  has_ready : (item : Item) → IsReady gate after item → Contains (map (λ (r : Rank Item). r.node) new.ranks) item
  has_ready item ready = elim (either (reached item)) [
    | inl there ↦
        let eligible = ready.closed.members item ready.has in
        let rank = Contains-of_map (λ (r : Rank Item). r.node) found.ranks item ((are.verdicts.ready item).1 (holds item eligible.there there, ready)) in
        let flag : reached rank.0.node ≡ true = ap reached rank.2 ∙ there in
        subst (Contains (map (λ (r : Rank Item). r.node) new.ranks)) rank.2
        (Contains-to_map (λ (r : Rank Item). r.node) new.ranks rank.0
        ((up.ranks rank.0).1 (by_true (reached rank.0.node) (Contains found.ranks rank.0) (Contains old.ranks rank.0) flag rank.1)))
    | inr kept ↦
        let rank = Contains-of_map (λ (r : Rank Item). r.node) old.ranks item ((was.verdicts.ready item).1 (ready_along gate after before (others reached) back untouched item kept ready)) in
        let flag : not (reached rank.0.node) ≡ true = ap (λ i. not (reached i)) rank.2 ∙ kept in
        subst (Contains (map (λ (r : Rank Item). r.node) new.ranks)) rank.2
        (Contains-to_map (λ (r : Rank Item). r.node) new.ranks rank.0
        ((up.ranks rank.0).1 (by_false (reached rank.0.node) (Contains found.ranks rank.0) (Contains old.ranks rank.0) flag rank.1)))
  ]

  is_out : (left : Left) → Contains new.out left
      → IsItem after left.item × ¬ IsReady gate after left.item × IsRefused gate after left.item left.refusal left.rank
  is_out left has =
      elim (by_flag (reached left.item) (Contains found.out left) (Contains old.out left) ((up.out left).0 has)) [
        | inl there ↦
            let out = (are.verdicts.out left.item).0 (Contains-to_map (λ (l : Left). l.item) found.out left there.1) in
            (are.part.each left.item out.0, out.1, are.verdicts.refused left there.1)
        | inr kept ↦
            let out = (was.verdicts.out left.item).0 (Contains-to_map (λ (l : Left). l.item) old.out left kept.1) in (
              same_item before after left.item (untouched.own left.item kept.0) out.0,
              λ ready. out.1 (ready_along gate after before (others reached) back untouched left.item kept.0 ready),
              refused_along gate before after (others reached) untouched back left.item kept.0 left.refusal left.rank
                  (was.verdicts.refused left kept.1),
            )
      ]

  has_out : (item : Item) → IsItem after item → ¬ IsReady gate after item → Contains (items_out new.out) item
  has_out item is unready = elim (either (reached item)) [
    | inl there ↦
        let left = Contains-of_map (λ (l : Left). l.item) found.out item ((are.verdicts.out item).1 (holds item is there, unready)) in
        let flag : reached left.0.item ≡ true = ap reached left.2 ∙ there in
        subst (Contains (items_out new.out)) left.2 (Contains-to_map (λ (l : Left). l.item) new.out left.0
        ((up.out left.0).1 (by_true (reached left.0.item) (Contains found.out left.0) (Contains old.out left.0) flag left.1)))
    | inr kept ↦
        let was_item = same_item after before item (back.own item kept) is in
        let was_unready : ¬ IsReady gate before item = λ ready. unready (ready_along gate before after (others reached) untouched back item kept ready) in
        let left = Contains-of_map (λ (l : Left). l.item) old.out item ((was.verdicts.out item).1 (was_item, was_unready)) in
        let flag : not (reached left.0.item) ≡ true = ap (λ i. not (reached i)) left.2 ∙ kept in
        subst (Contains (items_out new.out)) left.2 (Contains-to_map (λ (l : Left). l.item) new.out left.0
        ((up.out left.0).1 (by_false (reached left.0.item) (Contains found.out left.0) (Contains old.out left.0) flag left.1)))
  ]

  is_rank : (rank : Rank Item) → Contains new.ranks rank
      → IsRank item_cmp (IsDependency gate after) (IsReady gate after) rank
  is_rank rank has =
      elim (by_flag (reached rank.node) (Contains found.ranks rank) (Contains old.ranks rank) ((up.ranks rank).0 has)) [
        | inl there ↦ are.ranks rank there.1
        | inr kept ↦ rank_same gate before after (others reached) untouched back rank kept.0 (was.ranks rank kept.1)
      ]

  ready_just : (item : Item) → Contains (map (λ (r : Rank Item). r.node) new.ranks) item ↔ IsReady gate after item
  ready_just item = (
    λ has. let rank = Contains-of_map (λ (r : Rank Item). r.node) new.ranks item has in subst
        (IsReady gate after) rank.2 (is_ready rank.0 rank.1),
    has_ready item,
  )

  pub brought_up : AreRankedVerdicts gate after new
  brought_up = record {
    verdicts = record {
      ready = ready_just;
      out = λ item. (
        λ has.
            let left = Contains-of_map (λ (l : Left). l.item) new.out item has in
            let is = is_out left.0 left.1 in
            subst (λ i. IsItem after i × ¬ IsReady gate after i) left.2 (is.0, is.1),
        λ left. has_out item left.0 left.1,
      );
      refused = λ left has. let is = is_out left has in is.2;
      ready_in_order = record { just = ready_just; ranks = new.ranks; of = refl; each = is_rank; rising = up.rising };
      out_in_order = up.out_in_order;
    };
    ranks = is_rank;
  }
