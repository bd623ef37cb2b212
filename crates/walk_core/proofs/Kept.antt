-- Which nodes are kept: those that are marked, in order or from the last of a list on.
use Rattle.std.proofs.Common.{◌≡◌, ◌↔◌, ◌⊎◌, inl, inr, ◌+◌, ◌-◌, ◌<◌, ◌≤◌, ℕ, suc, List, [], ◌∷◌, ◌++◌, Bool, true}
use Rattle.std.proofs.Common.{false, Some, sym, ◌∙◌, ap, subst, length, drop, get_or, arith}
use Rattle.std.specs.List.{Contains, slice_get}
use Rattle.std.specs.Ordering.{nat_cmp}
use Rattle.std.specs.List.Sorted.{IsStrictlySortedBy}
use Rattle.std.proofs.lemmas.Bool.{cases_eq}
use Rattle.std.proofs.lemmas.List.Elements.{Contains-push_cases, Contains-push, Contains-append_left}
use Rattle.std.proofs.lemmas.Option.{slice_get-get_or, slice_get_within}
use Rattle.std.proofs.Math.Seq.{drop-cons}
use Rattle.walk_core.specs.Digraphs.{IsMarked}
use Rattle.walk_core.specs.RankLaws.{nat_cmp-less}
use Rattle.lattice_core.specs.MemberLaws.{sorted_push, Contains-none, Contains-cons_cases, Contains-first}
use Rattle.lattice_core.specs.MemberLaws.{Contains-later}
use Rattle.walk_core.proofs.Blocks.{none_sorted}

pub marked_of : (kept : List Bool) (i : ℕ) (d : Bool) → i < length kept → get_or kept i d ≡ true → IsMarked kept i
marked_of kept i d within is = slice_get-get_or kept i d within ∙ ap Some is

pub unmarked_of : (kept : List Bool) (i : ℕ) (d : Bool) → i < length kept → get_or kept i d ≡ false → ¬ IsMarked kept i
unmarked_of kept i d within is marked = let at : slice_get kept i ≡ Some false = slice_get-get_or kept i d within ∙ ap Some is in cc

-- ---- in order

pub record HasKept (kept : List Bool) (count : ℕ) (nodes : List ℕ) : Type 0 where
  pub just : (x : ℕ) → Contains nodes x ↔ ((x < count) × IsMarked kept x)
  pub in_order : IsStrictlySortedBy nat_cmp nodes

pub kept_none : (kept : List Bool) → HasKept kept 0 []
kept_none kept = record {
  just = λ x. (λ here. absurd (Contains-none x here), λ is. let less = is.0 in absurd (omega (arith, less)));
  in_order = none_sorted;
}

module _ (kept : List Bool) (count : ℕ) (nodes : List ℕ) (has : HasKept kept count nodes) where
  pub kept_skips : ¬ IsMarked kept count → HasKept kept (count + 1) nodes
  kept_skips not = record {
    just = λ x. (
      λ here. let was = (has.just x).0 here in let less = was.0 in (omega (arith, less), was.1),
      λ is. elim (cases_eq x count) [
        | inl same ↦ absurd (not (subst (IsMarked kept) same is.1))
        | inr other ↦ let less = is.0 in (has.just x).1 (omega (arith, less, other), is.1)
      ],
    );
    in_order = has.in_order;
  }

  pub kept_takes : IsMarked kept count → HasKept kept (count + 1) (nodes ++ count ∷ [])
  kept_takes marked = record {
    just = λ x. (
      λ here. elim (Contains-push_cases nodes count x here) [
        | inl old ↦ let was = (has.just x).0 old in let less = was.0 in (omega (arith, less), was.1)
        | inr same ↦ (omega (arith, same), subst (IsMarked kept) same marked)
      ],
      λ is. elim (cases_eq x count) [
        | inl same ↦ subst (Contains (nodes ++ count ∷ [])) (sym same) (Contains-push nodes count)
        | inr other ↦ let less = is.0 in Contains-append_left nodes (count ∷ []) x
            ((has.just x).1 (omega (arith, less, other), is.1))
      ],
    );
    in_order = sorted_push nat_cmp nodes count has.in_order (λ x here. nat_cmp-less x count ((has.just x).0 here).0);
  }

  pub kept_all : length kept ≤ count → (x : ℕ) → Contains nodes x ↔ IsMarked kept x
  kept_all all x = (
    λ here. ((has.just x).0 here).1,
    λ marked. let within = slice_get_within kept x true marked in (has.just x).1 (omega (arith, within, all), marked),
  )

-- ---- from the last on

abbrev pub KeepsFrom : List Bool → List ℕ → ℕ → List ℕ → Type 0
KeepsFrom kept nodes left found = (x : ℕ) → Contains found x ↔ (Contains (drop left nodes) x × IsMarked kept x)

pub keeps_none : (kept : List Bool) (nodes : List ℕ) (left : ℕ) → drop left nodes ≡ [] → KeepsFrom kept nodes left []
keeps_none kept nodes left none x = (
  λ here. absurd (Contains-none x here),
  λ is. absurd (Contains-none x (subst (λ ys. Contains ys x) none is.0)),
)

module _ (kept : List Bool) (nodes found : List ℕ) (left node : ℕ) (some : 0 < left) (within : left ≤ length nodes)
    (is : node ≡ get_or nodes (left - 1) node) (keeps : KeepsFrom kept nodes left found) where
  one_more : drop (left - 1) nodes ≡ node ∷ drop left nodes
  one_more =
      let next : suc (left - 1) ≡ left = omega (arith, some) in
      drop-cons nodes (left - 1) node (omega (arith, some, within))
      ∙ ap (λ n. get_or nodes (left - 1) node ∷ drop n nodes) next ∙ ap (λ y. y ∷ drop left nodes) (sym is)

  from_here : (x : ℕ) → Contains (drop (left - 1) nodes) x → (node ≡ x) ⊎ Contains (drop left nodes) x
  from_here x here = Contains-cons_cases node (drop left nodes) x (subst (λ ys. Contains ys x) one_more here)

  pub keeps_skips : ¬ IsMarked kept node → KeepsFrom kept nodes (left - 1) found
  keeps_skips not x = (
    λ here. let was = (keeps x).0 here in (subst (λ ys. Contains ys x) (sym one_more) (Contains-later node (drop left nodes) x was.0), was.1),
    λ has. elim (from_here x has.0) [
      | inl same ↦ absurd (not (subst (IsMarked kept) (sym same) has.1))
      | inr later ↦ (keeps x).1 (later, has.1)
    ],
  )

  pub keeps_takes : IsMarked kept node → KeepsFrom kept nodes (left - 1) (found ++ node ∷ [])
  keeps_takes marked x = (
    λ here. elim (Contains-push_cases found node x here) [
      | inl old ↦ let was = (keeps x).0 old in (subst (λ ys. Contains ys x) (sym one_more) (Contains-later node (drop left nodes) x was.0), was.1)
      | inr same ↦ (subst (λ ys. Contains ys x) (sym one_more) (subst (Contains (node ∷ drop left nodes)) same (Contains-first node (drop left nodes))), subst (IsMarked kept) same marked)
    ],
    λ has. elim (from_here x has.0) [
      | inl same ↦ subst (Contains (found ++ node ∷ [])) same (Contains-push found node)
      | inr later ↦ Contains-append_left found (node ∷ []) x ((keeps x).1 (later, has.1))
    ],
  )

pub keeps_all : (kept : List Bool) (nodes found : List ℕ) (left : ℕ) → left ≡ 0 → KeepsFrom kept nodes left found
    → ((x : ℕ) → Contains nodes x ↔ x < length kept) → (x : ℕ) → Contains found x ↔ IsMarked kept x
keeps_all kept nodes found left none keeps all x = (
  λ here. ((keeps x).0 here).1,
  λ marked. (keeps x).1
      (subst (λ n. Contains (drop n nodes) x) (sym none) ((all x).1 (slice_get_within kept x true marked)), marked),
)
