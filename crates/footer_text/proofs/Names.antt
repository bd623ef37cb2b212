-- The first base under which a value names a change.
use Rattle.std.proofs.Common.{◌≡◌, ℕ, ◌<◌, ◌≤◌, ◌+◌, List, [], ◌∷◌, ◌++◌, length, take, drop, get_or, suc, Contains}
use Rattle.std.proofs.Common.{inl, inr, refl, sym, ap, ◌∙◌, subst, arith, take-append-drop, add-one, drop-cons}
use Rattle.std.proofs.lemmas.List.{take_more, take_all}
use Rattle.std.proofs.lemmas.List.Elements.{Contains-push_cases, Contains-append_right}
use Rattle.footer_text.specs.Readings.{ReadsAs, NamesChange}

module _ (bases : List (List ℕ)) (value : List ℕ) (i : ℕ)
    (none : (earlier : List ℕ) (other : ℕ) → Contains (take i bases) earlier → ¬ (ReadsAs earlier value other)) where
  module _ (inside : i < length bases) (base : List ℕ) (here : get_or bases i [] ≡ base) where
    cut : bases ≡ take i bases ++ base ∷ drop (i + 1) bases
    cut = sym (take-append-drop i bases)
        ∙ ap (λ l. take i bases ++ l) (rw (add-one, drop-cons bases i []) (ap (λ b. b ∷ drop (suc i) bases) here))

    pub names_here : (change : ℕ) → ReadsAs base value change → NamesChange bases value change
    names_here change reads = record {
      before = take i bases;
      base = base;
      after = drop (i + 1) bases;
      whole = cut;
      reads = reads;
      first = none;
    }

    pub none_more : ((change : ℕ) → ¬ (ReadsAs base value change)) → (earlier : List ℕ) (other : ℕ)
        → Contains (take (i + 1) bases) earlier → ¬ (ReadsAs earlier value other)
    none_more not_here earlier other c reads =
        let parted : Contains (take i bases ++ base ∷ []) earlier = subst (λ l. Contains l earlier) (take_more bases i [] inside ∙ ap (λ b. take i bases ++ b ∷ []) here) c in
        elim (Contains-push_cases (take i bases) base earlier parted) [
          | inl before ↦ none earlier other before reads
          | inr same ↦ not_here other (subst (λ b. ReadsAs b value other) (sym same) reads)
        ]

  pub none_named : length bases ≤ i → (change : ℕ) → ¬ (NamesChange bases value change)
  none_named all change n =
      let has : Contains bases n.base = subst (λ l. Contains l n.base) (sym n.whole) (Contains-append_right n.before (n.base ∷ n.after) n.base (0, omega arith, refl)) in
      none n.base change (subst (λ l. Contains l n.base) (sym (take_all i bases all)) has) n.reads
