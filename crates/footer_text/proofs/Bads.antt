-- The texts of which bases are made, up to a place.
use Rattle.std.proofs.Common.{◌≡◌, ℕ, ◌<◌, ◌≤◌, ◌+◌, List, [], ◌∷◌, ◌++◌, length, map, take, get_or, sym, ap, ◌∙◌}
use Rattle.std.proofs.Common.{subst, inl, inr, arith}
use Rattle.std.specs.Borrow.{Bor}
use Rattle.std.specs.List.{All}
use Rattle.std.proofs.lemmas.List.{get_or-map, length-map, map-append, take_all, take_more}
use Rattle.std.proofs.lemmas.List.Elements.{All-more}
use Rattle.std.proofs.lemmas.Option.{slice_get-get_or}
use Rattle.footer_text.specs.Bases.{IsBase, AreBases, IsFirstBad}

-- the bytes of texts
abbrev pub bytes : List (Bor (List ℕ)) → List (List ℕ)
bytes texts = map (λ text. text.now) texts

module _ (texts : List (Bor (List ℕ))) (place : ℕ) (before : All IsBase (take place (bytes texts))) where
  module _ (d : Bor (List ℕ)) (inside : place < length texts) where
    within : place < length (bytes texts)
    within = rw length-map inside

    here : get_or (bytes texts) place [] ≡ (get_or texts place d).now
    here = get_or-map (λ text. text.now) texts place d [] inside

    pub ninth_is_bad : place ≡ 8 → IsFirstBad (bytes texts) place
    ninth_is_bad most = record {
      before = before;
      most = omega arith;
      here = inr (get_or (bytes texts) place [], slice_get-get_or (bytes texts) place [] within, inl most);
    }

    pub other_is_bad : place ≤ 8 → ¬ (IsBase (get_or texts place d).now) → IsFirstBad (bytes texts) place
    other_is_bad most bad = record { before = before; most = most; here = inr (get_or (bytes texts) place [], slice_get-get_or (bytes texts) place [] within, inr (λ good. bad (subst IsBase here good))) }

    pub one_more_base : IsBase (get_or texts place d).now → All IsBase (take (place + 1) (bytes texts))
    one_more_base good = All-more IsBase (bytes texts) place [] within before (subst IsBase (sym here) good)

  pub all_are_bases : 0 < length texts → length texts ≤ place → place ≤ 8 → AreBases (bytes texts)
  all_are_bases some all most =
      let whole : take place (bytes texts) ≡ bytes texts = take_all place (bytes texts) (rw length-map all) in
      record { some = rw length-map some; few = rw length-map (omega arith); each = rw whole at before }

-- one text more is kept, seen by f
pub kept_more : {S : Type 0} (f : S → List ℕ) (items new : List S) (x : S) (texts : List (Bor (List ℕ))) (i : ℕ)
    (d : Bor (List ℕ)) → i < length texts
    → map f items ≡ take i (bytes texts) → f x ≡ (get_or texts i d).now → new ≡ items ++ x ∷ []
    → map f new ≡ take (i + 1) (bytes texts)
kept_more f items new x texts i d inside seen same e =
    let all : i < length (bytes texts) = rw length-map inside in
    let here = get_or-map (λ text. text.now) texts i d [] inside in
    ap (map f) e ∙ map-append f items (x ∷ []) ∙ ap (λ l. l ++ f x ∷ []) seen
    ∙ ap (λ y. take i (bytes texts) ++ y ∷ []) (same ∙ sym here) ∙ sym (take_more (bytes texts) i [] all)
