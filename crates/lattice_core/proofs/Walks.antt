-- What holds while the entries of a map are walked, one after another.
use Rattle.std.specs.Prelude.{◌≡◌, ◌↔◌, List, ◌∷◌, Option, None, Some}
use Rattle.std.specs.declared.cmp.Ordering.{Ordering}
use Rattle.std.specs.List.{AllByRecursion}
use Rattle.std.specs.FinMap.{FinMap, empty, get, insert, entries}
use Rattle.std.proofs.Common.{refl, sym, ap, ◌∙◌, subst}
use Rattle.lattice_core.specs.Keep.{IsExactOrder}
use Rattle.lattice_core.specs.Join.{IsJoin, IsBetween, Covers, option_joined, Covers-trans}
use Rattle.lattice_core.specs.JoinMap.{joined_to, map_joined, put_joined, put_all, maps_join, Covers-put_joined}
use Rattle.lattice_core.specs.JoinMap.{Covers-put_all, Covers-by_entries, put_all-entries, map_joined-put_all}

-- the later of two values stays
last_stays : {T : Type 0} (own : Option T) (value : T) → joined_to (λ _ last. last) own value ≡ value
last_stays None value = refl
last_stays (Some own) value = refl

module _ {S T : Type 0} {order : S → S → Ordering} where
  -- the map covers the first one, and with the rest joined in it is the whole
  pub record IsPartlyJoined (joined : T → T → T) (first whole now : FinMap order T) (rest : List (S × T)) : Type 0 where
    pub covers_first : Covers (map_joined joined) now first
    pub left : put_all joined now rest ≡ whole

  -- the copy is the whole once the rest is put into it
  abbrev pub IsPartlyCopied : FinMap order T → FinMap order T → List (S × T) → Type 0
  IsPartlyCopied whole now rest = put_all (λ _ value. value) now rest ≡ whole

  -- the other map is covered where the rest of its entries is
  abbrev pub IsCoveredWith : (T → T → T) → FinMap order T → FinMap order T → List (S × T) → Type 0
  IsCoveredWith joined m n rest =
      Covers (map_joined joined) m n ↔ AllByRecursion (λ e. Covers (option_joined joined) (get m e.0) (Some e.1)) rest

  pub IsPartlyCopied-more : (whole now next : FinMap order T) (rest : List (S × T)) (e : S × T) (later : List (S × T))
      → rest ≡ e ∷ later → IsPartlyCopied whole now rest → next ≡ insert now e.0 e.1 → IsPartlyCopied whole next later
  IsPartlyCopied-more whole now next rest e later is so_far step =
      ap (λ n. put_all (λ _ value. value) n later) (step ∙ ap (insert now e.0) (sym (last_stays (get now e.0) e.1)))
      ∙ ap (put_all (λ _ value. value) now) (sym is) ∙ so_far

  module _ (exact_order : IsExactOrder order) where
    pub IsPartlyJoined-start : {joined : T → T → T} → IsJoin joined → (m n : FinMap order T) (es : List (S × T))
        → entries n ≡ es → IsPartlyJoined joined m (map_joined joined m n) m es
    IsPartlyJoined-start {joined = joined} laws m n es is = record {
      covers_first = (maps_join exact_order laws).idempotent m;
      left = ap (put_all joined m) (sym is) ∙ sym (map_joined-put_all exact_order joined m n);
    }

    pub IsPartlyJoined-more : {joined : T → T → T} → IsJoin joined
        → (first whole now next : FinMap order T) (rest : List (S × T)) (e : S × T) (later : List (S × T))
        → rest ≡ e ∷ later → IsPartlyJoined joined first whole now rest → next ≡ put_joined joined now e.0 e.1
        → IsPartlyJoined joined first whole next later
    IsPartlyJoined-more {joined = joined} laws first whole now next rest e later is so_far step = record {
      covers_first = Covers-trans (maps_join exact_order laws) next now first (subst (λ n. Covers (map_joined joined) n now) (sym step) (Covers-put_joined exact_order laws now e.0 e.1)) so_far.covers_first;
      left = ap (λ n. put_all joined n later) step ∙ ap (put_all joined now) (sym is) ∙ so_far.left;
    }

    pub IsPartlyJoined-refused : {joined : T → T → T} → IsJoin joined → (first whole now next : FinMap order T)
        (rest : List (S × T)) (e : S × T)
        (later : List (S × T)) → rest ≡ e ∷ later → IsPartlyJoined joined first whole now rest → IsBetween
        (map_joined joined) now next (put_joined joined now e.0 e.1) → IsBetween (map_joined joined) first next whole
    IsPartlyJoined-refused {joined = joined} laws first whole now next rest e later is so_far between =
        let step = put_joined joined now e.0 e.1 in
        let to_whole : put_all joined step later ≡ whole = ap (put_all joined now) (sym is) ∙ so_far.left in
        record {
          covers_low = Covers-trans (maps_join exact_order laws) next now first between.covers_low so_far.covers_first;
          is_covered = Covers-trans (maps_join exact_order laws) whole step next (subst (λ n. Covers (map_joined joined) n step) to_whole (Covers-put_all exact_order laws step later)) between.is_covered;
        }

    pub IsPartlyCopied-start : (m : FinMap order T) (es : List (S × T)) → entries m ≡ es → IsPartlyCopied m empty es
    IsPartlyCopied-start m es is =
        ap (put_all (λ _ value. value) empty) (sym is) ∙ put_all-entries exact_order (λ _ value. value) m

    pub IsCoveredWith-start : (joined : T → T → T) (m n : FinMap order T) (es : List (S × T)) → entries n ≡ es
        → IsCoveredWith joined m n es
    IsCoveredWith-start joined m n es is =
        subst (IsCoveredWith joined m n) is (Covers-by_entries exact_order joined m n)
