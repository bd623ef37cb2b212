-- What holds while the entries of a map are walked, one after another.
use Rattle.std.specs.Prelude.{◌≡◌, ◌↔◌, List, [], ◌∷◌, Option, Some, MatchOption}
use Rattle.std.specs.declared.cmp.Ordering.{Ordering}
use Rattle.std.specs.List.{AllByRecursion}
use Rattle.std.specs.FinMap.{FinMap, empty, get, entries}
use Rattle.std.proofs.Common.{sym, ap, ◌∙◌, subst}
use Rattle.lattice_core.specs.Keep.{IsExactOrder}
use Rattle.lattice_core.specs.Join.{IsJoin, IsBetween, Covers, option_joined, Covers-trans}
use Rattle.lattice_core.specs.JoinMap.{map_joined, put_joined, put_all, maps_join, Covers-put_joined}
use Rattle.lattice_core.specs.JoinMap.{Covers-put_all, Covers-by_entries, put_all-entries, map_joined-put_all}

module _ {S T : Type 0} {order : S → S → Ordering} where
  -- the map covers the first one, and with the rest joined in it is the whole
  pub record IsPartlyJoined (joined : T → T → T) (first whole now : FinMap order T) (rest : List (S × T)) : Type 0 where
    pub covers_first : Covers (map_joined joined) now first
    pub left : put_all joined now rest ≡ whole

  -- the copy is the whole once the rest is joined into it
  abbrev pub IsPartlyCopied : (T → T → T) → FinMap order T → FinMap order T → List (S × T) → Type 0
  IsPartlyCopied joined whole now rest = put_all joined now rest ≡ whole

  -- the other map is covered where the rest of its entries is
  abbrev pub IsCoveredWith : (T → T → T) → FinMap order T → FinMap order T → List (S × T) → Type 0
  IsCoveredWith joined m n rest =
      Covers (map_joined joined) m n ↔ AllByRecursion (λ e. Covers (option_joined joined) (get m e.0) (Some e.1)) rest

  pub IsPartlyCopied-more : (joined : T → T → T) (whole now next : FinMap order T) (rest : List (S × T)) (e : S × T)
      (later : List (S × T)) → rest ≡ e ∷ later → IsPartlyCopied joined whole now rest
      → next ≡ put_joined joined now e.0 e.1 → IsPartlyCopied joined whole next later
  IsPartlyCopied-more joined whole now next rest e later is so_far step =
      ap (λ n. put_all joined n later) step ∙ ap (put_all joined now) (sym is) ∙ so_far

  module _ (exact_order : IsExactOrder order) where
    pub IsPartlyJoined-start : {joined : T → T → T} → IsJoin joined → (m n : FinMap order T) (es : List (S × T))
        → entries n ≡ es → IsPartlyJoined joined m (map_joined joined m n) m es
    IsPartlyJoined-start {joined = joined} laws m n es is = record {
      covers_first = (maps_join exact_order laws).idempotent m;
      left = ap (put_all joined m) (sym is) ∙ sym (map_joined-put_all exact_order joined m n);
    }

    pub IsPartlyJoined-more : {joined : T → T → T} → IsJoin joined
        → (first whole now next : FinMap order T) (rest : List (S × T)) (e : S × T) (later : List (S × T))
        → rest ≡ e ∷ later → IsPartlyJoined joined first whole now rest → next ≡ put_joined joined now e.0 e.1
        → IsPartlyJoined joined first whole next later
    IsPartlyJoined-more {joined = joined} laws first whole now next rest e later is so_far step = record {
      covers_first = Covers-trans (maps_join exact_order laws) next now first (subst (λ n. Covers (map_joined joined) n now) (sym step) (Covers-put_joined exact_order laws now e.0 e.1)) so_far.covers_first;
      left = ap (λ n. put_all joined n later) step ∙ ap (put_all joined now) (sym is) ∙ so_far.left;
    }

    pub IsPartlyJoined-refused : {joined : T → T → T} → IsJoin joined → (first whole now next : FinMap order T)
        (rest : List (S × T)) (e : S × T)
        (later : List (S × T)) → rest ≡ e ∷ later → IsPartlyJoined joined first whole now rest → IsBetween
        (map_joined joined) now next (put_joined joined now e.0 e.1) → IsBetween (map_joined joined) first next whole
    IsPartlyJoined-refused {joined = joined} laws first whole now next rest e later is so_far between =
        let step = put_joined joined now e.0 e.1 in
        let to_whole : put_all joined step later ≡ whole = ap (put_all joined now) (sym is) ∙ so_far.left in
        record {
          covers_low = Covers-trans (maps_join exact_order laws) next now first between.covers_low so_far.covers_first;
          is_covered = Covers-trans (maps_join exact_order laws) whole step next (subst (λ n. Covers (map_joined joined) n step) to_whole (Covers-put_all exact_order laws step later)) between.is_covered;
        }

    pub IsPartlyCopied-start : (joined : T → T → T) (m : FinMap order T) (es : List (S × T)) → entries m ≡ es
        → IsPartlyCopied joined m empty es
    IsPartlyCopied-start joined m es is = ap (put_all joined empty) (sym is) ∙ put_all-entries exact_order joined m

    pub IsCoveredWith-start : (joined : T → T → T) (m n : FinMap order T) (es : List (S × T)) → entries n ≡ es
        → IsCoveredWith joined m n es
    IsCoveredWith-start joined m n es is =
        subst (IsCoveredWith joined m n) is (Covers-by_entries exact_order joined m n)

-- what the next pair leaves
pub after_first : {A X : Type 0} (shows : A → X) (s t : List X) (r : Option A) (x : A) → r ≡ Some x
    → MatchOption r ((s ≡ []) × (t ≡ [])) (λ y. s ≡ shows y ∷ t) → s ≡ shows x ∷ t
after_first shows s t r x e h = subst (λ o. MatchOption o ((s ≡ []) × (t ≡ [])) (λ y. s ≡ shows y ∷ t)) e h
