-- What a join is: Shapiro, Preguiça, Baquero and Zawirski, "Conflict-free replicated data types" (2011): replicas of a
-- state-based type merge by the join of a semilattice. What a state covers is the semilattice's order.
use Rattle.std.specs.Prelude.{◌≡◌, ◌↔◌, List, [], ◌∷◌, Option, None, Some, All, Contains, fold}
use Rattle.std.specs.List.{reduce}
use Rattle.std.proofs.Common.{refl, sym, ap, ◌∙◌, subst}
use Rattle.std.proofs.lemmas.List.Elements.{All-nil, All-head, All-tail, All-cons, All-contains, All-contains_itself}
use Rattle.std.proofs.lemmas.List.Elements.{All-weaker}

-- commutative, associative and idempotent
pub record IsJoin {S : Type 0} (joined : S → S → S) : Type 0 where
  pub commutes : (a b : S) → joined a b ≡ joined b a
  pub associates : (a b c : S) → joined (joined a b) c ≡ joined a (joined b c)
  pub idempotent : (a : S) → joined a a ≡ a

-- a has all that b has: to join b into a gives a
abbrev pub Covers : {S : Type 0} → (S → S → S) → S → S → Type 0
Covers joined a b = joined a b ≡ a

-- the state covers the low one and is covered by the high one
pub record IsBetween {S : Type 0} (joined : S → S → S) (low state high : S) : Type 0 where
  pub covers_low : Covers joined state low
  pub is_covered : Covers joined high state

-- the least state that covers all of these
pub record IsLeastCover {S : Type 0} (joined : S → S → S) (states : List S) (cover : S) : Type 0 where
  pub covers_all : All (Covers joined cover) states
  pub least : (c : S) → All (Covers joined c) states → Covers joined c cover

-- the first one joined with each of the others, from the left
abbrev pub joined_all : {S : Type 0} → (S → S → S) → S → List S → S
joined_all joined first rest = fold joined first rest

-- ---- options: none is the least
abbrev pub option_joined : {S : Type 0} → (S → S → S) → Option S → Option S → Option S
option_joined joined None b = b
option_joined joined (Some a) None = Some a
option_joined joined (Some a) (Some b) = Some (joined a b)

-- ---- pairs, part by part
abbrev pub pair_joined : {S T : Type 0} → (S → S → S) → (T → T → T) → S × T → S × T → S × T
pair_joined by_first by_second a b = (by_first a.0 b.0, by_second a.1 b.1)

module _ {S : Type 0} {joined : S → S → S} where
  option_commutes : IsJoin joined → (a b : Option S) → option_joined joined a b ≡ option_joined joined b a
  option_commutes laws None None = refl
  option_commutes laws None (Some b) = refl
  option_commutes laws (Some a) None = refl
  option_commutes laws (Some a) (Some b) = ap Some (laws.commutes a b)

  option_associates : IsJoin joined → (a b c : Option S)
      → option_joined joined (option_joined joined a b) c ≡ option_joined joined a (option_joined joined b c)
  option_associates laws None b c = refl
  option_associates laws (Some a) None c = refl
  option_associates laws (Some a) (Some b) None = refl
  option_associates laws (Some a) (Some b) (Some c) = ap Some (laws.associates a b c)

  option_idempotent : IsJoin joined → (a : Option S) → option_joined joined a a ≡ a
  option_idempotent laws None = refl
  option_idempotent laws (Some a) = ap Some (laws.idempotent a)

  pub options_join : IsJoin joined → IsJoin (option_joined joined)
  options_join laws = record {
    commutes = option_commutes laws;
    associates = option_associates laws;
    idempotent = option_idempotent laws;
  }

  pub pairs_join : {T : Type 0} {joined' : T → T → T} → IsJoin joined → IsJoin joined'
      → IsJoin (pair_joined joined joined')
  pairs_join laws laws' = record {
    commutes = λ a b i. (laws.commutes a.0 b.0 i, laws'.commutes a.1 b.1 i);
    associates = λ a b c i. (laws.associates a.0 b.0 c.0 i, laws'.associates a.1 b.1 c.1 i);
    idempotent = λ a i. (laws.idempotent a.0 i, laws'.idempotent a.1 i);
  }

  pub pairs_between : {T : Type 0} {joined' : T → T → T} {low state high : S} {low' state' high' : T}
      → IsBetween joined low state high → IsBetween joined' low' state' high'
      → IsBetween (pair_joined joined joined') (low, low') (state, state') (high, high')
  pairs_between first second = record {
    covers_low = λ i. (first.covers_low i, second.covers_low i);
    is_covered = λ i. (first.is_covered i, second.is_covered i);
  }

-- ---- lists of pairs and of options
-- ---- the order that a join gives
module _ {S : Type 0} {joined : S → S → S} (laws : IsJoin joined) where
  pub Covers-itself : (a : S) → Covers joined a a
  Covers-itself a = laws.idempotent a

  pub Covers-trans : (a b c : S) → Covers joined a b → Covers joined b c → Covers joined a c
  Covers-trans a b c ab bc = ap (λ s. joined s c) (sym ab) ∙ laws.associates a b c ∙ ap (joined a) bc ∙ ab

  pub Covers-antisymm : (a b : S) → Covers joined a b → Covers joined b a → a ≡ b
  Covers-antisymm a b ab ba = sym ab ∙ laws.commutes a b ∙ ba

  pub Covers-left : (a b : S) → Covers joined (joined a b) a
  Covers-left a b =
      laws.commutes (joined a b) a ∙ sym (laws.associates a a b) ∙ ap (λ s. joined s b) (laws.idempotent a)

  pub Covers-right : (a b : S) → Covers joined (joined a b) b
  Covers-right a b = laws.associates a b b ∙ ap (joined a) (laws.idempotent b)

  pub Covers-joined : (c a b : S) → Covers joined c a → Covers joined c b → Covers joined c (joined a b)
  Covers-joined c a b ca cb = sym (laws.associates c a b) ∙ ap (λ s. joined s b) ca ∙ cb

  -- both ways round, covering says that two states are one
  pub Covers-both_ways : (a b : S) → a ≡ b → Covers joined a b × Covers joined b a
  Covers-both_ways a b same = (ap (joined a) (sym same) ∙ laws.idempotent a, ap (joined b) same ∙ laws.idempotent b)

  pub IsBetween-low : (low high : S) → Covers joined high low → IsBetween joined low low high
  IsBetween-low low high h = record { covers_low = Covers-itself low; is_covered = h }

  pub IsBetween-high : (low high : S) → Covers joined high low → IsBetween joined low high high
  IsBetween-high low high h = record { covers_low = h; is_covered = Covers-itself high }

  -- ---- the join of a list
  Covers-joined_all_first : (first : S) (rest : List S) → Covers joined (joined_all joined first rest) first
  Covers-joined_all_first first [] = Covers-itself first
  Covers-joined_all_first first (x ∷ rest) = Covers-trans (joined_all joined (joined first x) rest)
      (joined first x) first (Covers-joined_all_first (joined first x) rest) (Covers-left first x)

  Covers-joined_all_rest : (first : S) (rest : List S) → All (Covers joined (joined_all joined first rest)) rest
  Covers-joined_all_rest first [] = All-nil (Covers joined (joined_all joined first []))
  Covers-joined_all_rest first (x ∷ rest) = All-cons (Covers joined (joined_all joined (joined first x) rest)) x rest
      (Covers-trans (joined_all joined (joined first x) rest) (joined first x) x (Covers-joined_all_first (joined first x) rest) (Covers-right first x))
      (Covers-joined_all_rest (joined first x) rest)

  least_cover : (c first : S) (rest : List S) → Covers joined c first → All (Covers joined c) rest
      → Covers joined c (joined_all joined first rest)
  least_cover c first [] h all = h
  least_cover c first (x ∷ rest) h all = least_cover c (joined first x) rest
      (Covers-joined c first x h (All-head (Covers joined c) x rest all)) (All-tail (Covers joined c) x rest all)

  -- the join of a list is its least upper bound
  pub joined_all-IsLeastCover : (first : S) (rest : List S)
      → IsLeastCover joined (first ∷ rest) (joined_all joined first rest)
  joined_all-IsLeastCover first rest = record {
    covers_all = All-cons (Covers joined (joined_all joined first rest)) first rest (Covers-joined_all_first first rest)
        (Covers-joined_all_rest first rest);
    least = λ c all. least_cover c first rest (All-head (Covers joined c) first rest all)
        (All-tail (Covers joined c) first rest all);
  }

  pub reduce-IsLeastCover : (states : List S) (whole : S) → reduce joined states ≡ Some whole
      → IsLeastCover joined states whole
  reduce-IsLeastCover [] whole e = cc
  reduce-IsLeastCover (first ∷ rest) whole e =
      let is : joined_all joined first rest ≡ whole = cc in
      subst (IsLeastCover joined (first ∷ rest)) is (joined_all-IsLeastCover first rest)

  -- neither the order nor repeats matter: lists with the same members join alike
  pub joined_all-same_members : (first : S) (rest : List S) (first' : S) (rest' : List S)
      → ((s : S) → Contains (first ∷ rest) s ↔ Contains (first' ∷ rest') s)
      → joined_all joined first rest ≡ joined_all joined first' rest'
  joined_all-same_members first rest first' rest' same =
      let mine = joined_all-IsLeastCover first rest in
      let theirs = joined_all-IsLeastCover first' rest' in
      Covers-antisymm (joined_all joined first rest) (joined_all joined first' rest')
      (theirs.least _ (All-weaker (Contains (first' ∷ rest')) (Covers joined (joined_all joined first rest)) (λ s h. All-contains (Covers joined (joined_all joined first rest)) (first ∷ rest) s mine.covers_all ((same s).1 h)) (first' ∷ rest') (All-contains_itself (first' ∷ rest'))))
      (mine.least _ (All-weaker (Contains (first ∷ rest)) (Covers joined (joined_all joined first' rest')) (λ s h. All-contains (Covers joined (joined_all joined first' rest')) (first' ∷ rest') s theirs.covers_all ((same s).0 h)) (first ∷ rest) (All-contains_itself (first ∷ rest))))
